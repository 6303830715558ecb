-- What a ledger finds of a name: the one slot that has it, where the list of live allocations has it too. Assumes nothing.
use Prim.Native.Nat.{ℕ, ◌*◌, ◌/◌, ◌≤◌, ◌<◌}
use mathlib.Core.Path.{◌≡◌, refl, sym, ap, ◌∙◌, subst}
use mathlib.Core.Bool.{true}
use mathlib.Core.List.{List}
use native.Mathlib.Omega.{arith}
use lib.ListN.{length}
use borrow.Author.Tests.{lt-ltb}
use Rattle.std.specs.Prelude.{Option, Some, None, is_some, option_map}
use Rattle.std.proofs.lemmas.Option.{same_Some, none-some, option_and_then_some}
use Rattle.std.proofs.lemmas.List.Quantifiers.{position-Some}
use Rattle.std.proofs.lemmas.List.Sums.{fails_before_first}
use Rattle.std.specs.List.{position_or_len}
use Rattle.laws.specs.Lists.{Among}
use Rattle.laws.proofs.BoolLaws.{clash, same_test}
use Rattle.tokens.specs.declared.Name.{Name}
use Rattle.rules.specs.State as rules
use Rattle.rules.specs.State.{Allocation, covers, is_free, free_from}
use Rattle.tokens.proofs.Names.{same_true, same_name_lem}
use Rattle.ledger.specs.declared.Holding.{Holding}
use Rattle.ledger.specs.declared.Ledger.{Ledger}
use Rattle.ledger.specs.declared.Span.{Span}
use Rattle.ledger.specs.Slots.{slot_i, is_of}
use Rattle.ledger.specs.Booking.{slot, span_at, found, columns_in}
use Rattle.ledger.specs.Shows.{allocation, slot_at, Live, size_of, name_of, HoldsIn, FindsIn}
use Rattle.ledger.proofs.AllocationLaws.{among_live, live_among, columns_of_lem, columns-none, unique_same}

-- ---- one slot
-- its allocation
pub held : (o : Option Holding) (i : ℕ) (a : Allocation) → option_map (allocation i) o ≡ Some a → (h : Holding) × (o ≡ Some h) × (allocation i h ≡ a)
held (Some h) i a e = (h, refl, same_Some (allocation i h) a e)
held None i a e = absurd (none-some a e)

-- it has the name
is_of_true : (n : Name) (o : Option Holding) → is_of n o ≡ true → (h : Holding) × (o ≡ Some h) × (h.name ≡ n)
is_of_true n (Some h) e = (h, refl, same_true h.name n e)
is_of_true n None e = absurd (clash e refl)

-- ---- what is found of a name
slot_hit : (l : Ledger) (n : Name) (i : ℕ) → slot l n ≡ Some i → (i < length l.slots) × ((h : Holding) × (slot_i l.slots i ≡ Some h) × (h.name ≡ n))
slot_hit l n i e =
    let p = position-Some (is_of n) l.slots i None e in
    (p.0, is_of_true n (slot_i l.slots i) p.1)

slot_is : (l : Ledger) (n : Name) (i : ℕ) (h : Holding) → i < length l.slots → slot_i l.slots i ≡ Some h → h.name ≡ n → (j : ℕ) × (slot l n ≡ Some j)
slot_is l n i h b e f =
    let t : is_of n (slot_i l.slots i) ≡ true = rw e (same_name_lem h.name n f) in
    let q : position_or_len (is_of n) l.slots ≤ i = omega (arith, λ (z : i < position_or_len (is_of n) l.slots). clash t (fails_before_first (is_of n) l.slots i None z)) in
    (position_or_len (is_of n) l.slots, rw (lt-ltb (position_or_len (is_of n) l.slots) (length l.slots) (omega arith)))

found_at : (l : Ledger) (n : Name) (i : ℕ) (h : Holding) → slot l n ≡ Some i → slot_i l.slots i ≡ Some h → found l n ≡ Some (record { start = i * 32; columns = h.columns })
unfolding found
found_at l n i h e f = rw (e, f)

found_parts : (l : Ledger) (n : Name) (s : Span) → found l n ≡ Some s
    → (i : ℕ) × (slot l n ≡ Some i) × ((h : Holding) × (slot_i l.slots i ≡ Some h) × (s ≡ record { start = i * 32; columns = h.columns }))
unfolding found
found_parts l n s e = option_and_then_some (span_at l.slots) (slot l n) s e (λ i f g. (i, f, part i (slot_i l.slots i) refl g))
  where
    part : (i : ℕ) (o : Option Holding) → slot_i l.slots i ≡ o → option_map (λ (h : Holding). record { start = i * 32; columns = h.columns }) o ≡ Some s
        → (h : Holding) × (slot_i l.slots i ≡ Some h) × (s ≡ record { start = i * 32; columns = h.columns })
    part i (Some h) z g = (h, z, sym (same_Some _ s g))
    part i None z g = absurd (none-some s g)

pub slot_some : (l : Ledger) (n : Name) → is_some (found l n) ≡ true → (i : ℕ) × (slot l n ≡ Some i)
slot_some l n e = at (found l n) refl e
  where
    at : (f : Option Span) → found l n ≡ f → is_some f ≡ true → (i : ℕ) × (slot l n ≡ Some i)
    at (Some s) z e = let p = found_parts l n s z in (p.0, p.1)
    at None z e = absurd (clash e refl)

-- where it starts
pub found_slot : (l : Ledger) (n : Name) (s : Span) → found l n ≡ Some s → slot l n ≡ Some (s.start / 32)
found_slot l n s e = let p = found_parts l n s e in p.1 ∙ ap Some (omega (arith, ap (λ (x : Span). x.start) p.2.2))

-- ---- the slots show the list
abbrev found_span : Allocation → Option Span
found_span a = Some (record { start = a.start; columns = a.columns })

module _ (l : Ledger) (live : List Allocation) (m : Live l live) where
  -- a name's slot, if it has one, has its live allocation
  pub slot_own : (n : Name) (i : ℕ) → slot l n ≡ Some i → (i < 16) × ((h : Holding) × (slot_i l.slots i ≡ Some h) × (h.name ≡ n) × Among (allocation i h) live)
  slot_own n i e =
      let p = slot_hit l n i e in
      let b : i < 16 = omega (arith, p.0, m.size) in
      (b, (p.1.0, p.1.1, p.1.2, m.up i (allocation i p.1.0) b (ap (option_map (allocation i)) p.1.1)))

  -- a live allocation is in the slot of its name
  pub own_slot : (a : Allocation) → Among a live → (i : ℕ) × (i < 16) × (slot l a.name ≡ Some i) × (slot_at l i ≡ Some a)
  own_slot a x =
      let d = m.down a x in
      let h = held (slot_i l.slots d.0) d.0 a d.2 in
      let s = slot_is l a.name d.0 h.0 (omega (arith, d.1, m.size)) h.1 (ap (λ (z : Allocation). z.name) h.2) in
      let o = slot_own a.name s.0 s.1 in
      let same : allocation s.0 o.1.0 ≡ a = unique_same (allocation s.0 o.1.0) a live m.unique o.1.3 x o.1.2 in
      (s.0, o.0, s.1, ap (option_map (allocation s.0)) o.1.1 ∙ ap Some same)

  -- what is found of a name
  found_some : (a : Allocation) → Among a live → found l a.name ≡ Some (record { start = a.start; columns = a.columns })
  found_some a x =
      let s = own_slot a x in
      let h = held (slot_i l.slots s.0) s.0 a s.3 in
      found_at l a.name s.0 h.0 s.2 h.1 ∙ ap (λ (z : Allocation). found_span z) h.2

  found_among : (n : Name) (s : Span) → found l n ≡ Some s → (a : Allocation) × Among a live × (a.name ≡ n) × (s ≡ record { start = a.start; columns = a.columns })
  found_among n s e =
      let p = found_parts l n s e in
      let o = slot_own n p.0 p.1 in
      let g : p.2.0 ≡ o.1.0 = same_Some p.2.0 o.1.0 (sym p.2.1 ∙ o.1.1) in
      (allocation p.0 o.1.0, o.1.3, o.1.2, p.2.2 ∙ ap (λ (h : Holding). record { start = p.0 * 32; columns = h.columns }) g)

  pub found_live : (n : Name) → is_some (found l n) ≡ rules.is_live n live
  found_live n = same_test (is_some (found l n)) (rules.is_live n live) (back (found l n) refl) there
    where
      there : rules.is_live n live ≡ true → is_some (found l n) ≡ true
      there e = let h = live_among live n e in ap is_some (subst (λ k. found l k ≡ Some (record { start = (h.0).start; columns = (h.0).columns })) h.2 (found_some h.0 h.1))

      back : (f : Option Span) → found l n ≡ f → is_some f ≡ true → rules.is_live n live ≡ true
      back (Some s) z e = let a = found_among n s z in among_live a.0 live n a.1 a.2
      back None z e = absurd (clash e refl)

  pub found_size : (n : Name) → columns_in (found l n) ≡ rules.columns_of n live
  found_size n = at (found l n) refl
    where
      at : (f : Option Span) → found l n ≡ f → columns_in f ≡ rules.columns_of n live
      at (Some s) z = let a = found_among n s z in ap (λ (x : Span). x.columns) a.3 ∙ sym (columns_of_lem a.0 live n m.unique a.1 a.2)
      at None z = sym (columns-none live n (sym (found_live n) ∙ ap is_some z))

  found_held : (n : Name) (s : Span) → found l n ≡ Some s → 0 < s.columns
  found_held n s e = let a = found_among n s e in subst (λ (x : Span). 0 < x.columns) (sym a.3) (m.down a.0 a.1).3

  found_own : (n : Name) (s : Span) → found l n ≡ Some s → (s.start / 32 < 16) × HoldsIn l (s.start / 32) n
  found_own n s e =
      let p = found_parts l n s e in
      let i : s.start / 32 ≡ p.0 = omega (arith, ap (λ (x : Span). x.start) p.2.2) in
      let o = slot_own n p.0 p.1 in
      let z : slot_at l p.0 ≡ Some (allocation p.0 o.1.0) = ap (option_map (allocation p.0)) o.1.1 in (
        omega (arith, o.0),
        subst (λ j. HoldsIn l j n) (sym i) (record {
          taken = subst (λ x. 0 < size_of x) (sym z) (m.down (allocation p.0 o.1.0) o.1.3).3;
          name = ap name_of z ∙ o.1.2;
        }),
      )

  found_sole : (n : Name) (i : ℕ) → i < 16 → HoldsIn l i n → (s : Span) × (found l n ≡ Some s) × (i ≡ s.start / 32)
  found_sole n i b o = at (slot_at l i) refl o.taken o.name
    where
      at : (x : Option Allocation) → slot_at l i ≡ x → 0 < size_of x → name_of x ≡ n → (s : Span) × (found l n ≡ Some s) × (i ≡ s.start / 32)
      at (Some a) z e f =
          let h = held (slot_i l.slots i) i a z in (
            record { start = a.start; columns = a.columns },
            subst (λ k. found l k ≡ Some (record { start = a.start; columns = a.columns })) f (found_some a (m.up i a b z)),
            omega (arith, ap (λ (y : Allocation). y.start) h.2),
          )
      at None z e f = absurd (omega (arith, e))

  -- THE CLAIM
  pub finds_in : FindsIn l live
  finds_in = record { live = found_live; size = found_size; held = found_held; own = found_own; sole = found_sole }
