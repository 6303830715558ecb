-- The slots and the list of live allocations say the same of free columns and of the columns held, and keep doing so when an allocation is put into an
-- empty slot or taken out of its own. Assumes nothing.
use Prim.Native.Nat.{ℕ, ◌+◌, ◌*◌, ◌≤◌, ◌<◌, max}
use mathlib.Core.Path.{◌≡◌, refl, sym, ap, ◌∙◌, subst}
use mathlib.Core.Bool.{true, false}
use mathlib.Core.List.{List, [], ◌∷◌}
use mathlib.Core.Logic.{◌⊎◌, inl, inr}
use native.Mathlib.Omega.{arith}
use lib.Dec.{leb, ltb, eqb}
use lib.ListN.{set, length-set, get_or-replicate}
use lib.Seq.{get_or-set_same, get_or-set_other}
use borrow.Author.Tests.{ltb-true, eqb-true, eqb-false, eq-eqb}
use Rattle.std.specs.Prelude.{Option, Some, None, option_map}
use Rattle.std.proofs.lemmas.Option.{same_Some, none-some}
use Rattle.std.proofs.lemmas.List.Sums.{sum_by-set}
use Rattle.laws.specs.Lists.{Among}
use Rattle.laws.proofs.BoolLaws.{bool, clash, same_test, and_split, and-join}
use Rattle.tokens.specs.declared.Name.{Name}
use Rattle.rules.specs.Counting.{least, every}
use Rattle.rules.specs.State as rules
use Rattle.rules.specs.State.{Allocation, covers, is_free, free_from}
use Rattle.rules.proofs.CountingLaws.{least-le, least_hit, least-below, every-at, every-all}
use Rattle.rules.proofs.StateLaws.{total-without}
use Rattle.rules.proofs.OrderlyProved.{unique_without}
use Rattle.search.proofs.SearchLaws.{least_agree}
use Rattle.ledger.specs.declared.Holding.{Holding}
use Rattle.ledger.specs.declared.Ledger.{Ledger}
use Rattle.ledger.specs.Slots.{Slots, slot_i, meets, meets_at, fits_at, place_of, columns_held}
use Rattle.ledger.specs.Booking.{empty, slot, with_allocation, without_allocation}
use Rattle.ledger.specs.Shows.{allocation, slot_at, Live}
use Rattle.ledger.proofs.PlaceLaws.{meets_in}
use Rattle.ledger.proofs.AllocationLaws.{among-taken, taken-among, covers_in, covers_out, columns_of_lem, among-without, gone, stays}
use Rattle.ledger.proofs.FoundLaws.{held, slot_own, own_slot}

-- ---- columns are free in the list exactly if they are in the slots
meets_out : (slots : Slots) (s k j : ℕ) → meets_at slots s k j ≡ true → (h : Holding) × (slot_i slots j ≡ Some h) × (j * 32 < s + k) × (s < j * 32 + h.columns)
unfolding meets_at
meets_out slots s k j e = at (slot_i slots j) refl e
  where
    at : (o : Option Holding) → slot_i slots j ≡ o → meets s k j o ≡ true → (h : Holding) × (slot_i slots j ≡ Some h) × (j * 32 < s + k) × (s < j * 32 + h.columns)
    at (Some h) z e =
        let t : (ltb (j * 32) (s + k) ≡ true) × (ltb s (j * 32 + h.columns) ≡ true) = and_split (ltb (j * 32) (s + k)) (ltb s (j * 32 + h.columns)) e in
        (h, z, ltb-true (j * 32) (s + k) t.0, ltb-true s (j * 32 + h.columns) t.1)
    at None z e = absurd (clash e refl)

module _ (l : Ledger) (live : List Allocation) (m : Live l live) where
  clash_at : (k i : ℕ) → 0 < k → free_from live k (i * 32) ≡ true → least (meets_at l.slots (i * 32) k) 16 < 16 → ⊥
  unfolding free_from
  clash_at k i p e q =
      let j = least (meets_at l.slots (i * 32) k) 16 in
      let t = meets_out l.slots (i * 32) k j (least_hit (meets_at l.slots (i * 32) k) 16 q) in
      let x = m.up j (allocation j t.0) q (ap (option_map (allocation j)) t.1) in
      let c = max (i * 32) (j * 32) in
      let f : (leb (i * 32 + k) 512 ≡ true) × (every (is_free live) (i * 32) k ≡ true) = and_split (leb (i * 32 + k) 512) (every (is_free live) (i * 32) k) e in
      clash (every-at (is_free live) (i * 32) k c f.1 (omega arith) (omega (arith, t.2, p)))
      (among-taken (allocation j t.0) live c x (covers_in (allocation j t.0) c (omega arith) (omega (arith, t.3, (m.down (allocation j t.0) x).3))))

  free_at : (k i c : ℕ) → eqb (least (meets_at l.slots (i * 32) k) 16) 16 ≡ true → i * 32 ≤ c → c < i * 32 + k → is_free live c ≡ true
  free_at k i c e p q = at (bool (is_free live c))
    where
      at : (is_free live c ≡ true) ⊎ (is_free live c ≡ false) → is_free live c ≡ true
      at (inl f) = f
      at (inr f) =
          let a = taken-among live c f in
          let d = m.down a.0 a.1 in
          let h = held (slot_i l.slots d.0) d.0 a.0 d.2 in
          let w : covers (allocation d.0 h.0) c ≡ true = ap (λ (x : Allocation). covers x c) h.2 ∙ a.2 in
          let o = covers_out (allocation d.0 h.0) c w in
          absurd (clash (meets_in l.slots (i * 32) k d.0 h.0 h.1 (omega (arith, o.0, q)) (omega (arith, o.1, p)))
          (least-below (meets_at l.slots (i * 32) k) 16 d.0 (omega (arith, d.1, eqb-true (least (meets_at l.slots (i * 32) k) 16) 16 e))))

  fits_free : (k i : ℕ) → 0 < k → fits_at l.slots k i ≡ free_from live k (i * 32)
  unfolding fits_at free_from
  fits_free k i p = same_test (fits_at l.slots k i) (free_from live k (i * 32)) back there
    where
      there : free_from live k (i * 32) ≡ true → fits_at l.slots k i ≡ true
      there e =
          let f : (leb (i * 32 + k) 512 ≡ true) × (every (is_free live) (i * 32) k ≡ true) = and_split (leb (i * 32 + k) 512) (every (is_free live) (i * 32) k) e in
          and-join (leb (i * 32 + k) 512) (eqb (least (meets_at l.slots (i * 32) k) 16) 16) f.0
          (eq-eqb (least (meets_at l.slots (i * 32) k) 16) 16 (omega (arith, least-le (meets_at l.slots (i * 32) k) 16, clash_at k i p e)))

      back : fits_at l.slots k i ≡ true → free_from live k (i * 32) ≡ true
      back e =
          let f : (leb (i * 32 + k) 512 ≡ true) × (eqb (least (meets_at l.slots (i * 32) k) 16) 16 ≡ true) =
          and_split (leb (i * 32 + k) 512) (eqb (least (meets_at l.slots (i * 32) k) 16) 16) e in
          and-join (leb (i * 32 + k) 512) (every (is_free live) (i * 32) k) f.0 (every-all (is_free live) (i * 32) k (λ c p q. free_at k i c f.1 p q))

  pub place-slot : (k : ℕ) → 0 < k → place_of l.slots k ≡ rules.slot live k
  unfolding place_of rules.slot
  place-slot k p = least_agree (fits_at l.slots k) (λ i. free_from live k (i * 32)) 16 (λ i q. fits_free k i p)

  -- the slot that is found is empty
  pub place-empty : (k i : ℕ) → i < 16 → 0 < k → fits_at l.slots k i ≡ true → slot_i l.slots i ≡ None
  unfolding fits_at
  place-empty k i p q e = at (slot_i l.slots i) refl
    where
      at : (o : Option Holding) → slot_i l.slots i ≡ o → o ≡ None
      at None z = refl
      at (Some h) z =
          let f : (leb (i * 32 + k) 512 ≡ true) × (eqb (least (meets_at l.slots (i * 32) k) 16) 16 ≡ true) =
          and_split (leb (i * 32 + k) 512) (eqb (least (meets_at l.slots (i * 32) k) 16) 16) e in
          let c : 0 < h.columns = (m.down (allocation i h) (m.up i (allocation i h) p (ap (option_map (allocation i)) z))).3 in
          absurd (clash (meets_in l.slots (i * 32) k i h z (omega arith) (omega (arith, c)))
          (least-below (meets_at l.slots (i * 32) k) 16 i (omega (arith, eqb-true (least (meets_at l.slots (i * 32) k) 16) 16 f.1))))

-- ---- the next slots
-- the other slots where one is written
pub slot_other : (slots : Slots) (o : Option Holding) (p i : ℕ) → (i ≡ p → ⊥) → slot_i (set slots p o) i ≡ slot_i slots i
slot_other slots o p i x = get_or-set_other slots p i o None x

-- nothing
pub live_none : Live empty []
unfolding rules.total
live_none = record { size = refl; down = λ a x. absurd x; up = λ i a p e. absurd (none-some a (sym (at i p) ∙ e)); unique = tt; sum = refl }
  where
    at : (i : ℕ) → i < 16 → slot_at empty i ≡ None
    at i p = ap (option_map (allocation i)) (get_or-replicate 16 i None None p)

module _ (l : Ledger) (live : List Allocation) (m : Live l live) where
  -- an allocation in an empty slot
  pub live_alloc : (n : Name) (w k p : ℕ) → p < 16 → 0 < k → slot_i l.slots p ≡ None → rules.is_live n live ≡ false
      → Live (with_allocation l p n w k) (record { name = n; start = p * 32; columns = k } ∷ live)
  unfolding rules.total
  live_alloc n w k p b q z e = record {
    size = length-set l.slots p (Some h) ∙ m.size;
    down = down;
    up = λ i a x y. up i a x y (bool (eqb i p));
    unique = (e, m.unique);
    sum = omega (arith, m.sum, sum_by-set columns_held l.slots p (Some h) None (omega (arith, m.size)), ap columns_held z);
  }
    where
      h : Holding
      h = record { name = n; columns = k }

      new : slot_i (set l.slots p (Some h)) p ≡ Some h
      new = get_or-set_same l.slots p (Some h) None (omega (arith, m.size))

      down : (a : Allocation) → Among a (allocation p h ∷ live) → (i : ℕ) × (i < 16) × (slot_at (with_allocation l p n w k) i ≡ Some a) × (0 < a.columns)
      down a (inl x) = (p, b, ap (option_map (allocation p)) new ∙ ap Some (sym x), omega (arith, ap (λ (y : Allocation). y.columns) x))
      down a (inr x) =
          let d = m.down a x in (
            d.0,
            d.1,
            ap (option_map (allocation d.0)) (slot_other l.slots (Some h) p d.0 (λ y. none-some a (sym (ap (option_map (allocation d.0)) (subst (λ j. slot_i l.slots j ≡ None) (sym y) z)) ∙ d.2))) ∙ d.2,
            d.3,
          )

      up : (i : ℕ) (a : Allocation) → i < 16 → slot_at (with_allocation l p n w k) i ≡ Some a → (eqb i p ≡ true) ⊎ (eqb i p ≡ false) → Among a (allocation p h ∷ live)
      up i a x y (inl t) =
          let j : i ≡ p = eqb-true i p t in
          inl (sym (same_Some (allocation p h) a (sym (ap (option_map (allocation p)) new) ∙ subst (λ j. slot_at (with_allocation l p n w k) j ≡ Some a) j y)))
      up i a x y (inr t) = inr (m.up i a x (sym (ap (option_map (allocation i)) (slot_other l.slots (Some h) p i (eqb-false i p t))) ∙ y))

  -- the slot of a name emptied
  pub live_release : (n : Name) (p : ℕ) → slot l n ≡ Some p → Live (without_allocation l (Some p)) (rules.without n live)
  live_release n p e = record {
    size = length-set l.slots p None ∙ m.size;
    down = down;
    up = λ i a x y. up i a x y (bool (eqb i p));
    unique = unique_without n live m.unique;
    sum = omega (
      arith,
      m.sum,
      total-without n live,
      columns_of_lem (allocation p own.1.0) live n m.unique own.1.3 own.1.2,
      sum_by-set columns_held l.slots p None None (omega (arith, own.0, m.size)),
      ap columns_held own.1.1,
    );
  }
    where
      own : (p < 16) × ((h : Holding) × (slot_i l.slots p ≡ Some h) × (h.name ≡ n) × Among (allocation p h) live)
      own = slot_own l live m n p e

      this : slot_at l p ≡ Some (allocation p own.1.0)
      this = ap (option_map (allocation p)) own.1.1

      down : (a : Allocation) → Among a (rules.without n live) → (i : ℕ) × (i < 16) × (slot_at (without_allocation l (Some p)) i ≡ Some a) × (0 < a.columns)
      down a x =
          let d = m.down a (among-without n a live x) in
          let other : d.0 ≡ p → ⊥ = λ y. gone n a live m.unique x
          (ap (λ (z : Allocation). z.name) (same_Some a (allocation p own.1.0) (sym d.2 ∙ subst (λ j. slot_at l j ≡ Some (allocation p own.1.0)) (sym y) this)) ∙ own.1.2) in
          (d.0, d.1, ap (option_map (allocation d.0)) (slot_other l.slots None p d.0 other) ∙ d.2, d.3)

      up : (i : ℕ) (a : Allocation) → i < 16 → slot_at (without_allocation l (Some p)) i ≡ Some a → (eqb i p ≡ true) ⊎ (eqb i p ≡ false) → Among a (rules.without n live)
      up i a x y (inl t) =
          absurd (none-some a (sym (ap (option_map (allocation p)) (get_or-set_same l.slots p None None (omega (arith, own.0, m.size))))
          ∙ subst (λ j. slot_at (without_allocation l (Some p)) j ≡ Some a) (eqb-true i p t) y))
      up i a x y (inr t) =
          let old : slot_at l i ≡ Some a = sym (ap (option_map (allocation i)) (slot_other l.slots None p i (eqb-false i p t))) ∙ y in
          let u = m.up i a x old in
          let s = own_slot l live m a u in
          stays n a live u (λ f. eqb-false i p t (omega (
            arith,
            ap (λ (z : Allocation). z.start) (held (slot_i l.slots i) i a old).2,
            ap (λ (z : Allocation). z.start) (held (slot_i l.slots s.0) s.0 a s.3).2,
            same_Some s.0 p (sym s.2 ∙ subst (λ k. slot l k ≡ Some p) (sym f) e),
          )))
