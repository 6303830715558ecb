-- A ledger that shows a state answers as the rules say, and its next ledger shows what the line does to the state. Each test of the rules is one of the
-- ledger's, by the laws of the slots. Assumes nothing.
use Prim.Native.Nat.{ℕ, ◌*◌, ◌<◌}
use mathlib.Core.Path.{◌≡◌, refl, sym, ap, ◌∙◌, subst}
use mathlib.Core.Bool.{Bool, true, false, not, ◌&&◌, cond}
use mathlib.Core.List.{List, [], ◌∷◌}
use mathlib.Core.Option as maybe
use mathlib.Core.Option.{some, none}
use native.Mathlib.Omega.{arith}
use lib.ListN.{set}
use lib.Dec.{ltb, eqb}
use borrow.Author.Tests.{ltb-true, lt-ltb, eqb-true, not-true}
use Rattle.std.specs.Prelude.{Option, Some, None, option_map}
use Rattle.laws.specs.Rules.{first_broken}
use Rattle.laws.specs.Tests.{is_some}
use Rattle.request.specs.Request.{legal}
use Rattle.tokens.specs.declared.Name.{Name}
use Rattle.statement.specs.declared.Statement.TheVariants.{Alloc, Dealloc, Relinquish}
use Rattle.statement.specs.Views as act
use Rattle.rules.specs.State as rules
use Rattle.rules.specs.State.{State, Allocation, lowest, opened}
use Rattle.rules.specs.Reasons.{is_warp, open_rules}
use Rattle.rules.specs.Sheet.{effect, start_list, added, fixed}
use Rattle.rules.proofs.CountingLaws.{least_hit}
use Rattle.rules.proofs.ByAct.{first_broken_lem}
use Rattle.ledger.specs.declared.Holding.{Holding}
use Rattle.ledger.specs.declared.Ledger.{Ledger}
use Rattle.ledger.specs.Slots.{slot_i, fits_at, place_of}
use Rattle.ledger.specs.Booking.{Booking, empty, slot, place, is_live, is_own, may_book, columns_of, alloc_rules, release_rules, relinquish_rules, with_allocation, without_allocation, after_relinquish, booked, alloc_of, release_of, relinquish_of}
use Rattle.ledger.specs.Shows.{allocation, slot_at, Live, fixed_warp, Shows, or_busy, size_of, Taken, name_of, name_at, Stays, Tells}
use Rattle.ledger.proofs.BookingLaws.{legal_range}
use Rattle.ledger.proofs.FoundLaws.{slot_own, slot_some, found_live, found_size}
use Rattle.ledger.proofs.SlotLaws.{place-slot, place-empty, slot_other, live_none, live_alloc, live_release}

-- ---- what is booked, by its reason
cond_reason : (l next : Ledger) (reason start : ℕ) (t : Bool) → eqb reason 0 ≡ t
    → (cond {A = Booking} t (record { next = next; reason = 0; start = start }) (record { next = l; reason = reason; start = 0 })).reason ≡ reason
cond_reason l next reason start true e = sym (eqb-true reason 0 e)
cond_reason l next reason start false e = refl

booked_reason : (l next : Ledger) (reason start : ℕ) → (booked l reason start next).reason ≡ reason
booked_reason l next reason start = cond_reason l next reason start (eqb reason 0) refl

booked-next : (l next : Ledger) (reason start : ℕ) → reason ≡ 0 → booked l reason start next ≡ record { next = next; reason = 0; start = start }
booked-next l next reason start e = rw e

cond_start : (l next : Ledger) (reason : ℕ) (t : Bool)
    → (cond {A = Booking} t (record { next = next; reason = 0; start = 0 }) (record { next = l; reason = reason; start = 0 })).start ≡ 0
cond_start l next reason true = refl
cond_start l next reason false = refl

-- a rule that is kept, and the rest
kept : (b : Bool) (x m : ℕ) → 0 < m → cond b x m ≡ 0 → (b ≡ true) × (x ≡ 0)
kept true x m p e = (refl, e)
kept false x m p e = absurd (omega arith)

-- ---- orders of tests
alloc_order : (live bound warp size permit here there : Bool) → (size ≡ true → here ≡ there)
    → ◌≡◌ {A = ℕ} (cond (not live && not bound) (cond warp (cond size (cond permit (cond there 0 11) 10) 9) 8) 6)
    (cond bound 6 (cond (not live) (cond warp (cond size (cond permit (cond here 0 11) 10) 9) 8) 6))
alloc_order true true warp size permit here there e = refl
alloc_order true false warp size permit here there e = refl
alloc_order false true warp size permit here there e = refl
alloc_order false false warp true permit here there e = rw (e refl)
alloc_order false false warp false permit here there e = refl

release_order : (live warp size busy : Bool) → ◌≡◌ {A = ℕ} (cond live (cond warp (cond size (cond (not busy) 0 18) 9) 8) 6) (or_busy (cond live (cond warp (cond size 0 9) 8) 6) busy)
release_order true true true true = refl
release_order true true true false = refl
release_order true true false busy = refl
release_order true false size busy = refl
release_order false warp size busy = refl

-- ---- the warp
same_warp : (o : Option ℕ) (w : ℕ) → is_own o w ≡ is_warp (fixed_warp o) w
same_warp (Some v) w = refl
same_warp None w = refl

fixes : (o : Option ℕ) (w : ℕ) → is_own o w ≡ true → some w ≡ fixed (fixed_warp o) w
fixes (Some v) w e = ap some (sym (eqb-true v w e))
fixes None w e = refl

-- ---- the placing
some_if : (b : Bool) (x : ℕ) → is_some (cond b (some x) none) ≡ b
some_if true x = refl
some_if false x = refl

placed_if : (live : List Allocation) (k : ℕ) → is_some (lowest live k) ≡ ltb (rules.slot live k) 16
unfolding lowest
placed_if live k = some_if (ltb (rules.slot live k) 16) (rules.slot live k * 32)

placed_at : (live : List Allocation) (k p : ℕ) → p ≡ rules.slot live k → p < 16 → lowest live k ≡ some (p * 32)
unfolding lowest
placed_at live k p e h = rw (sym e, lt-ltb p 16 h)

-- ---- nothing is allocated
pub shows_empty : Shows empty opened
shows_empty = record { slots = live_none; warp = refl; relinquished = refl }

module _ (l : Ledger) (s : State) (h : Shows l s) where
  live_test : (n : Name) → is_live l n ≡ rules.is_live n s.live
  live_test n = found_live l s.live h.slots n

  columns-test : (n : Name) → columns_of l n ≡ rules.columns_of n s.live
  columns-test n = found_size l s.live h.slots n

  warp_test : (w : ℕ) → may_book l w ≡ is_warp s.warp w
  warp_test w = same_warp l.warp w ∙ ap (λ (o : maybe.Option ℕ). is_warp o w) h.warp

  place-test : (k : ℕ) → legal k ≡ true → place l k ≡ rules.slot s.live k
  place-test k e = place-slot l s.live h.slots k (omega (arith, (legal_range k e).0))

  placed-test : (k : ℕ) → legal k ≡ true → ltb (place l k) 16 ≡ is_some (lowest s.live k)
  placed-test k e = ap (λ (p : ℕ). ltb p 16) (place-test k e) ∙ sym (placed_if s.live k)

  -- the reasons
  alloc_reason : (n : Name) (held w k : ℕ) → first_broken (open_rules lowest s held w (Alloc n k)) ≡ cond (rules.is_bound n s.values) 6 (alloc_of l n w k).reason
  unfolding alloc_of
  alloc_reason n held w k =
      first_broken_lem lowest s held w (Alloc n k)
      ∙ alloc_order (rules.is_live n s.live) (rules.is_bound n s.values) (is_warp s.warp w) (legal k) (not s.relinquished) (ltb (place l k) 16) (is_some (lowest s.live k)) (placed-test k)
      ∙ ap (cond (rules.is_bound n s.values) 6) (sym (
      booked_reason l (with_allocation l (place l k) n w k) (first_broken (alloc_rules l n w k)) (place l k * 32)
      ∙ rw (live_test n, warp_test w, h.relinquished)))

  release_reason : (n : Name) (held w k : ℕ) → first_broken (open_rules lowest s held w (Dealloc n k)) ≡ or_busy (release_of l n w k).reason (rules.is_busy n s.outstanding)
  unfolding release_of
  release_reason n held w k =
      first_broken_lem lowest s held w (Dealloc n k)
      ∙ release_order (rules.is_live n s.live) (is_warp s.warp w) (eqb (rules.columns_of n s.live) k) (rules.is_busy n s.outstanding)
      ∙ ap (λ r. or_busy r (rules.is_busy n s.outstanding)) (sym same)
    where
      same : (release_of l n w k).reason ≡ cond (rules.is_live n s.live) (cond (is_warp s.warp w) (cond (eqb (rules.columns_of n s.live) k) 0 9) 8) 6
      same = booked_reason l (without_allocation l (slot l n)) (first_broken (release_rules l n w k)) 0 ∙ rw (live_test n, warp_test w, columns-test n)

  relinquish_reason : (held w : ℕ) → first_broken (open_rules lowest s held w Relinquish) ≡ (relinquish_of l w).reason
  unfolding relinquish_of
  relinquish_reason held w =
      first_broken_lem lowest s held w Relinquish
      ∙ sym (booked_reason l (after_relinquish l w) (first_broken (relinquish_rules l w)) _ ∙ rw (warp_test w))

  -- what a kept alloc says
  alloc-kept : (n : Name) (w k : ℕ) → (alloc_of l n w k).reason ≡ 0
      → (rules.is_live n s.live ≡ false) × (may_book l w ≡ true) × (legal k ≡ true) × (place l k < 16) × (first_broken (alloc_rules l n w k) ≡ 0)
  unfolding alloc_of
  alloc-kept n w k e =
      let z : first_broken (alloc_rules l n w k) ≡ 0 = sym (booked_reason l (with_allocation l (place l k) n w k) (first_broken (alloc_rules l n w k)) (place l k * 32)) ∙ e in
      let a = kept (not (is_live l n)) _ 6 (omega arith) z in
      let b = kept (may_book l w) _ 8 (omega arith) a.1 in
      let c = kept (legal k) _ 9 (omega arith) b.1 in
      let d = kept (not l.relinquished) _ 10 (omega arith) c.1 in
      let f = kept (ltb (place l k) 16) 0 11 (omega arith) d.1 in
      (sym (live_test n) ∙ not-true (is_live l n) a.0, b.0, c.0, ltb-true (place l k) 16 f.0, z)

  -- the slot that is found is empty
  free : (k : ℕ) → legal k ≡ true → place l k < 16 → slot_i l.slots (place l k) ≡ None
  unfolding place_of
  free k c d =
      place-empty l s.live h.slots k (place l k) d (omega (arith, (legal_range k c).0))
      (least_hit (fits_at l.slots k) 16 d)

  alloc_shows : (n : Name) (w k : ℕ) → rules.is_live n s.live ≡ false → may_book l w ≡ true → legal k ≡ true → place l k < 16
      → Shows (with_allocation l (place l k) n w k) (effect lowest s w (act.requests n k))
  unfolding effect
  alloc_shows n w k a b c d = record {
    slots = subst (λ (o : maybe.Option ℕ). Live (with_allocation l (place l k) n w k) (added n k o s.live))
        (sym (placed_at s.live k (place l k) (place-test k c) d))
        (live_alloc l s.live h.slots n w k (place l k) d (omega (arith, (legal_range k c).0)) (free k c d) a);
    warp = fixes l.warp w b ∙ ap (λ (o : maybe.Option ℕ). fixed o w) h.warp;
    relinquished = h.relinquished;
  }

  allocated : (n : Name) (w k : ℕ) → (alloc_of l n w k).reason ≡ 0 → Shows (alloc_of l n w k).next (effect lowest s w (act.requests n k))
  unfolding alloc_of
  allocated n w k e =
      let a = alloc-kept n w k e in
      subst (λ (b : Booking). Shows b.next (effect lowest s w (act.requests n k)))
      (sym (booked-next l (with_allocation l (place l k) n w k) (first_broken (alloc_rules l n w k)) (place l k * 32) a.4))
      (alloc_shows n w k a.0 a.1 a.2 a.3)

  started : (n : Name) (w k : ℕ) → (alloc_of l n w k).reason ≡ 0 → start_list (lowest s.live k) ≡ (alloc_of l n w k).start ∷ []
  unfolding alloc_of
  started n w k e =
      let a = alloc-kept n w k e in
      rw (placed_at s.live k (place l k) (place-test k a.2) a.3)
      (ap (λ (b : Booking). b.start ∷ []) (sym (booked-next l (with_allocation l (place l k) n w k) (first_broken (alloc_rules l n w k)) (place l k * 32) a.4)))

  released : (n : Name) (w k : ℕ) → (release_of l n w k).reason ≡ 0 → Shows (release_of l n w k).next (effect lowest s w (act.releases n k))
  unfolding release_of effect
  released n w k e =
      let z : first_broken (release_rules l n w k) ≡ 0 = sym (booked_reason l (without_allocation l (slot l n)) (first_broken (release_rules l n w k)) 0) ∙ e in
      let a = kept (is_live l n) _ 6 (omega arith) z in
      subst (λ (b : Booking). Shows b.next (effect lowest s w (act.releases n k)))
      (sym (booked-next l (without_allocation l (slot l n)) (first_broken (release_rules l n w k)) 0 z))
      (record {
        slots = let p = slot_some l n a.0 in subst (λ (o : Option ℕ). Live (without_allocation l o) (rules.without n s.live)) (sym p.1) (live_release l s.live h.slots n p.0 p.1);
        warp = h.warp;
        relinquished = h.relinquished;
      })

  release_live : (n : Name) (w k : ℕ) → (release_of l n w k).reason ≡ 0 → rules.is_live n s.live ≡ true
  unfolding release_of
  release_live n w k e = sym (live_test n) ∙ (kept (is_live l n) _ 6 (omega arith) (sym (booked_reason l (without_allocation l (slot l n)) (first_broken (release_rules l n w k)) 0) ∙ e)).0

  relinquished : (w : ℕ) → (relinquish_of l w).reason ≡ 0 → Shows (relinquish_of l w).next (effect lowest s w act.relinquishes)
  unfolding relinquish_of effect
  relinquished w e =
      let z : first_broken (relinquish_rules l w) ≡ 0 = sym (booked_reason l (after_relinquish l w) (first_broken (relinquish_rules l w)) _) ∙ e in
      let a = kept (may_book l w) 0 8 (omega arith) z in
      subst (λ (b : Booking). Shows b.next (effect lowest s w act.relinquishes))
      (sym (booked-next l (after_relinquish l w) (first_broken (relinquish_rules l w)) _ z))
      (record { slots = record { size = h.slots.size; down = h.slots.down; up = h.slots.up; unique = h.slots.unique; sum = h.slots.sum }; warp = fixes l.warp w a.0 ∙ ap (λ (o : maybe.Option ℕ). fixed o w) h.warp; relinquished = refl })

  -- the slots that are not booked
  stays_other : (o : Option Holding) (p i : ℕ) → (i ≡ p → ⊥) → option_map (allocation i) (slot_i (set l.slots p o) i) ≡ slot_at l i
  stays_other o p i x = ap (option_map (allocation i)) (slot_other l.slots o p i x)

  alloc_stays : (n : Name) (w k i : ℕ) → (alloc_of l n w k).reason ≡ 0 → Taken l i → Stays l (alloc_of l n w k).next i
  unfolding alloc_of
  alloc_stays n w k i e t =
      let a = alloc-kept n w k e in
      let z = free k a.2 a.3 in
      subst (λ (b : Booking). Stays l b.next i)
      (sym (booked-next l (with_allocation l (place l k) n w k) (first_broken (alloc_rules l n w k)) (place l k * 32) a.4))
      (stays_other (Some (record { name = n; columns = k })) (place l k) i
      (λ q. absurd (omega (arith, t, ap (λ (o : Option Holding). size_of (option_map (allocation i) o)) (subst (λ j. slot_i l.slots j ≡ None) (sym q) z)))))

  release_stays : (n : Name) (w k i : ℕ) → (release_of l n w k).reason ≡ 0 → (name_at l i ≡ n → ⊥) → Stays l (release_of l n w k).next i
  unfolding release_of
  release_stays n w k i e o =
      let z : first_broken (release_rules l n w k) ≡ 0 = sym (booked_reason l (without_allocation l (slot l n)) (first_broken (release_rules l n w k)) 0) ∙ e in
      let p = slot_some l n (kept (is_live l n) _ 6 (omega arith) z).0 in
      let own = slot_own l s.live h.slots n p.0 p.1 in
      let name : name_at l p.0 ≡ n = ap (λ (x : Option Holding). name_of (option_map (allocation p.0) x)) own.1.1 ∙ own.1.2 in
      subst (λ (b : Booking). Stays l b.next i)
      (sym (booked-next l (without_allocation l (slot l n)) (first_broken (release_rules l n w k)) 0 z))
      (subst (λ (x : Option ℕ). Stays l (without_allocation l x) i) (sym p.1)
      (stays_other None p.0 i (λ q. o (ap (λ (j : ℕ). name_at l j) q ∙ name))))

  relinquish_stays : (w i : ℕ) → (relinquish_of l w).reason ≡ 0 → Stays l (relinquish_of l w).next i
  unfolding relinquish_of
  relinquish_stays w i e =
      let z : first_broken (relinquish_rules l w) ≡ 0 = sym (booked_reason l (after_relinquish l w) (first_broken (relinquish_rules l w)) _) ∙ e in
      subst (λ (b : Booking). Stays l b.next i) (sym (booked-next l (after_relinquish l w) (first_broken (relinquish_rules l w)) _ z)) refl

  -- only an alloc has a start
  release_start : (n : Name) (w k : ℕ) → (release_of l n w k).start ≡ 0
  unfolding release_of
  release_start n w k = cond_start l (without_allocation l (slot l n)) (first_broken (release_rules l n w k)) (eqb (first_broken (release_rules l n w k)) 0)

  relinquish_start : (w : ℕ) → (relinquish_of l w).start ≡ 0
  unfolding relinquish_of
  relinquish_start w = cond_start l (after_relinquish l w) (first_broken (relinquish_rules l w)) (eqb (first_broken (relinquish_rules l w)) 0)

  -- THE CLAIM
  pub tells : Tells l s
  tells = record {
    alloc = alloc_reason;
    release = release_reason;
    relinquish = relinquish_reason;
    allocated = allocated;
    started = started;
    released = released;
    release_live = release_live;
    relinquished = relinquished;
    alloc_stays = alloc_stays;
    release_stays = release_stays;
    relinquish_stays = relinquish_stays;
    release_start = release_start;
    relinquish_start = relinquish_start;
  }
