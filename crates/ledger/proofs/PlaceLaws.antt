-- One pass over the slots finds the lowest place. Below the start so far nothing fits, for an allocation is met there; from it on all slots looked at
-- are empty, and they are not enough yet. Assumes nothing.
use Prim.Native.Nat.{ℕ, ◌+◌, ◌*◌, ◌≤◌, ◌<◌}
use mathlib.Core.Path.{◌≡◌, refl, sym, ap, ◌∙◌, subst}
use mathlib.Core.Bool.{true, false, and-false}
use mathlib.Core.Logic.{◌⊎◌, inl, inr}
use native.Mathlib.Omega.{arith}
use lib.Dec.{leb, ltb, eqb}
use borrow.Author.Tests.{ltb-true, ltb-false, lt-ltb, le-ltb, le-leb, lt-leb, eqb-true, eqb-false}
use Rattle.std.specs.Prelude.{Option, Some, None}
use Rattle.laws.proofs.BoolLaws.{bool}
use Rattle.search.proofs.SearchLaws.{least-is, least-none, none_passes, some-passes}
use Rattle.ledger.specs.declared.Holding.{Holding}
use Rattle.ledger.specs.Slots.{Slots, slot_i, meets, meets_at, fits_at, place_of, past_of, in_slots}

-- when an allocation is met
pub meets_in : (slots : Slots) (start requested j : ℕ) (h : Holding)
    → slot_i slots j ≡ Some h → j * 32 < start + requested → start < j * 32 + h.columns → meets_at slots start requested j ≡ true
unfolding meets_at
meets_in slots start k j h e q r = rw (e, lt-ltb (j * 32) (start + k) q, lt-ltb start (j * 32 + h.columns) r)

-- when none is: the slot is empty, or its allocation ends before, or starts after
meets_empty : (slots : Slots) (start requested j : ℕ) → slot_i slots j ≡ None → meets_at slots start requested j ≡ false
unfolding meets_at
meets_empty slots start k j e = rw e

meets_before : (slots : Slots) (start requested j : ℕ) (h : Holding) → slot_i slots j ≡ Some h → j * 32 + h.columns ≤ start → meets_at slots start requested j ≡ false
unfolding meets_at
meets_before slots start k j h e p = rw (e, le-ltb start (j * 32 + h.columns) p, and-false (ltb (j * 32) (start + k)))

meets_after : (slots : Slots) (start requested j : ℕ) → start + requested ≤ j * 32 → meets_at slots start requested j ≡ false
unfolding meets_at
meets_after slots start k j p = at (slot_i slots j)
  where
    at : (o : Option Holding) → meets start k j o ≡ false
    at (Some h) = rw (le-ltb (j * 32) (start + k) p)
    at None = refl

-- when a place fits, and when not
fits : (slots : Slots) (requested i : ℕ) → i * 32 + requested ≤ 512
    → ((j : ℕ) → j < 16 → meets_at slots (i * 32) requested j ≡ false) → fits_at slots requested i ≡ true
unfolding fits_at
fits slots k i h n = rw (le-leb (i * 32 + k) 512 h, none_passes (meets_at slots (i * 32) k) 16 n)

no_room : (slots : Slots) (requested i : ℕ) → 512 < i * 32 + requested → fits_at slots requested i ≡ false
unfolding fits_at
no_room slots k i h = rw (lt-leb (i * 32 + k) 512 h)

not-fits : (slots : Slots) (requested i j : ℕ) (h : Holding) → j < 16 → slot_i slots j ≡ Some h
    → j * 32 < i * 32 + requested → i * 32 < j * 32 + h.columns → fits_at slots requested i ≡ false
unfolding fits_at
not-fits slots k i j h b e q r =
    rw (some-passes (meets_at slots (i * 32) k) 16 j b (meets_in slots (i * 32) k j h e q r), and-false (leb (i * 32 + k) 512))

-- the pass, once the slots below i have been looked at
pub record Scanned (slots : Slots) (requested start i : ℕ) : Type 0 where
  pub bound : i ≤ 16
  pub room : start ≤ 4096
  pub none : (k : ℕ) → k < start → k < 16 → fits_at slots requested k ≡ false
  pub past : (j : ℕ) (h : Holding) → j < i → slot_i slots j ≡ Some h → j * 32 + h.columns ≤ start * 32
  pub short : i * 32 < start * 32 + requested

pub scan_start : (slots : Slots) (requested : ℕ) → 0 < requested → Scanned slots requested 0 0
scan_start slots k p = record {
  bound = omega arith;
  room = omega arith;
  none = λ j q r. absurd (omega arith);
  past = λ j h q r. absurd (omega arith);
  short = omega arith;
}

module _ (slots : Slots) (requested start i next : ℕ) (s : Scanned slots requested start i) (b : i < 16) (p : 0 < requested) where
  -- the slot is looked at: its allocation ends before the next start, and nothing fits below that
  module _ (q : start ≤ next) (own : (h : Holding) → slot_i slots i ≡ Some h → i * 32 + h.columns ≤ next * 32)
      (below : (k : ℕ) → k < next → k < 16 → fits_at slots requested k ≡ false) where
    past_next : (j : ℕ) (h : Holding) → j < i + 1 → slot_i slots j ≡ Some h → j * 32 + h.columns ≤ next * 32
    past_next j h r e = at (bool (eqb j i))
      where
        at : (eqb j i ≡ true) ⊎ (eqb j i ≡ false) → j * 32 + h.columns ≤ next * 32
        at (inl t) = subst (λ (n : ℕ). slot_i slots n ≡ Some h → n * 32 + h.columns ≤ next * 32) (sym (eqb-true j i t)) (own h) e
        at (inr t) = omega (arith, s.past j h (omega (arith, eqb-false j i t)) e)

    -- the run of free columns is not long enough yet
    more : next ≤ 4096 → (i + 1) * 32 < next * 32 + requested → Scanned slots requested next (i + 1)
    more room h = record { bound = omega arith; room = room; none = below; past = past_next; short = h }

    -- or it is
    found : next * 32 + requested ≤ (i + 1) * 32 → place_of slots requested ≡ next
    unfolding place_of
    found h = least-is (fits_at slots requested) 16 next (omega arith) (fits slots requested next (omega arith) met) (λ k r. below k r (omega arith))
      where
        met : (j : ℕ) → j < 16 → meets_at slots (next * 32) requested j ≡ false
        met j r = at (slot_i slots j) refl (bool (ltb i j))
          where
            at : (o : Option Holding) → slot_i slots j ≡ o → (ltb i j ≡ true) ⊎ (ltb i j ≡ false) → meets_at slots (next * 32) requested j ≡ false
            at None z t = meets_empty slots (next * 32) requested j z
            at (Some g) z (inl t) = meets_after slots (next * 32) requested j (omega (arith, ltb-true i j t))
            at (Some g) z (inr t) = meets_before slots (next * 32) requested j g z (past_next j g (omega (arith, ltb-false i j t)) z)

  -- the same, whatever the slot has
  module _ (e : next ≡ past_of start i (slot_i slots i)) where
    grows : start ≤ next
    grows = at (slot_i slots i) e
      where
        at : (o : Option Holding) → next ≡ past_of start i o → start ≤ next
        at None y = omega arith
        at (Some g) y = omega arith

    ends : (h : Holding) → slot_i slots i ≡ Some h → i * 32 + h.columns ≤ next * 32
    ends h z = let y : next ≡ past_of start i (Some h) = e ∙ ap (past_of start i) z in omega arith

    below : (k : ℕ) → k < next → k < 16 → fits_at slots requested k ≡ false
    below k q r = at (slot_i slots i) refl e (bool (ltb k start))
      where
        at : (o : Option Holding) → slot_i slots i ≡ o → next ≡ past_of start i o → (ltb k start ≡ true) ⊎ (ltb k start ≡ false) → fits_at slots requested k ≡ false
        at o z y (inl t) = s.none k (ltb-true k start t) r
        at None z y (inr t) = absurd (omega (arith, ltb-false k start t))
        at (Some h) z y (inr t) = let g : start ≤ k = ltb-false k start t in not-fits slots requested k i h b z (omega (arith, s.short)) (omega arith)

    pub scan_found : next * 32 + requested ≤ (i + 1) * 32 → Some next ≡ in_slots (place_of slots requested)
    scan_found h = rw (found grows ends below h, lt-ltb next 16 (omega arith))

    pub scan_more : next ≤ 4096 → (i + 1) * 32 < next * 32 + requested → Scanned slots requested next (i + 1)
    scan_more = more grows ends below

pub scan_end : (slots : Slots) (requested start i : ℕ) → Scanned slots requested start i → 16 ≤ i → None ≡ in_slots (place_of slots requested)
unfolding place_of
scan_end slots requested start i s h = rw (least-none (fits_at slots requested) 16 (λ k q. at k q (bool (ltb k start))))
  where
    at : (k : ℕ) → k < 16 → (ltb k start ≡ true) ⊎ (ltb k start ≡ false) → fits_at slots requested k ≡ false
    at k q (inl t) = s.none k (ltb-true k start t) q
    at k q (inr t) = no_room slots requested k (omega (arith, s.short, s.bound, ltb-false k start t))
