-- The placing gives the lowest multiple of 32 from which the columns are free, where there is one: it is the least of sixteen places, and a free run
-- starts below column 512. Assumes nothing.
use Prim.Native.Nat.{ℕ, zero, suc, ◌+◌, ◌*◌, ◌/◌, ◌%◌, ◌≤◌, ◌<◌}
use mathlib.Core.Path.{◌≡◌, refl, sym, ◌∙◌, subst}
use mathlib.Core.Bool.{Bool, true, false, cond}
use mathlib.Core.List.{List}
use mathlib.Core.Option.{Option, none, some, some-injective, none-ne-some}
use native.Mathlib.Omega.{arith}
use lib.Dec.{leb, ltb}
use borrow.Author.Tests.{ltb-true, ltb-false, leb-true, le-leb}
use Rattle.rules.specs.Counting.{every, least}
use Rattle.rules.specs.State.{Allocation, is_free, free_from, slot, lowest}
use Rattle.rules.specs.Claims.{Free, LowestExact}
use Rattle.laws.proofs.BoolLaws.{and_l, and_r, clash}
use Rattle.rules.proofs.CountingLaws.{every-at, every-all, least_hit, least-below}

-- the test is the meaning
pub from_test : (l : List Allocation) (x start : ℕ) → free_from l x start ≡ true → Free l x start
unfolding free_from
from_test l x start e c p q =
    let top : start + x ≤ 512 = leb-true (start + x) 512 (and_l (leb (start + x) 512) (every (is_free l) start x) e) in
    (omega (arith, top, q), every-at (is_free l) start x c (and_r (leb (start + x) 512) (every (is_free l) start x) e) p q)

pub to_test : (l : List Allocation) (x start : ℕ) → 0 < x → Free l x start → free_from l x start ≡ true
unfolding free_from
to_test l zero start p f = absurd (omega (arith, p))
to_test l (suc x) start p f =
    let top : start + x < 512 = (f (start + x) (omega arith) (omega arith)).0 in
    rw (le-leb (start + suc x) 512 (omega (arith, top))) (every-all (is_free l) start (suc x) (λ c q r. (f c q r).1))

module _ (l : List Allocation) (x : ℕ) where
  abbrev first : ℕ
  first = least (λ i. free_from l x (i * 32)) 16

  abbrev choice : Bool → Option ℕ
  choice t = cond t (some (first * 32)) none

  is_choice : lowest l x ≡ choice (ltb first 16)
  unfolding lowest slot
  is_choice = refl

  some_is : (t : Bool) → ltb first 16 ≡ t → (start : ℕ) → choice t ≡ some start → (first < 16) × (first * 32 ≡ start)
  some_is true e start f = (ltb-true first 16 e, some-injective (first * 32) start f)
  some_is false e start f = absurd (none-ne-some start f)

  none_is : (t : Bool) → ltb first 16 ≡ t → choice t ≡ none → 16 ≤ first
  none_is true e f = absurd (none-ne-some (first * 32) (sym f))
  none_is false e f = ltb-false first 16 e

  -- no lower place is free
  lower : (other : ℕ) → 0 < x → other % 32 ≡ 0 → Free l x other → first ≤ other / 32
  lower other p a f = omega (arith, below)
    where
      below : other / 32 < first → ⊥
      below h = clash (subst (λ j. free_from l x j ≡ true) (let z : other ≡ other / 32 * 32 = omega (arith, a) in z) (to_test l x other p f)) (least-below (λ i. free_from l x (i * 32)) 16 (other / 32) h)

  pub lowest_exact : 0 < x → LowestExact l x
  lowest_exact p =
      record {
        aligned = λ start e. let s = got start e in omega (arith, s.1);
        free = λ start e. let s = got start e in subst (λ j. Free l x j) s.1 (from_test l x (first * 32) (least_hit (λ i. free_from l x (i * 32)) 16 s.0));
        least = λ start other e a f. omega (arith, (got start e).1, lower other p a f);
        none = λ e other a f. omega (arith, none_is (ltb first 16) refl (sym is_choice ∙ e), lower other p a f, (f other (omega arith) (omega (arith, p))).0);
      }
    where
      got : (start : ℕ) → lowest l x ≡ some start → (first < 16) × (first * 32 ≡ start)
      got start e = some_is (ltb first 16) refl start (sym is_choice ∙ e)
