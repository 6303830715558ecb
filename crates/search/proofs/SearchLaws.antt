-- The lowest number that passes a test, told by what it is; and how a loop that looks at one number after another finds it. From the rules' own laws
-- of it. Assumes nothing.
use Prim.Native.Nat.{ℕ, zero, suc, ◌+◌, ◌≤◌, ◌<◌}
use mathlib.Core.Path.{◌≡◌, refl, sym, ◌∙◌}
use mathlib.Core.Bool.{Bool, true, false, cond}
use native.Mathlib.Numerals.{add-one}
use native.Mathlib.Omega.{arith}
use lib.Dec.{ltb, eqb}
use borrow.Author.Tests.{le-ltb, eq-eqb, ne_eqb}
use Rattle.rules.specs.Counting.{least}
use Rattle.laws.proofs.BoolLaws.{clash}
use Rattle.rules.proofs.CountingLaws.{least-le, least_hit, least-below}

-- a number that passes is not below it
pub least-at_most : (f : ℕ → Bool) (n i : ℕ) → f i ≡ true → least f n ≤ i
least-at_most f n i e = omega (arith, above)
  where
    above : i < least f n → ⊥
    above q = clash e (least-below f n i q)

-- the number that passes, with none below it
pub least-is : (f : ℕ → Bool) (n i : ℕ) → i < n → f i ≡ true → ((j : ℕ) → j < i → f j ≡ false) → least f n ≡ i
least-is f n i b e h = omega (arith, least-at_most f n i e, not-below)
  where
    not-below : least f n < i → ⊥
    not-below q = clash (least_hit f n (omega arith)) (h (least f n) q)

-- none passes
pub least-none : (f : ℕ → Bool) (n : ℕ) → ((j : ℕ) → j < n → f j ≡ false) → least f n ≡ n
least-none f n h = omega (arith, least-le f n, not-below)
  where
    not-below : least f n < n → ⊥
    not-below q = clash (least_hit f n q) (h (least f n) q)

-- tests that agree find the same
agree_step : (m k n : ℕ) (s : Bool) → m ≡ k → cond (ltb m n) m (cond s n (suc n)) ≡ cond (ltb k n) k (cond s n (suc n))
agree_step m k n s e = rw e

pub least_agree : (f g : ℕ → Bool) (n : ℕ) → ((i : ℕ) → i < n → f i ≡ g i) → least f n ≡ least g n
unfolding least
least_agree f g zero h = refl
least_agree f g (suc n) h = rw (h n (omega arith)) (agree_step (least f n) (least g n) n (g n) (least_agree f g n (λ i q. h i (omega arith))))

-- ---- a loop. None so far, and not here: none up to the next
pub least_more : (f : ℕ → Bool) (n : ℕ) {b : Bool} → least f n ≡ n → b ≡ f n → b ≡ false → least f (n + 1) ≡ n + 1
unfolding least
least_more f n e g h = rw (add-one n, e, le-ltb n n (omega arith), sym g ∙ h)

-- none so far, and here: here, however far the search would go
pub least-here : (f : ℕ → Bool) (n m : ℕ) {b : Bool} → least f n ≡ n → b ≡ f n → b ≡ true → n < m → least f m ≡ n
least-here f n m e g h p = least-is f m n p (sym g ∙ h) (λ j q. least-below f n j (rw e q))

-- the same as a test that none passes
pub none_passes : (f : ℕ → Bool) (n : ℕ) → ((j : ℕ) → j < n → f j ≡ false) → eqb (least f n) n ≡ true
none_passes f n h = eq-eqb (least f n) n (least-none f n h)

pub some-passes : (f : ℕ → Bool) (n i : ℕ) → i < n → f i ≡ true → eqb (least f n) n ≡ false
some-passes f n i b e = ne_eqb (least f n) n (omega (arith, least-at_most f n i e))
