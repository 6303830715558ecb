-- A legal request is a power of two from 32 to 512: exactly one bit set means a power of two. By halving. Assumes nothing.
use Prim.Native.Nat.{ℕ, suc, ◌+◌, ◌*◌, ◌/◌, ◌%◌, ◌^◌}
use mathlib.Core.Path.{◌≡◌, refl, ap, ◌∙◌}
use mathlib.Core.Bool.{true}
use mathlib.Core.List.{[], ◌∷◌}
use mathlib.Core.Logic.{⊎_elim}
use native.Mathlib.Nat.{pow-suc, eq-zero-or-pos}
use native.Mathlib.Omega.{arith}
use lib.Arith.{bin_ind}
use lib.Count.{ones, ones_in, ones_step, ones_cat}
use lib.Dec.{eqb, leb}
use lib.Pow.{pow_pos}
use borrow.Author.Tests.{leb-true, eqb-true, le-leb, eq-eqb}
use Rattle.laws.proofs.TestLaws.{each, all_of}
use Rattle.request.specs.Claims.{RequestExact}

no_ones : (n : ℕ) → ones n ≡ 0 → n ≡ 0
no_ones = bin_ind (λ n. ones n ≡ 0 → n ≡ 0) (λ h. refl) (λ n ih h. omega (arith, ones_step n, ih (omega (arith, ones_step n))))

zero-ones : ones 0 ≡ 1 → (k : ℕ) × (0 ≡ 2 ^ k)
unfolding ones ones_in
zero-ones h = absurd (omega arith)

halved : (n : ℕ) → (ones (n / 2) ≡ 1 → (k : ℕ) × (n / 2 ≡ 2 ^ k)) → ones n ≡ 1 → (k : ℕ) × (n ≡ 2 ^ k)
halved n ih h =
    ⊎_elim
    (λ z. let r : (k : ℕ) × (n / 2 ≡ 2 ^ k) = ih (omega (arith, ones_step n)) in (suc r.0, omega (arith, r.1, pow-suc 2 r.0)))
    (λ p. (0, omega (arith, no_ones (n / 2) (omega (arith, ones_step n)))))
    (eq-zero-or-pos (n % 2))

-- a number with exactly one bit set is a power of two
pub one_bit : (n : ℕ) → ones n ≡ 1 → (k : ℕ) × (n ≡ 2 ^ k)
one_bit = bin_ind (λ n. ones n ≡ 1 → (k : ℕ) × (n ≡ 2 ^ k)) zero-ones halved

-- and a power of two has exactly one
pub power : (k : ℕ) → ones (2 ^ k) ≡ 1
unfolding ones ones_in
power k = let e : 2 ^ k ≡ 1 * 2 ^ k + 0 = omega arith in ap ones e ∙ ones_cat k 1 0 (pow_pos k)

pub request_exact : (columns : ℕ) → RequestExact columns
request_exact n = record {
  power = λ h.
      let t : (leb 32 n ≡ true) × ((leb n 512 ≡ true) × ((eqb (ones n) 1 ≡ true) × Unit)) = each (leb 32 n ∷ leb n 512 ∷ eqb (ones n) 1 ∷ []) h in
      let r : (k : ℕ) × (n ≡ 2 ^ k) = one_bit n (eqb-true (ones n) 1 t.1.1.0) in
      record { exponent = r.0; power = r.1; least = leb-true 32 n t.0; most = leb-true n 512 t.1.0 };
  bit = λ p.
      all_of (leb 32 n ∷ leb n 512 ∷ eqb (ones n) 1 ∷ [])
      (le-leb 32 n p.least, (le-leb n 512 p.most, (eq-eqb (ones n) 1 (ap ones p.power ∙ power p.exponent), tt)));
}
