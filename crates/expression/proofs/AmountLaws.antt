-- Amounts out of range. Assumes nothing.
use Prim.Native.Nat.{ℕ, ◌*◌, ◌^◌, ◌≤◌, ◌<◌}
use mathlib.Core.Path.{◌≡◌, refl, sym, ap, ◌∙◌}
use mathlib.Core.Bool.{Bool, true, false, cond}
use native.Mathlib.Omega.{arith}
use lib.Dec.{ltb}
use borrow.Author.Tests.{lt-leb, ltb-false}
use Rattle.laws.proofs.BoolLaws.{clash}
use Rattle.expression.specs.declared.exact.Product.{Product}
use Rattle.expression.specs.Amounts.{beyond, most_of, ranged, product}

most_le : (minus : Bool) → most_of minus ≤ 2 ^ 63
most_le true = omega arith
most_le false = omega arith

pub ranged-out : (minus : Bool) (size : ℕ) → 2 ^ 63 < size → beyond ≡ ranged minus size
unfolding ranged
ranged-out minus size h = rw (lt-leb size (most_of minus) (omega (arith, most_le minus)))

module _ (x y : ℕ) (p : Product) (e : p ≡ product x y) where
  pub product-over : p.over ≡ true → 2 ^ 64 ≤ x * y
  unfolding product
  product-over o = by (ltb (x * y) (2 ^ 64)) refl (ap (λ (q : Product). q.over) (sym e) ∙ o)
    where
      res : Bool → Product
      res b = cond b (record { over = false; value = x * y }) (record { over = true; value = 0 })

      by : (b : Bool) → ltb (x * y) (2 ^ 64) ≡ b → (res b).over ≡ true → 2 ^ 64 ≤ x * y
      by true z o = absurd (clash o refl)
      by false z o = ltb-false (x * y) (2 ^ 64) z

  pub product_value : p.over ≡ false → p.value ≡ x * y
  unfolding product
  product_value o = ap (λ (q : Product). q.value) e ∙ by (ltb (x * y) (2 ^ 64)) (ap (λ (q : Product). q.over) (sym e) ∙ o)
    where
      res : Bool → Product
      res b = cond b (record { over = false; value = x * y }) (record { over = true; value = 0 })

      by : (b : Bool) → (res b).over ≡ false → (res b).value ≡ x * y
      by true o = refl
      by false o = absurd (clash refl o)
