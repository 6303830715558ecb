-- A product by halves: x is h * 2^32 + l, so x * y is (h * y) * 2^32 + l * y, and it takes 64 bits exactly if h * y and what l * y carries over stay
-- below 2^32. Assumes nothing.
use Prim.Native.Nat.{ℕ, ◌+◌, ◌-◌, ◌*◌, ◌/◌, ◌%◌, ◌^◌, ◌≤◌, ◌<◌}
use mathlib.Core.Path.{◌≡◌, sym, ap, ◌∙◌}
use mathlib.Core.Bool.{true, false}
use native.Mathlib.Omega.{arith}
use native.Mathlib.Nat.{div-add-mod', add-mul, mul_right_comm, mul-le-mul, mul_comm}
use borrow.Author.Tests.{lt-ltb, le-ltb}
use Rattle.expression.specs.Amounts.{product}

pub is-over : (x y : ℕ) → 2 ^ 64 ≤ x * y → record { over = true; value = 0 } ≡ product x y
unfolding product
is-over x y h = rw (le-ltb (x * y) (2 ^ 64) h)

pub is_under : (x y : ℕ) → x * y < 2 ^ 64 → record { over = false; value = x * y } ≡ product x y
unfolding product
is_under x y h = rw (lt-ltb (x * y) (2 ^ 64) h)

pub product_comm : (x y : ℕ) → product x y ≡ product y x
unfolding product
product_comm x y = rw (mul_comm x y)

-- two high halves
pub both_high : (x y : ℕ) → 2 ^ 32 ≤ x → 2 ^ 32 ≤ y → 2 ^ 64 ≤ x * y
both_high x y h i = omega (arith, mul-le-mul h i)

-- in plain variables: p the high part, q the low, v the product
carries : (p q v : ℕ) → v ≡ p * 2 ^ 32 + q → 2 ^ 32 ≤ p + q / 2 ^ 32 → 2 ^ 64 ≤ v
carries p q v e h = omega arith

stays : (p q v : ℕ) → v ≡ p * 2 ^ 32 + q → p + q / 2 ^ 32 < 2 ^ 32 → v < 2 ^ 64
stays p q v e h = omega arith

low_bound : (x : ℕ) → x % 2 ^ 32 ≤ 2 ^ 32 - 1
low_bound x = omega arith

high_bound : (x : ℕ) → x < 2 ^ 64 → x / 2 ^ 32 ≤ 2 ^ 32 - 1
high_bound x h = omega arith

half_bound : (y : ℕ) → y < 2 ^ 32 → y ≤ 2 ^ 32 - 1
half_bound y h = omega arith

module _ (x y : ℕ) (hx : x < 2 ^ 64) (hy : y < 2 ^ 32) where
  split : x * y ≡ x / 2 ^ 32 * y * 2 ^ 32 + x % 2 ^ 32 * y
  split =
      ap (λ (n : ℕ). n * y) (sym (div-add-mod' x (2 ^ 32)))
      ∙ add-mul (x / 2 ^ 32 * 2 ^ 32) (x % 2 ^ 32) y
      ∙ ap (λ (n : ℕ). n + x % 2 ^ 32 * y) (mul_right_comm (x / 2 ^ 32) (2 ^ 32) y)

  pub high_part : x / 2 ^ 32 * y ≤ (2 ^ 32 - 1) * (2 ^ 32 - 1)
  high_part = mul-le-mul (high_bound x hx) (half_bound y hy)

  pub low_part : x % 2 ^ 32 * y ≤ (2 ^ 32 - 1) * (2 ^ 32 - 1)
  low_part = mul-le-mul (low_bound x) (half_bound y hy)

  pub over_by_halves : 2 ^ 32 ≤ x / 2 ^ 32 * y + x % 2 ^ 32 * y / 2 ^ 32 → 2 ^ 64 ≤ x * y
  over_by_halves h = carries (x / 2 ^ 32 * y) (x % 2 ^ 32 * y) (x * y) split h

  pub under_by_halves : x / 2 ^ 32 * y + x % 2 ^ 32 * y / 2 ^ 32 < 2 ^ 32 → x * y < 2 ^ 64
  under_by_halves h = stays (x / 2 ^ 32 * y) (x % 2 ^ 32 * y) (x * y) split h
