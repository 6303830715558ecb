-- The arithmetic of sign and size is that of the integers: a sign and a size stand for one integer, each operation gives the sign and the size of what the
-- integers give, and both ask the same of its range. Assumes nothing.
use Prim.Native.Nat.{ℕ, zero, suc, ◌+◌, ◌-◌, ◌*◌, ◌^◌, ◌≤◌}
use mathlib.Core.Path.{◌≡◌, refl, sym, ap, ◌∙◌}
use mathlib.Core.Bool.{Bool, true, false, not, cond}
use mathlib.Core.Option.{none, some}
use native.Mathlib.Omega.{arith}
use lib.Dec.{leb, ltb}
use lib.IntN.{ℤ, pos, negsuc, neg_ℤ, ◌+ℤ◌, ◌-ℤ◌, ◌*ℤ◌, pos-+ℤ-pos, neg_ℤ-+ℤ, neg_ℤ-neg_ℤ, +ℤ-neg_ℤ_cancel, +ℤ_comm, pos-*ℤ-pos, *ℤ_comm, *ℤ-negsuc, *ℤ-zero}
use borrow.Author.Tests.{lt-ltb, leb-true, leb-false}
use Rattle.expression.specs.declared.Amount.{Amount}
use Rattle.expression.specs.declared.Operator.{Operator}
use Rattle.expression.specs.declared.Operator.TheVariants as o
use Rattle.expression.specs.Amounts.{beyond, differ, ranged, negated, times, plus, apply}
use Rattle.expression.specs.Integers.{Result, result_of, operate, join, opposite}
use Rattle.expression.specs.Claims.{amount_of, ArithmeticExact}

-- ---- one amount
-- the integer of a sign and a size
abbrev signed_by : Bool → ℕ → ℤ
signed_by minus size = cond minus (neg_ℤ (pos size)) (pos size)

abbrev is_minus : ℤ → Bool
is_minus (pos n) = false
is_minus (negsuc n) = true

abbrev size_of : ℤ → ℕ
size_of (pos n) = n
size_of (negsuc n) = suc n

signed_is : (k : ℤ) → signed_by (is_minus k) (size_of k) ≡ k
signed_is (pos n) = refl
signed_is (negsuc n) = refl

amount_is : (k : ℤ) → amount_of (some k) ≡ record { over = false; minus = is_minus k; size = size_of k }
amount_is (pos n) = refl
amount_is (negsuc n) = refl

-- back from an amount
abbrev result_in : Amount → Result
result_in a = cond a.over none (some (signed_by a.minus a.size))

result_amount : (u : Result) → result_in (amount_of u) ≡ u
result_amount none = refl
result_amount (some (pos n)) = refl
result_amount (some (negsuc n)) = refl

apart : (u v : Result) → amount_of u ≡ amount_of v → u ≡ v
apart u v e = sym (result_amount u) ∙ ap result_in e ∙ result_amount v

-- a sign and a size are in range where their integer is
ranged-is : (minus : Bool) (size : ℕ) → ranged minus size ≡ amount_of (result_of (signed_by minus size))
unfolding ranged
ranged-is false n = go (leb n (2 ^ 63 - 1))
  where
    go : (b : Bool) → cond b (record { over = false; minus = false; size = n }) beyond ≡ amount_of (cond b (some (pos n)) none)
    go true = refl
    go false = refl
ranged-is true zero = refl
ranged-is true (suc n) = go (leb (suc n) (2 ^ 63)) (lt-ltb 0 (suc n) (omega arith))
  where
    go : (b : Bool) → ltb 0 (suc n) ≡ true → cond b (record { over = false; minus = ltb 0 (suc n); size = suc n }) beyond ≡ amount_of (cond b (some (negsuc n)) none)
    go true z = ap (λ (m : Bool). record { over = false; minus = m; size = suc n }) z
    go false z = refl

-- where the integer of a sign and a size is k
ranged_as : (minus : Bool) (size : ℕ) (k : ℤ) → signed_by minus size ≡ k → ranged minus size ≡ amount_of (result_of k)
ranged_as minus size k e = ranged-is minus size ∙ ap (λ (j : ℤ). amount_of (result_of j)) e

-- ---- sums
less : (x y : ℕ) → y ≤ x → pos x +ℤ neg_ℤ (pos y) ≡ pos (x - y)
less x y h =
    let e : x - y + y ≡ x = omega arith in
    ap (λ (k : ℤ). k +ℤ neg_ℤ (pos y)) (ap pos (sym e) ∙ sym (pos-+ℤ-pos (x - y) y)) ∙ +ℤ-neg_ℤ_cancel (pos (x - y)) (pos y)

like : (m : Bool) (x y : ℕ) → signed_by m (x + y) ≡ signed_by m x +ℤ signed_by m y
like true x y = ap neg_ℤ (sym (pos-+ℤ-pos x y)) ∙ neg_ℤ-+ℤ (pos x) (pos y)
like false x y = sym (pos-+ℤ-pos x y)

-- unlike signs, the first the larger
unlike_first : (m : Bool) (x y : ℕ) → y ≤ x → signed_by m (x - y) ≡ signed_by m x +ℤ signed_by (not m) y
unlike_first true x y h =
    ap neg_ℤ (sym (less x y h)) ∙ neg_ℤ-+ℤ (pos x) (neg_ℤ (pos y)) ∙ ap (λ (k : ℤ). neg_ℤ (pos x) +ℤ k) (neg_ℤ-neg_ℤ (pos y))
unlike_first false x y h = sym (less x y h)

-- unlike signs, the second the larger: the same, turned round
unlike_second : (m : Bool) (x y : ℕ) → x ≤ y → signed_by (not m) (y - x) ≡ signed_by m x +ℤ signed_by (not m) y
unlike_second true x y h = unlike_first false y x h ∙ +ℤ_comm (pos y) (neg_ℤ (pos x))
unlike_second false x y h = unlike_first true y x h ∙ +ℤ_comm (neg_ℤ (pos y)) (pos x)

sum_is : (m n : Bool) (x y : ℕ) (b : Bool) → leb y x ≡ b
    → cond (differ m n) (cond b (ranged m (x - y)) (ranged n (y - x))) (ranged m (x + y)) ≡ amount_of (result_of (signed_by m x +ℤ signed_by n y))
sum_is true true x y b e = ranged_as true (x + y) _ (like true x y)
sum_is false false x y b e = ranged_as false (x + y) _ (like false x y)
sum_is true false x y true e = ranged_as true (x - y) _ (unlike_first true x y (leb-true y x e))
sum_is false true x y true e = ranged_as false (x - y) _ (unlike_first false x y (leb-true y x e))
sum_is true false x y false e = ranged_as false (y - x) _ (unlike_second true x y (omega (arith, leb-false y x e)))
sum_is false true x y false e = ranged_as true (y - x) _ (unlike_second false x y (omega (arith, leb-false y x e)))

plus-is : (m n : Bool) (x y : ℕ) → plus (record { over = false; minus = m; size = x }) (record { over = false; minus = n; size = y }) ≡ amount_of (result_of (signed_by m x +ℤ signed_by n y))
unfolding plus
plus-is m n x y = sum_is m n x y (leb y x) refl

-- ---- products
neg_right : (k : ℤ) (y : ℕ) → k *ℤ neg_ℤ (pos y) ≡ neg_ℤ (k *ℤ pos y)
neg_right k zero = *ℤ-zero k ∙ sym (ap neg_ℤ (*ℤ-zero k))
neg_right k (suc n) = *ℤ-negsuc k n

neg_left : (x : ℕ) (k : ℤ) → neg_ℤ (pos x) *ℤ k ≡ neg_ℤ (pos x *ℤ k)
neg_left x k = *ℤ_comm (neg_ℤ (pos x)) k ∙ neg_right k x ∙ ap neg_ℤ (*ℤ_comm k (pos x))

product_is : (m n : Bool) (x y : ℕ) → signed_by (differ m n) (x * y) ≡ signed_by m x *ℤ signed_by n y
product_is true true x y =
    sym (neg_right (neg_ℤ (pos x)) y ∙ ap neg_ℤ (neg_left x (pos y)) ∙ neg_ℤ-neg_ℤ (pos x *ℤ pos y) ∙ pos-*ℤ-pos x y)
product_is true false x y = sym (neg_left x (pos y) ∙ ap neg_ℤ (pos-*ℤ-pos x y))
product_is false true x y = sym (neg_right (pos x) y ∙ ap neg_ℤ (pos-*ℤ-pos x y))
product_is false false x y = sym (pos-*ℤ-pos x y)

-- ---- what an operator makes of two results
flip_is : (m : Bool) (x : ℕ) → signed_by (not m) x ≡ neg_ℤ (signed_by m x)
flip_is true x = sym (neg_ℤ-neg_ℤ (pos x))
flip_is false x = refl

-- of two integers by their signs and sizes
both_signed : (f : ℤ → ℤ → ℤ) (j k : ℤ) → amount_of (result_of (f (signed_by (is_minus j) (size_of j)) (signed_by (is_minus k) (size_of k)))) ≡ amount_of (result_of (f j k))
both_signed f j k = ap (λ (n : ℤ). amount_of (result_of (f n (signed_by (is_minus k) (size_of k))))) (signed_is j) ∙ ap (λ (n : ℤ). amount_of (result_of (f j n))) (signed_is k)

operated : (x : Operator) (j k : ℤ) → apply x (amount_of (some j)) (amount_of (some k)) ≡ amount_of (result_of (operate x j k))
unfolding times
operated o.Plus j k = rw (amount_is j, amount_is k) (plus-is (is_minus j) (is_minus k) (size_of j) (size_of k) ∙ both_signed ◌+ℤ◌ j k)
operated o.Minus j k =
    rw (amount_is j, amount_is k)
    (plus-is (is_minus j) (not (is_minus k)) (size_of j) (size_of k)
    ∙ ap (λ (n : ℤ). amount_of (result_of (signed_by (is_minus j) (size_of j) +ℤ n))) (flip_is (is_minus k) (size_of k))
    ∙ both_signed ◌-ℤ◌ j k)
operated o.Times j k =
    rw (amount_is j, amount_is k)
    (ranged_as (differ (is_minus j) (is_minus k)) (size_of j * size_of k) _ (product_is (is_minus j) (is_minus k) (size_of j) (size_of k)) ∙ both_signed ◌*ℤ◌ j k)

-- what is made of one out of range is out of range
first_out : (x : Operator) (a : Amount) → apply x beyond a ≡ beyond
unfolding plus times
first_out o.Plus a = refl
first_out o.Minus a = refl
first_out o.Times a = refl

second_out : (x : Operator) (j : ℤ) → apply x (amount_of (some j)) beyond ≡ beyond
unfolding plus times
second_out o.Plus j = rw (amount_is j)
second_out o.Minus j = rw (amount_is j)
second_out o.Times j = rw (amount_is j)

joined : (x : Operator) (u v : Result) → apply x (amount_of u) (amount_of v) ≡ amount_of (join x u v)
joined x (some j) (some k) = operated x j k
joined x (some j) none = second_out x j
joined x none v = first_out x (amount_of v)

turned : (u : Result) → negated (amount_of u) ≡ amount_of (opposite u)
unfolding negated
turned none = refl
turned (some k) =
    rw (amount_is k)
    (ranged_as (not (is_minus k)) (size_of k) _ (flip_is (is_minus k) (size_of k)) ∙ ap (λ (n : ℤ). amount_of (result_of (neg_ℤ n))) (signed_is k))

pub arithmetic_exact : ArithmeticExact
arithmetic_exact = record { apart = apart; number = ranged-is false; joined = joined; negated = turned }
