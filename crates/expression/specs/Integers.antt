-- Exact arithmetic on the integers, where every result must lie from -2^63 to 2^63 - 1. Assumes nothing.
use Rattle.std.specs.Prelude.{suc, ◌-◌, ◌^◌, Bool, cond, leb, ℤ, pos, negsuc, neg_ℤ, ◌+ℤ◌, ◌-ℤ◌, ◌*ℤ◌}
use Rattle.std.proofs.Math.Option.{Option, none, some}
use Rattle.expression.specs.declared.Operator.{Operator}
use Rattle.expression.specs.declared.Operator.TheVariants as o

-- an integer in range; none where it, or one that it is made of, is out of range
abbrev pub Result : Type 0
Result = Option ℤ

-- from -2^63 to 2^63 - 1; negsuc n is -(n + 1)
abbrev pub in_range : ℤ → Bool
in_range (pos n) = leb n (2 ^ 63 - 1)
in_range (negsuc n) = leb (suc n) (2 ^ 63)

-- the result of an operation, or none
abbrev pub result_of : ℤ → Result
result_of k = cond (in_range k) (some k) none

-- an operator on two integers
abbrev pub operate : Operator → ℤ → ℤ → ℤ
operate o.Plus j k = j +ℤ k
operate o.Minus j k = j -ℤ k
operate o.Times j k = j *ℤ k

-- the same on two results: none if either is none, whatever the other
abbrev pub join : Operator → Result → Result → Result
join x (some j) (some k) = result_of (operate x j k)
join x (some j) none = none
join x none v = none

-- unary minus
abbrev pub opposite : Result → Result
opposite (some k) = result_of (neg_ℤ k)
opposite none = none
