-- What is shown of the arithmetic: by sign and size it is that of the integers, in range and out of it. Assumes nothing.
use Rattle.std.specs.Prelude.{ℕ, suc, ◌≡◌, true, false, pos, negsuc}
use Rattle.std.proofs.Math.Option.{none, some}
use Rattle.expression.specs.declared.Amount.{Amount}
use Rattle.expression.specs.declared.Operator.{Operator}
use Rattle.expression.specs.Integers.{Result, result_of, join, opposite}
use Rattle.expression.specs.Amounts.{beyond, ranged, negated, apply}

-- a result by its sign and its size; negsuc n is -(n + 1)
abbrev pub amount_of : Result → Amount
amount_of none = beyond
amount_of (some (pos n)) = record { over = false; minus = false; size = n }
amount_of (some (negsuc n)) = record { over = false; minus = true; size = suc n }

pub record ArithmeticExact : Type 0 where
  -- No two results are one amount.
  pub apart : (u v : Result) → amount_of u ≡ amount_of v → u ≡ v
  -- A number gives the amount of that integer's result,
  pub number : (n : ℕ) → ranged false n ≡ amount_of (result_of (pos n))
  -- two amounts joined by an operator that of what the integers give,
  pub joined : (x : Operator) (u v : Result) → apply x (amount_of u) (amount_of v) ≡ amount_of (join x u v)
  -- and one negated that of the opposite.
  pub negated : (u : Result) → negated (amount_of u) ≡ amount_of (opposite u)
