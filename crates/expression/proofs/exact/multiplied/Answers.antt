-- `expression::exact::multiplied` meets its contract: a product of 2^64 or more is out of range for either sign. Assumes nothing.
use mathlib.Core.Path.{◌∙◌, ap}
use native.Mathlib.Omega.{arith}
use Rattle.expression.specs.Amounts.{times, ranged}
use Rattle.expression.proofs.AmountLaws.{ranged-out, product-over, product_value}
use Rattle.expression.proofs.exact.multiplied.Goals as goal

pub returns-then-a-b : goal.returns-then-a-b
unfolding times
returns-then-a-b c = rw (c.out.ensures, c.if-a-b.true)

pub returns-then-p : goal.returns-then-p
unfolding times
returns-then-p c = rw c.if-a-b.false (c.out-then-p.ensures ∙ ranged-out _ _ (omega (arith, product-over _ _ _ c.by_halves-p.ensures c.if-p.true)))

pub returns : goal.returns
unfolding times
returns c = rw (c.if-a-b.false, ← c.unlike.ensures) (c.signed.ensures ∙ ap (ranged c.unlike.result) (product_value _ _ _ c.by_halves-p.ensures c.if-p.false))
