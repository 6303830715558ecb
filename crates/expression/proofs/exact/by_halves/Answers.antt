-- `expression::exact::by_halves` meets its contract: two high halves are over; else the factor without one comes second. Assumes nothing.
use mathlib.Core.Path.{◌∙◌}
use Rattle.expression.proofs.ProductLaws.{both_high, is-over, product_comm}
use Rattle.expression.proofs.exact.by_halves.Goals as goal

pub returns-then-x-ge-HALF : goal.returns-then-x-ge-HALF
returns-then-x-ge-HALF c = is-over _ _ (both_high _ _ c.if-x-ge-HALF.true c.if-y-ge-HALF.true)

pub returns-then-y-ge-HALF : goal.returns-then-y-ge-HALF
returns-then-y-ge-HALF c = c.narrow.ensures ∙ product_comm _ _
