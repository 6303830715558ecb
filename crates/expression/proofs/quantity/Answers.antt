-- `expression::quantity` meets its contract: what follows a number tells whether it is alone. Assumes nothing.
use mathlib.Core.Path.{◌∙◌}
use Rattle.tokens.specs.Cursors.{seen}
use Rattle.expression.proofs.QuantityLaws.{alone, not-alone}
use Rattle.expression.proofs.quantity.Goals as goal

pub returns-then-e-goes_on : goal.returns-then-e-goes_on
returns-then-e-goes_on c = let a = c.args in
    alone a.limit (seen a.s.now a.k) _ _ c.number-n.ensures.rest c.goes_on.ensures c.if-e-goes_on.true

pub returns : goal.returns
returns c = let a = c.args in
    c.expression.ensures ∙ not-alone a.limit (seen a.s.now a.k) _ _ c.number-n.ensures.rest c.goes_on.ensures c.if-e-goes_on.false
