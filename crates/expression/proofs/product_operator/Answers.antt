-- `expression::product_operator` meets its contract. Assumes nothing.
use Rattle.expression.specs.Expressions.{product_c}
use Rattle.expression.proofs.product_operator.Goals as goal

pub returns : goal.returns
unfolding product_c
returns c = rw c.mark-t.ensures
