-- `expression::sum_operator` meets its contract: a + is tried first, as in the definition. Assumes nothing.
use Rattle.expression.specs.Expressions.{sum_c}
use Rattle.expression.proofs.sum_operator.Goals as goal

pub returns-then-p : goal.returns-then-p
unfolding sum_c
returns-then-p c = rw (← c.mark-p.ensures, c.if-p.true)

pub returns : goal.returns
unfolding sum_c
returns c = rw (← c.mark-p.ensures, c.if-p.false, c.mark-m.ensures)
