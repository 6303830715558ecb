-- `expression::exact::negate` meets its contract. Assumes nothing.
use Rattle.expression.specs.Amounts.{negated}
use Rattle.expression.proofs.exact.negate.Goals as goal

pub returns-then-a : goal.returns-then-a
unfolding negated
returns-then-a c = rw (c.out.ensures, c.if-a.true)

pub returns : goal.returns
unfolding negated
returns c = rw (c.signed.ensures, c.if-a.false)
