-- `expression::exact::signed` meets its contract. Assumes nothing.
use borrow.Author.Tests.{le-leb, lt-leb}
use Rattle.expression.specs.Amounts.{ranged}
use Rattle.expression.proofs.exact.signed.Goals as goal

pub returns-then-limit-size : goal.returns-then-limit-size
unfolding ranged
returns-then-limit-size c = rw (c.out.ensures, ← c.most-limit.ensures, lt-leb _ _ c.if-limit-size.true)

pub returns : goal.returns
unfolding ranged
returns c = rw (← c.most-limit.ensures, le-leb _ _ c.if-limit-size.false)
