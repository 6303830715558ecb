-- `expression::exact::added` meets its contract: a sum of 2^64 or more is out of range for either sign. Assumes nothing.
use mathlib.Core.Path.{◌∙◌}
use native.Mathlib.Omega.{arith}
use borrow.Author.Tests.{le-leb, lt-leb}
use Rattle.expression.specs.Amounts.{plus}
use Rattle.expression.proofs.AmountLaws.{ranged-out}
use Rattle.expression.proofs.exact.added.Goals as goal

pub returns-then-a-b : goal.returns-then-a-b
unfolding plus
returns-then-a-b c = rw (c.out.ensures, c.if-a-b.true)

pub returns-then-y-x : goal.returns-then-y-x
unfolding plus
returns-then-y-x c = rw (c.signed.ensures, c.if-a-b.false, ← c.unlike.ensures, c.if-unlike.true, le-leb _ _ c.if-y-x.true)

pub returns-then-unlike : goal.returns-then-unlike
unfolding plus
returns-then-unlike c = rw (c.signed-then-unlike.ensures, c.if-a-b.false, ← c.unlike.ensures, c.if-unlike.true, lt-leb _ _ c.if-y-x.false)

pub returns-then-x-y : goal.returns-then-x-y
unfolding plus
returns-then-x-y c = rw (c.if-a-b.false, ← c.unlike.ensures, c.if-unlike.false) (c.out-then-x-y.ensures ∙ ranged-out _ _ (omega (arith, c.if-x-y.true)))

pub returns : goal.returns
unfolding plus
returns c = rw (c.if-a-b.false, ← c.unlike.ensures, c.if-unlike.false) c.signed-2.ensures
