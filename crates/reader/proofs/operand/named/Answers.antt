-- `reader::operand::named` meets its contract: the test picks the reader. Assumes nothing.
use Rattle.reader.proofs.operand.named.Goals as goal

pub returns-then-bracketed : goal.returns-then-bracketed
returns-then-bracketed c = rw c.if-bracketed.true c.in_brackets.ensures

pub returns : goal.returns
returns c = rw c.if-bracketed.false c.name.ensures.rest
