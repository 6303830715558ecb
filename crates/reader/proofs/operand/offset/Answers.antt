-- `reader::operand::offset` meets its contract. Whether a plus stands there picks the case, as in the definition. Assumes nothing.
use Rattle.statement.specs.Reading.{offset_c}
use Rattle.reader.proofs.operand.offset.Goals as goal

pub returns-then-d : goal.returns-then-d
unfolding offset_c
returns-then-d c = rw (← c.mark-d.ensures.rest, ← c.number32.ensures, c.if-d.true)

pub returns : goal.returns
unfolding offset_c
returns c = rw (← c.mark-d.ensures.rest, c.if-d.false)
