-- `reader::operand::plain_offset` meets its contract. Whether a plus stands there picks the case, as in the definition. Assumes nothing.
use Rattle.reader.specs.Rows.{plain_offset_c}
use Rattle.reader.proofs.operand.plain_offset.Goals as goal

pub returns-then-d : goal.returns-then-d
unfolding plain_offset_c
returns-then-d c = rw (← c.mark-d.ensures.rest, ← c.plain32.ensures, c.if-d.true)

pub returns : goal.returns
unfolding plain_offset_c
returns c = rw (← c.mark-d.ensures.rest, c.if-d.false)
