-- `reader::operand::operand` meets its contract. Whether a bracket opens picks the case, as in the definition. Assumes nothing.
use Rattle.statement.specs.Reading.{operand_c}
use Rattle.reader.proofs.operand.operand.Goals as goal

pub returns-then-d : goal.returns-then-d
unfolding operand_c
returns-then-d c = rw (← c.mark-d.ensures.rest, ← c.inside-a.ensures, c.if-d.true)

pub returns : goal.returns
unfolding operand_c
returns c = rw (← c.mark-d.ensures.rest, ← c.name-n.ensures.rest, c.if-d.false)
