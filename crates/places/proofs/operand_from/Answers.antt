-- `places::operand_from` meets its contract: past the opcode, the commas and the spaces. Assumes nothing.
use Rattle.statement.specs.Positions.{operand_from}
use Rattle.places.proofs.operand_from.Goals as goal

pub returns : goal.returns
unfolding operand_from
returns c = rw (← c.after_opcode.ensures, ← c.after_commas.ensures, ← c.after_blanks.ensures)
