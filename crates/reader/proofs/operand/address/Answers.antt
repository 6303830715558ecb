-- `reader::operand::address` meets its contract. The bracket's contract, and that of what stands inside. Assumes nothing.
use Rattle.statement.specs.Reading.{address_c}
use Rattle.reader.proofs.operand.address.Goals as goal

pub returns : goal.returns
unfolding address_c
returns c = rw (← c.mark.ensures.rest, ← c.inside.ensures)
