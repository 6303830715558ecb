-- `writer::operand::operand` meets its contract: each variant is added by its own function. Assumes nothing.
use Rattle.statement.specs.Canonical.{operand_text}
use Rattle.writer.proofs.operand.operand.Goals as goal

pub returns-in-Descriptor : goal.returns-in-Descriptor
unfolding operand_text
returns-in-Descriptor c = rw c.in-Descriptor.is c.name.ensures

pub returns-in-Address : goal.returns-in-Address
unfolding operand_text
returns-in-Address c = rw c.in-Address.is c.address.ensures
