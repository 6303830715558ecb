-- The registers that the operands of an opcode name. Assumes nothing.
use Rattle.std.specs.Prelude.{List}
use Rattle.tokens.specs.declared.Name.{Name}
use Rattle.tokens.specs.Cursors.{Rest}
use Rattle.statement.specs.declared.Opcode.{Opcode}
use Rattle.statement.specs.Reading.{operands_c}

-- the names of the registers among the operands of an opcode, read from r on
unfoldable pub list_c : Opcode → Rest → List Name
list_c o r = (operands_c o r).value.registers
