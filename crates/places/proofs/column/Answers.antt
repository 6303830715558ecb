-- `places::column` meets its contract. One law for each position that has a place in the text. Assumes nothing.
use Rattle.statement.specs.Positions.{byte_column}
use Rattle.places.proofs.Laws.{name_column, operand_column}
use Rattle.places.proofs.column.Goals as goal

pub stopped-requires : goal.stopped-requires
stopped-requires c = c.read.ensures

pub returns-in-Start : goal.returns-in-Start
unfolding byte_column
returns-in-Start c = rw c.in-Start.is

pub returns-in-Token : goal.returns-in-Token
returns-in-Token c = rw c.in-Token.is c.stopped.ensures

pub returns-in-Opcode : goal.returns-in-Opcode
unfolding byte_column
returns-in-Opcode c = rw c.in-Opcode.is

pub returns-in-Name : goal.returns-in-Name
returns-in-Name c =
    let a = c.args in
    let p = c.name in
    rw c.in-Name.is (name_column a.s.now p.result c.column_at.result c.column_at.ensures _ p.ensures)

pub returns-in-Operand : goal.returns-in-Operand
returns-in-Operand c =
    let a = c.args in
    let p = c.operand in
    rw c.in-Operand.is (operand_column a.s.now p.result c.column_at-in-Operand.result c.column_at-in-Operand.ensures _ p.ensures)
