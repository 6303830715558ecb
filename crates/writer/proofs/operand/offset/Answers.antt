-- `writer::operand::offset` meets its contract: for 0 nothing is added, else a plus and the digits. Assumes nothing.
use Rattle.writer.proofs.Rows.{offset_none, offset_some}
use Rattle.writer.proofs.operand.offset.Goals as goal

pub returns-then-v-ne0 : goal.returns-then-v-ne0
returns-then-v-ne0 c = let a = c.args in rw (c.number.ensures, c.put.ensures, c.from.ensures) (offset_some a.v a.t.now c.if-v-ne0.true)

pub returns-else-v-ne0 : goal.returns-else-v-ne0
returns-else-v-ne0 c = let a = c.args in offset_none a.v a.t.now c.if-v-ne0.false
