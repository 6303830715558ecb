-- `writer::operand::address` meets its contract: four additions are one. Assumes nothing.
use Rattle.statement.specs.Forms.{max32}
use Rattle.std.proofs.Common.{leb}
use Rattle.tokens.specs.Names.{name_bytes, name_given}
use Rattle.statement.specs.Canonical.{address_text, offset_text}
use Rattle.writer.proofs.Rows.{address_law}
use Rattle.writer.proofs.operand.address.Goals as goal

pub returns : goal.returns
unfolding address_text
returns c =
    let a = c.args in
    rw (c.put-2.ensures, c.offset.ensures, c.name.ensures, c.put.ensures) (address_law (name_bytes a.x.base) (offset_text a.x.offset) (name_given a.x.base) (leb a.x.offset max32) a.t.now)
