-- `writer::form::store` meets its contract: the additions follow the row of its opcode, and the count goes with the names. Assumes nothing.
use Rattle.std.proofs.Common.{eqb, length, take}
use Rattle.statement.specs.declared.Opcode.TheVariants.{Store}
use Rattle.statement.specs.Forms.{word, names}
use Rattle.statement.specs.Canonical.{row_text, more_row_text, row_given, slot_given, names_text, address_text, address_given}
use Rattle.writer.proofs.Rows.{store_law}
use Rattle.writer.proofs.form.store.Goals as goal

pub returns : goal.returns
unfolding word row_text more_row_text row_given
returns c =
    let a = c.args in
    let x = a.a in
    let ns = take x.registers a.registers.now in
    rw (c.put-2.ensures, c.names.ensures, c.put.ensures, c.address.ensures, c.access_word.ensures)
    (store_law (word (Store x.shape x.num)) (address_text x.address) (names_text ns) (eqb x.registers (length ns)) (address_given x.address) (slot_given names ns) a.t.now)
