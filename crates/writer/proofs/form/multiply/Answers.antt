-- `writer::form::multiply` meets its contract: the additions follow the row that the metadata decides. Assumes nothing.
use Rattle.std.proofs.Common.{[], ◌∷◌, true, false}
use Rattle.statement.specs.declared.Opcode.TheVariants.{Multiply}
use Rattle.statement.specs.Forms.{word, address, operand, name}
use Rattle.writer.proofs.Rows.{row_law}
use Rattle.writer.proofs.form.multiply.Goals as goal

pub returns-in-None : goal.returns-in-None
returns-in-None c =
    let a = c.args in
    let m = a.m in
    rw (c.in-None.is, c.mma_back.ensures, c.mma_front.ensures)
    (row_law (word (Multiply m.ws false m.kind)) address (operand ∷ name ∷ name ∷ name ∷ []) (m.d, (m.a, (m.b, (m.idesc, (m.predicate, tt))))) a.t.now)

pub returns-in-Some : goal.returns-in-Some
returns-in-Some c =
    let a = c.args in
    let m = a.m in
    rw (c.in-Some.is, c.mma_back-in-Some.ensures, c.address.ensures, c.put.ensures, c.mma_front-in-Some.ensures)
    (row_law (word (Multiply m.ws true m.kind)) address (operand ∷ name ∷ address ∷ name ∷ name ∷ []) (m.d, (m.a, (m.b, (_, (m.idesc, (m.predicate, tt)))))) a.t.now)
