-- `reader::form::multiply` meets its contract. Each operand's contract, from the first on, and the answer's are the row of both kinds of mma. Assumes nothing.
use Rattle.tokens.specs.Cursors.{seen}
use Rattle.reader.proofs.Laws.{mma_c, mma-row}
use Rattle.reader.proofs.form.multiply.Goals as goal

pub returns : goal.returns
unfolding mma_c
returns c =
    let a = c.args in
    rw (
      mma-row a.ws a.sp a.kind (seen a.s.now a.k),
      ← c.address-d.ensures,
      ← c.mark-k2.ensures.rest,
      ← c.operand-a.ensures,
      ← c.mark-k4.ensures.rest,
      ← c.name-b.ensures.rest,
      ← c.metadata-m.ensures,
      ← c.mark-k7.ensures.rest,
      ← c.name-i.ensures.rest,
      ← c.mark-k9.ensures.rest,
      ← c.name-p.ensures.rest,
      ← c.end-e.ensures.rest,
    ) c.answer.ensures
