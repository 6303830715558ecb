-- `writer::form::mma_word` meets its contract: six additions are one. Assumes nothing.
use Rattle.tokens.specs.Text.{bytes}
use Rattle.statement.specs.Forms.{word, option, kind_text}
use Rattle.writer.proofs.Rows.{mma_law}
use Rattle.writer.proofs.form.mma_word.Goals as goal

pub returns : goal.returns
unfolding word
returns c =
    let a = c.args in
    rw (c.put-6.ensures, c.put-5.ensures, c.put-4.ensures, c.put-3.ensures, c.put-2.ensures, c.put.ensures, c.option.ensures, c.option-2.ensures, c.kind.ensures)
    (mma_law (bytes "tcgen05.mma") (option a.ws (bytes ".ws")) (option a.sp (bytes ".sp")) (bytes ".cta_group::1.kind::") (kind_text a.kind) a.t.now)
