-- `writer::form::access_word` meets its contract: four additions are one. Assumes nothing.
use Rattle.statement.specs.Forms.{shape_text, num_text}
use Rattle.writer.proofs.Rows.{access_law}
use Rattle.writer.proofs.form.access_word.Goals as goal

pub returns : goal.returns
returns c =
    let a = c.args in
    rw (c.put-4.ensures, c.put-3.ensures, c.put-2.ensures, c.put.ensures, c.shape.ensures, c.num.ensures) (access_law a.start.now (shape_text a.shape) (num_text a.num) a.t.now)
