-- `writer::form::name_number` meets its contract: five additions are one. Assumes nothing.
use Rattle.pieces.proofs.Texts.{join}
use Rattle.writer.proofs.form.name_number.Goals as goal

pub returns : goal.returns
returns c = rw (c.put-3.ensures, c.number.ensures, c.put-2.ensures, c.name.ensures, c.put.ensures, join, join, join, join)
