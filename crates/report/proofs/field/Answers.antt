-- `report::field` meets its contract: the number in decimal, and the mark after it. Assumes nothing.
use Rattle.pieces.proofs.Texts.{join}
use Rattle.report.specs.Fields.{field_text}
use Rattle.report.proofs.field.Goals as goal

pub returns : goal.returns
unfolding field_text
returns c = rw (c.put.ensures, c.number.ensures, join)
