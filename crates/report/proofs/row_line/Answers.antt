-- `report::row_line` meets its contract: the name, a tab and two fields put one after another are the row, and there is room for them. Assumes nothing.
use Rattle.report.proofs.ReportLaws.{row_whole}
use Rattle.report.proofs.row_line.Goals as goal

pub returns : goal.returns
returns c =
    let a = c.args in
    rw (c.field-2.ensures, c.field.ensures, c.put.ensures, c.name.ensures, c.new-line.ensures) (row_whole a.alloc a.start a.columns)
