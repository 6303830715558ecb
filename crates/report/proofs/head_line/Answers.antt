-- `report::head_line` meets its contract: the five fields put one after another are the first line, and there is room for them. Assumes nothing.
use Rattle.report.proofs.ReportLaws.{head_whole}
use Rattle.report.proofs.head_line.Goals as goal

pub returns : goal.returns
returns c =
    let f = c.args.f in
    rw (c.field-5.ensures, c.field-4.ensures, c.field-3.ensures, c.field-2.ensures, c.field.ensures, c.new-line.ensures) (head_whole f.reason f.line f.column f.held f.peak)
