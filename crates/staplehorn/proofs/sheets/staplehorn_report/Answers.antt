-- `staplehorn::sheets::staplehorn_report` meets its contract: the answer is taken apart. Assumes nothing.
use mathlib.Core.Path.{ap}
use Rattle.printed.specs.declared.Printed.{Printed}
use Rattle.staplehorn.proofs.sheets.staplehorn_report.Goals as goal

pub returns : goal.returns
returns c =
    let p = c.print-p.ensures in
    (record { reason = ap (λ (x : Printed). x.reason) p.answer; size = ap (λ (x : Printed). x.length) p.answer; room = p.places; run = p.run })
