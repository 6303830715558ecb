-- `cells::lanes` meets its contract. It is a field of the row. Assumes nothing.
use mathlib.Core.Path.{ap}
use Rattle.cells.specs.declared.Row.{Row}
use Rattle.statement.specs.Cells.{lanes_for}
use Rattle.cells.proofs.lanes.Goals as goal

pub returns : goal.returns
unfolding lanes_for
returns c = ap (λ (t : Row). t.lanes) c.row_of-c.ensures
