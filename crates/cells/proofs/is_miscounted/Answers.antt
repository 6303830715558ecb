-- `cells::is_miscounted` meets its contract. Its tests are the definition's, by the callees' contracts. Assumes nothing.
use mathlib.Core.Path.{ap}
use Rattle.cells.specs.declared.Row.{Row}
use Rattle.statement.specs.Cells.{miscounted}
use Rattle.cells.proofs.is_miscounted.Goals as goal

pub returns : goal.returns
unfolding miscounted
returns c =
    rw (
      ← ap (λ (t : Row). t.largest) c.row_of-c.ensures,
      ← c.times_of.ensures,
      ←
          c.registers.ensures,
    )
