-- `cells::columns` meets its contract. The row's columns and N are small, so their product fits. Assumes nothing.
use mathlib.Core.Path.{ap}
use Rattle.cells.specs.declared.Row.{Row}
use Rattle.statement.specs.Cells.{cells, columns_for}
use Rattle.cells.proofs.Laws.{columns-le, product}
use Rattle.cells.proofs.columns.Goals as goal

pub overflow_mul-result : goal.overflow_mul-result
overflow_mul-result c =
    let a = c.args in
    record {
      fits = product (cells a.shape).columns _ _ a.num (columns-le a.shape) (ap (λ (t : Row). t.columns)
          c.row_of-c.ensures) c.times_of.ensures;
    }

pub returns : goal.returns
unfolding columns_for
returns c = rw (← (ap (λ (t : Row). t.columns) c.row_of-c.ensures), ← c.times_of.ensures)
