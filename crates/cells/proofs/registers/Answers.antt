-- `cells::registers` meets its contract. The row's registers and N are small, so their product fits. Assumes nothing.
use mathlib.Core.Path.{ap}
use Rattle.cells.specs.declared.Row.{Row}
use Rattle.statement.specs.Cells.{cells, registers_for}
use Rattle.cells.proofs.Laws.{registers_le, product}
use Rattle.cells.proofs.registers.Goals as goal

pub overflow_mul-result : goal.overflow_mul-result
overflow_mul-result c =
    let a = c.args in
    record {
      fits = product (cells a.shape).registers _ _ a.num (registers_le a.shape) (ap (λ (t : Row). t.registers)
          c.row_of-c.ensures) c.times_of.ensures;
    }

pub returns : goal.returns
unfolding registers_for
returns c = rw (← (ap (λ (t : Row). t.registers) c.row_of-c.ensures), ← c.times_of.ensures)
