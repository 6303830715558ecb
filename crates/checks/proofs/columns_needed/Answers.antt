-- `checks::columns_needed` meets its contract: the columns of an access fit. Assumes nothing.
use native.Mathlib.Omega.{arith}
use Rattle.cells.proofs.Laws.{columns_few}
use Rattle.checks.proofs.columns_needed.Goals as goal

pub overflow_cast-result : goal.overflow_cast-result
overflow_cast-result c = omega (arith, c.columns.ensures, columns_few c.args.shape c.args.num)
