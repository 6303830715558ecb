-- `canonical::judge_text` meets its contract. A place within a slice, or at its end, has room for one more. Assumes nothing.
use native.Mathlib.Omega.{arith}
use Rattle.canonical.proofs.Refusals.{stopped}
use Rattle.canonical.proofs.judge_text.Goals as goal

pub overflow_add-column : goal.overflow_add-column
overflow_add-column c = omega (arith, stopped _ _ _ c.in-Err.is c.read.ensures, c.place-column.ensures)
