-- `places::column_at` meets its contract: what is dropped has the length less the position, or none. Assumes nothing.
use lib.ListN.{length-drop}
use native.Mathlib.Omega.{arith}
use Rattle.places.proofs.column_at.Goals as goal

pub returns-then-at-s : goal.returns-then-at-s
returns-then-at-s c = omega (arith, length-drop c.args.at c.args.s.now)

pub returns-else-at-s : goal.returns-else-at-s
returns-else-at-s c = omega (arith, length-drop c.args.at c.args.s.now)
