-- `printed::rows` meets its contract. After some lines their rows are put (Upto); each line is laid out, since the sheet passed, and an alloc's row
-- has room, since all rows do. Assumes nothing.
use Prim.Native.Nat.{◌-◌}
use lib.ListN.{length}
use Rattle.printed.proofs.RowLaws.{Upto}
use Rattle.printed.proofs.rows.Given as goal

-- the rows of the lines before `at` are put
abbrev pub invariant-loop-line : goal.invariant-loop-line
invariant-loop-line l = Upto l.sheet l.starts l.initial.room l.from l.at l.next l.k l.room

-- the bytes that are left
abbrev pub decreases-loop-line : goal.decreases-loop-line
decreases-loop-line l = length l.sheet - l.at
