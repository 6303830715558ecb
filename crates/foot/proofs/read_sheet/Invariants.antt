-- The sheet keeps its length, and what came is inside of it; each turn leaves less to come.
use Rattle.std.proofs.Common.{◌≡◌, ◌-◌, ◌≤◌, length}
use Rattle.foot.proofs.read_sheet.Given as goal

abbrev pub invariant-loop-n : goal.invariant-loop-n
invariant-loop-n l = (length l.sheet ≡ 65537) × (l.length ≤ 65536)

abbrev pub decreases-loop-n : goal.decreases-loop-n
decreases-loop-n l = 65538 - l.length
