-- `lines::count_lfs` meets its contract: what is counted so far and the LFs that are left are together the LFs of all. Assumes nothing.
use Rattle.std.proofs.Common.{◌≡◌, ◌+◌, ◌≤◌, length}
use Rattle.lines.specs.Sheet.{lfs}
use Rattle.lines.proofs.count_lfs.Given as goal

-- the count is at most the bytes looked at, and it and the LFs that are left are those of all
abbrev pub invariant-loop-block : goal.invariant-loop-block
invariant-loop-block l = (l.n + length l.rest ≤ length l.s) × (l.n + lfs l.rest ≡ lfs l.s)

-- the bytes left
abbrev pub decreases-loop-block : goal.decreases-loop-block
decreases-loop-block l = length l.rest
