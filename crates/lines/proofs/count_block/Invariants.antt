-- `lines::count_block` meets its contract: what is counted so far and the LFs that are left are together the LFs of all. Assumes nothing.
use Rattle.std.proofs.Common.{◌≡◌, ◌+◌, ◌≤◌, drop}
use Rattle.lines.specs.Sheet.{lfs}
use Rattle.lines.proofs.count_block.Given as goal

-- the count is at most the bytes looked at, and it and the LFs that are left are those of all
abbrev pub invariant-loop-x : goal.invariant-loop-x
invariant-loop-x l = (l.n ≤ l.x-index) × (l.n + lfs (drop l.x-index l.block) ≡ lfs l.block)
