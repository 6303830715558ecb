-- `lines::past_blocks` meets its contract: 16 bytes of a statement are the start of the run, which goes on after them. Assumes nothing.
use Rattle.std.proofs.Common.{◌≡◌, ◌+◌, ◌≤◌, length}
use Rattle.tokens.specs.Bytes.{run_len}
use Rattle.lines.specs.Sheet.{plain}
use Rattle.lines.proofs.past_blocks.Given as goal

-- the run of what is left ends where the run of all does
abbrev pub invariant-loop-block : goal.invariant-loop-block
invariant-loop-block l = (length l.rest ≤ length l.s) × (length l.rest + run_len plain l.s ≡ length l.s + run_len plain l.rest)

-- the bytes left
abbrev pub decreases-loop-block : goal.decreases-loop-block
decreases-loop-block l = length l.rest
