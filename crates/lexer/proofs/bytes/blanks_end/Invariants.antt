-- `lexer::bytes::blanks_end` meets its contract. The loop's invariant: what is left of the run from here ends where the run from the start does. Assumes nothing.
use Prim.Native.Nat.{◌+◌, ◌-◌}
use mathlib.Core.Path.{◌≡◌}
use lib.ListN.{length, drop}
use Rattle.tokens.specs.Bytes.{run_len, blank}
use Rattle.lexer.proofs.bytes.blanks_end.Given as goal

abbrev pub invariant-loop-i : goal.invariant-loop-i
invariant-loop-i l = (l.i + run_len blank (drop l.i l.s) ≡ l.at + run_len blank (drop l.at l.s))

abbrev pub decreases-loop-i : goal.decreases-loop-i
decreases-loop-i l = length l.s - l.i
