-- `opcode::starts` meets its contract. The loop's invariant: what was compared so far, with what is left of both, is the comparison from the start. Assumes nothing.
use Rattle.std.proofs.Common.{◌≡◌, ◌≤◌, None, cond, length, drop}
use Rattle.opcode.specs.Pieces.{without}
use Rattle.opcode.proofs.starts.Given as goal

abbrev pub invariant-loop-i : goal.invariant-loop-i
invariant-loop-i l = (l.i ≤ length l.p) × (cond l.same (without (drop l.i l.p) (drop l.i l.w)) None ≡ without l.p l.w)
