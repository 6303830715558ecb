-- `reader::operand::plain32` meets its contract. A number that was read is at most 2^32 - 1, so that the cast keeps it. Assumes nothing.
use Prim.Native.Nat.{ℕ}
use native.Mathlib.Omega.{arith}
use mathlib.Core.Path.{ap}
use Rattle.tokens.specs.Cursors.{seen, Took}
use Rattle.statement.specs.Forms.{max32}
use Rattle.reader.proofs.Laws.{number_under}
use Rattle.reader.proofs.operand.plain32.Goals as goal

pub overflow_cast-result : goal.overflow_cast-result
overflow_cast-result c =
    let a = c.args in
    omega (arith, number_under max32 (seen a.s.now a.k), ap (λ (t : Took ℕ). t.value) c.number-n.ensures.rest)
