-- `lexer::bytes::blanks_end` meets its contract. The loop's invariant: what is left of the run from here ends where the run from the start does. Assumes nothing.
use mathlib.Core.Path.{refl}
use native.Mathlib.Omega.{arith}
use Rattle.tokens.specs.Bytes.{blank}
use Rattle.tokens.proofs.Runs.{run_step, run_stop, run_past}
use Rattle.lexer.proofs.Laws.{blank_no, blank-is}
use Rattle.lexer.proofs.bytes.blanks_end.Goals as goal

pub loop-i-init : goal.loop-i-init
loop-i-init c = refl

pub returns-then-s-i-ne32 : goal.returns-then-s-i-ne32
returns-then-s-i-ne32 c = omega (arith, run_stop blank c.args.s.now c.loop-i.i c.loop-i-test.true (blank_no _ c.if-s-i-ne32.true))

pub loop-i-preserved : goal.loop-i-preserved
loop-i-preserved c = omega (arith, run_step blank c.args.s.now c.loop-i.i c.loop-i-test.true (blank-is _ c.if-s-i-ne32.false))

pub returns : goal.returns
returns c = omega (arith, run_past blank c.args.s.now c.loop-i.i c.loop-i-test.false)
