-- `pieces::digits` meets its contract: each turn puts the last digit of what is left before the others, and what is left is short enough for the
-- places before it. Assumes nothing.
use native.Mathlib.Omega.{arith}
use mathlib.Core.Path.{refl, sym, ◌∙◌}
use lib.ListN.{length-set}
use lib.Seq.{take-set-le}
use Rattle.pieces.proofs.DigitLaws.{digits_start, q10, r10, less10, digit_step, digit_end, kept_step, power_step}
use Rattle.pieces.proofs.digits.Goals as goal

pub loop-w-init : goal.loop-w-init
loop-w-init c = (omega arith, simp length-set c.requires, omega arith, digits_start c.args.out.now c.args.v c.requires c.ranges.v.fits, refl)

pub overflow_sub-i : goal.overflow_sub-i
overflow_sub-i c = (power_step 10 c.loop-w.i c.loop-w.w q10 less10 c.loop-w-test.true c.loop-w.invariant.2).0

pub loop-w-smaller : goal.loop-w-smaller
loop-w-smaller c = omega (arith, (power_step 10 c.loop-w.i c.loop-w.w q10 less10 c.loop-w-test.true c.loop-w.invariant.2).0)

pub loop-w-preserved : goal.loop-w-preserved
loop-w-preserved c =
    let l = c.loop-w in
    let p = power_step 10 l.i l.w q10 less10 c.loop-w-test.true l.invariant.2 in
    (omega arith, simp length-set l.invariant.1, p.1, digit_step q10 r10 l.out l.i l.w p.0 (omega arith) c.loop-w-test.true ∙ l.invariant.3, kept_step l.out _ l.i _ l.invariant.4)

pub returns : goal.returns
returns c =
    let l = c.loop-w in
    (omega arith, l.invariant.1, sym (digit_end q10 r10 l.out l.i l.w c.loop-w-test.false) ∙ l.invariant.3, l.invariant.4 ∙ take-set-le l.i c.args.out.now 19 _ l.invariant.0)
