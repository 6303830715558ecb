-- `opcode::starts` meets its contract. The loop's invariant: what was compared so far, with what is left of both, is the comparison from the start. Assumes nothing.
use Rattle.std.proofs.Common.{◌≡◌, Option, List, ℕ, Bool, true, false, ◌&&◌, None, cond, refl, ◌∙◌}
use native.Mathlib.Omega.{arith}
use Rattle.opcode.proofs.Laws.{without_step, without_end}
use Rattle.opcode.proofs.starts.Goals as goal

both : (a b : Bool) (o : Option (List ℕ)) → cond (a && b) o None ≡ cond a (cond b o None) None
both true b o = refl
both false b o = refl

pub loop-i-init : goal.loop-i-init
loop-i-init c = (omega arith, refl)

pub loop-i-preserved : goal.loop-i-preserved
loop-i-preserved c =
    let a = c.args in
    let l = c.loop-i in
    (omega arith, both l.same _ _ ∙ rw (← without_step a.p.now a.w.now l.i c.loop-i-test.true (omega (arith, c.loop-i-test.true))) l.invariant.1)

pub returns : goal.returns
returns c = without_end c.args.p.now c.args.w.now c.loop-i.i c.loop-i.same _ c.loop-i.invariant.0 c.loop-i-test.false c.loop-i.invariant.1
