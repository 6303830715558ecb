-- `reader::operand::names` meets its contract. The loop's invariant: the names read and stored so far, with those that are left from here, are those
-- from the start. Assumes nothing.
use Prim.Native.Nat.{◌+◌, ◌-◌}
use native.Mathlib.Omega.{arith}
use mathlib.Core.Path.{◌≡◌, ◌∙◌}
use borrow.Author.Tests.{not-true, not-false}
use Rattle.tokens.specs.Text.{byte}
use Rattle.tokens.specs.Cursors.{seen, mark_c}
use Rattle.statement.specs.Reading.{more_c, names_c}
use Rattle.reader.proofs.Laws.{stored_more, more_took, more_done, more_full, stored-end}
use Rattle.reader.proofs.operand.names.Goals as goal

pub returns-then-not-d : goal.returns-then-not-d
unfolding names_c
returns-then-not-d g c =
    let s = c.args.s.now in
    let n = c.name-n in
    let l = c.loop-count in
    let d = c.mark-d in
    let all = stored-end l.names c.args.names.now l.count (mark_c (byte "}") (seen s l.at)) n.result.value (more_c 127 (seen s n.result.next))
    (rw (more_done s l.at d.result _ d.ensures.rest (not-true _ c.if-not-d.true), c.keep.ensures) at l.invariant) in
    rw (← c.mark-a.ensures.rest, ← n.ensures.rest) (record { read = rw c.mark.ensures.rest all.0; stored = all.1 })

pub loop-count-preserved : goal.loop-count-preserved
loop-count-preserved g c =
    let s = c.args.s.now in
    let l = c.loop-count in
    let d = c.mark-d in
    let m = c.name-m in
    rw c.keep-in-loop-count.ensures (stored_more l.names l.count m.result.value (more_c (128 - (l.count + 1)) (seen s m.result.next)))
    ∙ (rw (more_took s l.at d.result m.result l.count c.loop-count-test.true d.ensures.rest m.ensures.rest (not-false _ c.if-not-d.false)) at l.invariant)

pub returns : goal.returns
unfolding names_c
returns g c =
    let s = c.args.s.now in
    let n = c.name-n in
    let l = c.loop-count in
    let all = stored-end l.names c.args.names.now l.count (mark_c (byte "}") (seen s l.at)) n.result.value (more_c 127 (seen s n.result.next))
    (rw (more_full (seen s l.at) l.count c.loop-count-test.false, c.keep.ensures) at l.invariant) in
    let full : l.count ≡ 128 = omega arith in
    rw (← c.mark-a.ensures.rest, ← n.ensures.rest) (record { read = rw c.mark-2.ensures.rest (rw full at all.0); stored = all.1 })
