-- `lexer::number::run` meets its contract. The loop's invariant: the digits from here, after v, are the digits from the start, and end where these do; v is below 2^64. Assumes nothing.
use Rattle.std.proofs.Common.{◌+◌, ◌*◌, ◌^◌, ◌<◌, ◌≤◌, get_or, drop, length-drop, refl, sym, ap, ◌∙◌, arith}
use borrow.Author.Tests.{ltb-true, ltb-false}
use Rattle.tokens.specs.Numbers.{digit_of, among}
use Rattle.tokens.proofs.Runs.{run_le, run_step, run_stop}
use Rattle.lexer.specs.Runs.{notation_of}
use Rattle.lexer.proofs.Numbers.{row_base, no_digit, is_digit, count_digits, digit_no, digit_is, fit_small, fit_over, after_0, after_step, after_stop, after-past, after-over}
use Rattle.lexer.proofs.number.run.Goals as goal

pub loop-i-init : goal.loop-i-init
loop-i-init c = (omega arith, after_0 _ _, refl)

pub returns-then-base-digit-clause-value : goal.returns-then-base-digit-clause-value
returns-then-base-digit-clause-value c =
    let a = c.args in
    let l = c.loop-i in
    let g = no_digit a.b _ c.row-row.ensures _ _ c.digit_of-digit.ensures c.if-base-digit.true in
    fit_small l.v _ l.invariant.0 (sym (after_stop a.b a.s.now l.v l.i c.loop-i-test.true g) ∙ l.invariant.1)

pub returns-then-base-digit-clause-end : goal.returns-then-base-digit-clause-end
returns-then-base-digit-clause-end c =
    let a = c.args in
    let l = c.loop-i in
    let g = no_digit a.b _ c.row-row.ensures _ _ c.digit_of-digit.ensures c.if-base-digit.true in
    omega (arith, run_stop (among (notation_of a.b).digits) a.s.now l.i c.loop-i-test.true (digit_no a.b _ g), l.invariant.2)

pub overflow_add-end : goal.overflow_add-end
overflow_add-end c =
    let a = c.args in
    let n = count_digits a.b _ c.row-row.ensures a.s.now c.loop-i.i _ c.digit_count.ensures in
    omega (arith, n, run_le (among (notation_of a.b).digits) (drop c.loop-i.i a.s.now), length-drop c.loop-i.i a.s.now)

pub returns-then-not-has_room-clause-value : goal.returns-then-not-has_room-clause-value
returns-then-not-has_room-clause-value c =
    let a = c.args in
    let l = c.loop-i in
    let q = is_digit a.b _ c.row-row.ensures _ _ c.digit_of-digit.ensures c.if-base-digit.false in
    let d = c.from-d.ensures ∙ c.digit_of-digit.ensures in
    let o : 2 ^ 64 ≤ l.v * (notation_of a.b).base + digit_of (get_or a.s.now l.i 0) =
    ltb-false _ _ (rw d at (sym (c.has_room.ensures a.b c.row-row.ensures (rw d q)) ∙ c.if-not-has_room.true)) in
    fit_over _ (rw (← l.invariant.1) (after-over a.b a.s.now l.v l.i c.loop-i-test.true q o))

pub returns-then-not-has_room-clause-end : goal.returns-then-not-has_room-clause-end
returns-then-not-has_room-clause-end c =
    let a = c.args in
    let n = count_digits a.b _ c.row-row.ensures a.s.now c.loop-i.i _ c.digit_count.ensures in
    omega (arith, n, c.loop-i.invariant.2)

pub loop-i-preserved : goal.loop-i-preserved
loop-i-preserved c =
    let a = c.args in
    let l = c.loop-i in
    let h = c.loop-i-test.true in
    let q = is_digit a.b _ c.row-row.ensures _ _ c.digit_of-digit.ensures c.if-base-digit.false in
    let d = c.from-d.ensures ∙ c.digit_of-digit.ensures in
    let r : l.v * (notation_of a.b).base + digit_of (get_or a.s.now l.i 0) < 2 ^ 64 =
    ltb-true _ _ (rw d at (sym (c.has_room.ensures a.b c.row-row.ensures (rw d q)) ∙ c.if-not-has_room.false)) in
    let t = c.from-times.ensures ∙ ap (λ r. r.base) c.row-row.ensures ∙ row_base a.b in
    rw (t, d) (
      r,
      sym (after_step a.b a.s.now l.v l.i h q) ∙ l.invariant.1,
      omega (arith, run_step (among (notation_of a.b).digits) a.s.now l.i h (digit_is a.b _ q), l.invariant.2),
    )

pub returns-clause-value : goal.returns-clause-value
returns-clause-value c =
    let a = c.args in
    let l = c.loop-i in
    fit_small l.v _ l.invariant.0 (sym (after-past a.b a.s.now l.v l.i c.loop-i-test.false) ∙ l.invariant.1)
