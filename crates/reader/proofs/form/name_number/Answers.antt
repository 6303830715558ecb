-- `reader::form::name_number` meets its contract. Each operand's contract, from the first on, is the row's; a number with the end behind it is alone, and what was read is in range.
-- Assumes nothing.
use Prim.Native.Nat.{ℕ}
use native.Mathlib.Omega.{arith}
use mathlib.Core.Path.{ap}
use Rattle.tokens.specs.Cursors.{seen, Took}
use Rattle.reader.proofs.Laws.{quantity_under, number-ended, pair_row}
use Rattle.reader.proofs.form.name_number.Goals as goal

pub returns-then-done : goal.returns-then-done
returns-then-done c =
    let a = c.args in
    let m = c.mark-k2 in
    let v = number-ended a.limit (seen a.s.now m.result) _ _ c.number-p.ensures.rest c.end-done.ensures.rest c.if-done.true in (record { read = pair_row a.bracketed a.limit (seen a.s.now a.k) (seen a.s.now m.result) _ _ _ c.named-n.ensures m.ensures.rest v c.end-done.ensures.rest; under = omega (arith, quantity_under a.limit (seen a.s.now m.result), ap (λ (t : Took ℕ). t.value) v) })

pub returns : goal.returns
returns c =
    let a = c.args in
    let m = c.mark-k2 in
    let v = c.quantity-v.ensures in (record { read = pair_row a.bracketed a.limit (seen a.s.now a.k) (seen a.s.now m.result) _ _ _ c.named-n.ensures m.ensures.rest v c.end-next.ensures.rest; under = omega (arith, quantity_under a.limit (seen a.s.now m.result), ap (λ (t : Took ℕ). t.value) v) })
