-- `lexer::cursor::number` meets its contract: past the blanks the token's numeral tells none, one over the limit, or the value. Assumes nothing.
use Rattle.std.proofs.Common.{ℕ, ◌≡◌, ◌+◌, ◌<◌, refl, ap, sym, ◌∙◌, drop, length-drop, Some, None, arith}
use Rattle.std.proofs.lemmas.Option.{same_Some}
use borrow.Author.Tests.{not-true, not-false}
use Rattle.tokens.specs.Cursors.{number_c, seen}
use Rattle.tokens.proofs.Lengths.{token_le}
use Rattle.lexer.proofs.Laws.{blank_law, blank-within, end-within, after_law, far_law, far_within}
use Rattle.lexer.proofs.Numbers.{used_token, number-none, number_big, number_small}
use Rattle.lexer.proofs.cursor.number.Goals as goal
use Rattle.lexer.proofs.cursor.number.Goals.{in_default-value-via-in-Some-value+else-value-limit, in_default-value-via-in_default-value}

pub returns-then-not-k-clause-rest : goal.returns-then-not-k-clause-rest
unfolding number_c
returns-then-not-k-clause-rest c = rw (not-true c.args.k.ok c.if-not-k.true)

pub returns-in_default-clause-rest : goal.returns-in_default-clause-rest
unfolding number_c
returns-in_default-clause-rest c =
    let a = c.args in
    let i = c.blanks_end-i in
    rw (c.moved.ensures, not-false a.k.ok c.if-not-k.false, ← blank_law a.s.now a.k.at i.result i.ensures)
    (sym (number-none _ None c.in_default.ensures a.limit c.ranges.limit.fits (seen a.s.now a.k) refl))

pub returns-in_default-clause-within : goal.returns-in_default-clause-within
returns-in_default-clause-within c =
    let i = c.blanks_end-i in
    rw c.moved.ensures (λ w. (blank-within c.args.s.now c.args.k.at i.result i.ensures w.0, w.1))

pub overflow_add-e : goal.overflow_add-e
overflow_add-e c =
    let l = drop c.blanks_end-i.result c.args.s.now in
    omega (arith, used_token l _ c.in-Some.ensures c.in-Some.n refl, token_le l, length-drop c.blanks_end-i.result c.args.s.now)

pub returns-in-Some-value-clause-rest : goal.returns-in-Some-value-clause-rest
unfolding number_c
returns-in-Some-value-clause-rest c =
    let a = c.args in
    let i = c.blanks_end-i in
    let n = c.in-Some in
    let e = ap (λ (k : ℕ). i.result + k) (used_token (drop i.result a.s.now) _ n.ensures n.n refl) in
    rw (c.moved-in-Some-value.ensures, not-false a.k.ok c.if-not-k.false, ← blank_law a.s.now a.k.at i.result i.ensures)
    (sym (number_small _ _ n.ensures a.limit c.ranges.limit.fits (seen a.s.now a.k) n.n refl _ (after_law a.s.now i.result _ e) c.in-Some-value.value c.in-Some-value.is c.if-value-limit.true))

pub returns-in-Some-value-clause-within : goal.returns-in-Some-value-clause-within
returns-in-Some-value-clause-within c =
    let a = c.args in
    let i = c.blanks_end-i in
    let e = ap (λ (k : ℕ). i.result + k) (used_token (drop i.result a.s.now) _ c.in-Some.ensures c.in-Some.n refl) in
    rw c.moved-in-Some-value.ensures (λ w. (end-within a.s.now i.result _ e (blank-within a.s.now a.k.at i.result i.ensures w.0), w.1))

pub returns-in_default-value-clause-rest : goal.returns-in_default-value-clause-rest
unfolding number_c
returns-in_default-value-clause-rest c =
    let a = c.args in
    let i = c.blanks_end-i in
    let n = c.in-Some in
    let e = ap (λ (k : ℕ). i.result + k) (used_token (drop i.result a.s.now) _ n.ensures n.n refl) in
    let over : (v : ℕ) → n.n.value ≡ Some v → a.limit < v =
    elim c.in_default-value.branch [
      | in_default-value-via-in-Some-value+else-value-limit w ↦ λ v g. omega (arith, w.if-value-limit.false, same_Some _ _ (sym w.in-Some-value.is ∙ g))
      | in_default-value-via-in_default-value w ↦ λ v g. absurd (w.in_default-value.not-Some v g)
    ] in
    rw (c.past.ensures, far_law, not-false a.k.ok c.if-not-k.false, ← blank_law a.s.now a.k.at i.result i.ensures)
    (sym (number_big _ _ n.ensures a.limit c.ranges.limit.fits (seen a.s.now a.k) n.n refl _ (after_law a.s.now i.result _ e) over))

pub returns-in_default-value-clause-within : goal.returns-in_default-value-clause-within
returns-in_default-value-clause-within c =
    let a = c.args in
    let i = c.blanks_end-i in
    let e = ap (λ (k : ℕ). i.result + k) (used_token (drop i.result a.s.now) _ c.in-Some.ensures c.in-Some.n refl) in
    rw c.past.ensures
    (λ w. (end-within a.s.now i.result _ e (blank-within a.s.now a.k.at i.result i.ensures w.0), far_within _ a.k.over a.k.far i.result w.1 (blank-within a.s.now a.k.at i.result i.ensures w.0)))
