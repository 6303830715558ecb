-- `lexer::number::spelled` meets its contract: digits from the end of the prefix on, enough of them, and after them a U or none, and no word byte. Assumes nothing.
use Prim.Native.Nat.{◌+◌}
use mathlib.Core.Path.{sym, ap, ◌∙◌}
use lib.ListN.{length-drop, drop}
use native.Mathlib.Omega.{arith}
use borrow.Author.Tests.{lt-leb, le-leb}
use Rattle.tokens.specs.Numbers.{among}
use Rattle.tokens.proofs.Runs.{run_le}
use Rattle.lexer.specs.Runs.{notation_of}
use Rattle.lexer.proofs.Numbers.{row_prefix, row_fewest, prefix_le, suffix_le, spelled_few, spelled_more, spelled_is}
use Rattle.lexer.proofs.number.spelled.Goals as goal

pub overflow_add-first : goal.overflow_add-first
overflow_add-first c = omega (arith, ap (λ r. r.prefix) c.row-row.ensures, row_prefix c.args.b, prefix_le c.args.b)

pub overflow_sub-last : goal.overflow_sub-last
overflow_sub-last c = omega (arith, c.run-d.ensures.end)

pub returns-then-last-first : goal.returns-then-last-first
returns-then-last-first c =
    let a = c.args in
    let e = c.row-row.ensures in
    let d = c.run-d in
    rw (← ap (λ r. r.prefix) e ∙ row_prefix a.b)
    (spelled_few a.b a.s.now _ d.result.end d.ensures.end (lt-leb _ _ (rw (ap (λ r. r.fewest) e ∙ row_fewest a.b) at c.if-last-first.true)))

pub overflow_add-end : goal.overflow_add-end
overflow_add-end c =
    let a = c.args in
    let d = c.run-d in
    let first = a.at + c.row-row.result.prefix in
    omega (arith, d.ensures.end, ap (λ r. r.prefix) c.row-row.ensures, row_prefix a.b, prefix_le a.b, c.suffix_of.ensures, suffix_le (drop d.result.end a.s.now), run_le (among (notation_of a.b).digits) (drop first a.s.now), length-drop first a.s.now)

pub returns-then-word_at : goal.returns-then-word_at
returns-then-word_at c =
    let a = c.args in
    let d = c.run-d in
    rw (← ap (λ r. r.prefix) c.row-row.ensures ∙ row_prefix a.b)
    (spelled_more a.b a.s.now _ d.result.end d.ensures.end (rw c.suffix_of.ensures at (sym c.word_at.ensures ∙ c.if-word_at.true)))

pub overflow_sub-used : goal.overflow_sub-used
overflow_sub-used c = omega (arith, c.run-d.ensures.end)

pub returns : goal.returns
returns c =
    let a = c.args in
    let e = c.row-row.ensures in
    let d = c.run-d in
    let t = c.suffix_of in
    let p = ap (λ r. r.prefix) e ∙ row_prefix a.b in
    rw (← p)
    (spelled_is a.b a.s.now (a.at + c.row-row.result.prefix) d.result.end d.ensures.end _ d.result.value
    (le-leb _ _ (rw (ap (λ r. r.fewest) e ∙ row_fewest a.b) at c.if-last-first.false))
    (rw t.ensures at (sym c.word_at.ensures ∙ c.if-word_at.false)) (omega (arith, t.ensures, p, d.ensures.end)) d.ensures.value)
