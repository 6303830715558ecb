-- `lexer::cursor::name` meets its contract: past the blanks stands what the token there is as a name. Assumes nothing.
use Rattle.std.proofs.Common.{drop}
use borrow.Author.Tests.{not-true, not-false}
use Rattle.tokens.specs.Cursors.{name_c, seen}
use Rattle.lexer.proofs.Laws.{blank_law, blank-within, end-within}
use Rattle.lexer.proofs.Names.{name_is, name_none}
use Rattle.lexer.proofs.cursor.name.Goals as goal

pub returns-then-not-k-clause-rest : goal.returns-then-not-k-clause-rest
unfolding name_c
returns-then-not-k-clause-rest c = rw (not-true c.args.k.ok c.if-not-k.true)

pub returns-in-Some-clause-rest : goal.returns-in-Some-clause-rest
unfolding name_c
returns-in-Some-clause-rest c =
    let a = c.args in
    let i = c.blanks_end-i in
    rw (c.moved.ensures, not-false a.k.ok c.if-not-k.false, ← blank_law a.s.now a.k.at i.result i.ensures)
    (name_is (seen a.s.now a.k) (drop i.result a.s.now) _ _ c.in-Some.ensures.value)

pub returns-in-Some-clause-within : goal.returns-in-Some-clause-within
returns-in-Some-clause-within c =
    let i = c.blanks_end-i in
    rw c.moved.ensures (λ w. (end-within c.args.s.now i.result _ c.in-Some.ensures.end (blank-within c.args.s.now c.args.k.at i.result i.ensures w.0), w.1))

pub returns-in-None-clause-rest : goal.returns-in-None-clause-rest
unfolding name_c
returns-in-None-clause-rest c =
    let a = c.args in
    let i = c.blanks_end-i in
    rw (c.moved-in-None.ensures, not-false a.k.ok c.if-not-k.false, ← blank_law a.s.now a.k.at i.result i.ensures)
    (name_none (seen a.s.now a.k) (drop i.result a.s.now) c.in-None.ensures.value)

pub returns-in-None-clause-within : goal.returns-in-None-clause-within
returns-in-None-clause-within c =
    let i = c.blanks_end-i in
    rw c.moved-in-None.ensures (λ w. (blank-within c.args.s.now c.args.k.at i.result i.ensures w.0, w.1))
