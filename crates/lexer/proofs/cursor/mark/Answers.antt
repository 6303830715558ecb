-- `lexer::cursor::mark` meets its contract: past the blanks stands the byte, or another, or nothing. Assumes nothing.
use Rattle.std.proofs.Common.{add-one, drop-cons}
use borrow.Author.Tests.{not-true, not-false, eq-eqb, ne_eqb}
use lib.ListN.{drop_of_length-le}
use Rattle.tokens.specs.Cursors.{mark_c}
use Rattle.lexer.proofs.Laws.{blank_law, blank-within}
use Rattle.lexer.proofs.cursor.mark.Goals as goal
use Rattle.lexer.proofs.cursor.mark.Goals.{else-i-s-via-then-i-s+else-s-i, else-i-s-via-else-i-s}

pub returns-then-not-k-clause-rest : goal.returns-then-not-k-clause-rest
unfolding mark_c
returns-then-not-k-clause-rest c = rw (not-true c.args.k.ok c.if-not-k.true)

pub returns-then-s-i-clause-rest : goal.returns-then-s-i-clause-rest
unfolding mark_c
returns-then-s-i-clause-rest c =
    let a = c.args in
    let i = c.blanks_end-i in
    rw (
      c.moved.ensures,
      not-false a.k.ok c.if-not-k.false,
      ← blank_law a.s.now a.k.at i.result i.ensures,
      add-one,
      drop-cons a.s.now i.result 0 c.if-i-s.true,
      eq-eqb _ _ c.if-s-i.true,
    )

pub returns-clause-rest : goal.returns-clause-rest
unfolding mark_c
returns-clause-rest c =
    let a = c.args in
    let i = c.blanks_end-i in
    rw (c.moved-2.ensures, not-false a.k.ok c.if-not-k.false, ← blank_law a.s.now a.k.at i.result i.ensures)
    (elim c.else-i-s.branch [
      | else-i-s-via-then-i-s+else-s-i w ↦ rw (drop-cons a.s.now i.result 0 w.if-i-s.true, ne_eqb _ _ w.if-s-i.false)
      | else-i-s-via-else-i-s w ↦ rw (drop_of_length-le a.s.now w.if-i-s.false)
    ])

pub returns-clause-within : goal.returns-clause-within
returns-clause-within c =
    let i = c.blanks_end-i in
    rw c.moved-2.ensures (λ w. (blank-within c.args.s.now c.args.k.at i.result i.ensures w.0, w.1))
