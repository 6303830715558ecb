-- `expression::goes_on` meets its contract: past the blanks there is nothing, or a byte. Assumes nothing.
use lib.ListN.{drop_of_length-le}
use lib.Seq.{drop-cons}
use Rattle.lexer.proofs.Laws.{blank_law}
use Rattle.expression.specs.Expressions.{goes_on}
use Rattle.expression.proofs.goes_on.Goals as goal

pub returns-then-s-i : goal.returns-then-s-i
unfolding goes_on
returns-then-s-i c = let a = c.args in
    let i = c.blanks_end-i in
    rw (← blank_law a.s.now a.at i.result i.ensures, drop_of_length-le a.s.now c.if-s-i.true)

pub returns : goal.returns
unfolding goes_on
returns c = let a = c.args in
    let i = c.blanks_end-i in
    rw (← blank_law a.s.now a.at i.result i.ensures, drop-cons a.s.now i.result 0 c.if-s-i.false)
