-- `lexer::number::numeral` meets its contract: a token goes by the row of the table that its first two bytes tell, and 0 alone is 0. Assumes nothing.
use mathlib.Core.Path.{sym, ◌∙◌}
use Rattle.lexer.proofs.Numbers.{numeral_past, numeral_decimal, numeral_hexadecimal, numeral_zero, numeral_binary, numeral_octal}
use Rattle.lexer.proofs.number.numeral.Goals as goal

pub returns-then-s-at : goal.returns-then-s-at
returns-then-s-at c = numeral_past c.args.s.now c.args.at c.if-s-at.true

pub spelled-requires : goal.spelled-requires
spelled-requires c = c.if-s-at.false

pub returns-then-s-at-ne48 : goal.returns-then-s-at-ne48
returns-then-s-at-ne48 c = let a = c.args in c.spelled.ensures ∙ numeral_decimal a.s.now a.at c.if-s-at.false c.if-s-at-ne48.true

pub spelled-requires-then-either_at : goal.spelled-requires-then-either_at
spelled-requires-then-either_at c = c.if-s-at.false

pub returns-then-either_at : goal.returns-then-either_at
returns-then-either_at c =
    let a = c.args in
    c.spelled-then-either_at.ensures ∙ numeral_hexadecimal a.s.now a.at c.if-s-at.false c.if-s-at-ne48.false (sym c.either_at.ensures ∙ c.if-either_at.true)

pub returns-then-not-word_at : goal.returns-then-not-word_at
returns-then-not-word_at c =
    let a = c.args in
    numeral_zero a.s.now a.at c.if-s-at.false c.if-s-at-ne48.false (sym c.word_at.ensures ∙ c.if-not-word_at.true)

pub spelled-requires-then-either_at-2 : goal.spelled-requires-then-either_at-2
spelled-requires-then-either_at-2 c = c.if-s-at.false

pub returns-then-either_at-2 : goal.returns-then-either_at-2
returns-then-either_at-2 c =
    let a = c.args in
    let no = sym c.either_at.ensures ∙ c.if-either_at.false in
    c.spelled-then-either_at-2.ensures ∙ numeral_binary a.s.now a.at c.if-s-at.false c.if-s-at-ne48.false no (sym c.either_at-2.ensures ∙ c.if-either_at-2.true)

pub spelled-requires-2 : goal.spelled-requires-2
spelled-requires-2 c = c.if-s-at.false

pub returns : goal.returns
returns c =
    let a = c.args in
    let no = sym c.either_at.ensures ∙ c.if-either_at.false in
    c.spelled-2.ensures ∙ numeral_octal a.s.now a.at c.if-s-at.false c.if-s-at-ne48.false no (sym c.either_at-2.ensures ∙ c.if-either_at-2.false)
