-- `expression::expression` meets its contract: it starts past the blanks. Assumes nothing.
use mathlib.Core.Path.{◌∙◌, ap}
use mathlib.Core.List.{List}
use Prim.Native.Nat.{ℕ}
use Rattle.tokens.specs.Cursors.{seen}
use Rattle.lexer.proofs.Laws.{blank_law}
use Rattle.expression.specs.Expressions.{settled, expression_c, amount_seen}
use Rattle.expression.proofs.expression.Goals as goal

pub returns : goal.returns
unfolding expression_c
returns c = let a = c.args in
    let r = seen a.s.now a.k in
    c.settle.ensures
    ∙ ap (λ (l : List ℕ). settled a.limit r l (amount_seen a.s.now c.expr-e.result)) (blank_law a.s.now a.k.at c.blanks_end-i.result c.blanks_end-i.ensures)
    ∙ ap (settled a.limit r _) c.expr-e.ensures
