-- `expression::mark` meets its contract: past a mark no number was too large either. Assumes nothing.
use mathlib.Core.Path.{◌∙◌, ap}
use Rattle.tokens.specs.Cursors.{Rest, mark_c}
use Rattle.expression.specs.Expressions.{clean, reached}
use Rattle.expression.proofs.Laws.{mark-clean}
use Rattle.expression.proofs.mark.Goals as goal

pub returns : goal.returns
returns c = let a = c.args in
    ap clean c.mark.ensures.rest
    ∙ ap (λ (r : Rest). clean (mark_c a.m r)) c.cursor_at-k.ensures
    ∙ mark-clean a.m (reached a.s.now a.at a.ok)
