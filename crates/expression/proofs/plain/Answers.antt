-- `expression::plain` meets its contract: a number up to 2^63 - 1, where no number was too large yet. Assumes nothing.
use Rattle.expression.specs.Expressions.{plain_c}
use Rattle.expression.proofs.plain.Goals as goal

pub returns : goal.returns
unfolding plain_c
returns c = rw (← c.cursor_at-k.ensures, ← c.number-n.ensures.rest)
