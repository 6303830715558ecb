-- `checks::closed_reason` meets its contract: reason 5's test decides. Assumes nothing.
use Rattle.rules.specs.Reasons.{closed_rows, closed_rules}
use Rattle.checks.proofs.closed_reason.Goals as goal

pub returns-then-is_counted : goal.returns-then-is_counted
unfolding closed_rules closed_rows
returns-then-is_counted c = rw (← c.is_counted.ensures, c.if-is_counted.true)

pub returns-else-is_counted : goal.returns-else-is_counted
unfolding closed_rules closed_rows
returns-else-is_counted c = rw (← c.is_counted.ensures, c.if-is_counted.false)
