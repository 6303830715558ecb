-- `places::name_from` meets its contract: a bracket stands at the head, another byte, or none. Assumes nothing.
use Rattle.std.proofs.Common.{◌∙◌}
use Rattle.statement.specs.Positions.{name_from}
use Rattle.places.proofs.Laws.{bracket_open, bracket_other, bracket_none}
use Rattle.places.proofs.name_from.Goals as goal

pub returns-in_default : goal.returns-in_default
unfolding name_from
returns-in_default c = rw (← c.operand_from-rest.ensures) (bracket_none _ c.in_default.ensures.cases)

pub returns-then-x-eq91 : goal.returns-then-x-eq91
unfolding name_from
returns-then-x-eq91 c = rw (← c.operand_from-rest.ensures) (c.after_blanks.ensures ∙ bracket_open _ _ _ c.in-Some.ensures.cases.0 c.if-x-eq91.true)

pub returns-else-x-eq91 : goal.returns-else-x-eq91
unfolding name_from
returns-else-x-eq91 c = rw (← c.operand_from-rest.ensures) (bracket_other _ _ _ c.in-Some.ensures.cases.0 c.if-x-eq91.false)
