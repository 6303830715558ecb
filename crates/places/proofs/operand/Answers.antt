-- `places::operand` meets its contract: a place is the length less what is left from there on. Assumes nothing.
use Rattle.statement.specs.Positions.{operand_place}
use Rattle.places.proofs.operand.Goals as goal

pub returns : goal.returns
unfolding operand_place
returns c = rw (← c.operand_from.ensures) c.saturating_sub.ensures
