-- `places::name` meets its contract: a place is the length less what is left from there on. Assumes nothing.
use Rattle.statement.specs.Positions.{name_place}
use Rattle.places.proofs.name.Goals as goal

pub returns : goal.returns
unfolding name_place
returns c = rw (← c.name_from.ensures) c.saturating_sub.ensures
