-- `places::after_comma` meets its contract: what follows the first comma from here on is what follows the first of all. Assumes nothing.
use Rattle.std.proofs.Common.{◌≡◌, false, length}
use Rattle.statement.specs.Positions.{after_comma}
use Rattle.places.proofs.after_comma.Given as goal

abbrev pub invariant-loop-x : goal.invariant-loop-x
invariant-loop-x l = (after_comma l.inside l.rest ≡ after_comma false l.s)

-- the bytes left
abbrev pub decreases-loop-x : goal.decreases-loop-x
decreases-loop-x l = length l.rest
