-- `places::after_commas` meets its contract: what follows the commas that are left to pass is what follows all of them. Assumes nothing.
use Rattle.std.proofs.Common.{◌≡◌, ◌-◌}
use Rattle.statement.specs.Positions.{after_commas}
use Rattle.places.proofs.after_commas.Given as goal

abbrev pub invariant-loop : goal.invariant-loop
invariant-loop l = (after_commas (l.count - l.counter) l.rest ≡ after_commas l.count l.s)
