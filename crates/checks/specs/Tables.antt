-- A ledger and a table of value names hold what a state of the rules has. Assumes nothing.
use Rattle.rules.specs.State.{State}
use Rattle.ledger.specs.declared.Ledger.{Ledger}
use Rattle.ledger.specs.Shows.{Live}
use Rattle.bindings.specs.declared.Bindings.{Bindings}
use Rattle.bindings.specs.Shows as bindings

-- the live allocations and the values
pub record Tables (ledger : Ledger) (table : Bindings) (s : State) : Type 0 where
  pub live : Live ledger s.live
  pub values : bindings.Shows table s.values
