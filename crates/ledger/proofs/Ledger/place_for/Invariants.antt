-- `Ledger::place_for` meets its contract: the invariant says that nothing fits below the start so far, and that the empty slots from it on are not enough
-- yet (PlaceLaws.antt). Assumes nothing.
use Rattle.ledger.proofs.PlaceLaws.{Scanned}
use Rattle.ledger.proofs.Ledger.place_for.Given as goal

abbrev pub invariant-loop-i : goal.invariant-loop-i
invariant-loop-i l = Scanned l.self.slots l.requested l.start l.i
