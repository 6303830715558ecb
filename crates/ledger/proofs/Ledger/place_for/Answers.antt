-- `Ledger::place_for` meets its contract: the invariant says that nothing fits below the start so far, and that the empty slots from it on are not enough
-- yet (PlaceLaws.antt). Assumes nothing.
use native.Mathlib.Omega.{arith}
use Rattle.ledger.proofs.PlaceLaws.{scan_start, scan_found, scan_more, scan_end}
use Rattle.ledger.proofs.Ledger.place_for.Goals as goal

pub loop-i-init : goal.loop-i-init
loop-i-init c = scan_start _ _ c.requires.0

pub returns-then-start-requested : goal.returns-then-start-requested
returns-then-start-requested c =
    let i = c.loop-i in scan_found _ _ i.start i.i _ i.invariant (omega arith) c.requires.0 c.past-start.ensures.next (omega arith)

pub loop-i-preserved : goal.loop-i-preserved
loop-i-preserved c =
    let i = c.loop-i in scan_more _ _ i.start i.i _ i.invariant (omega arith) c.requires.0 c.past-start.ensures.next c.past-start.ensures.near (omega arith)

pub returns : goal.returns
returns c = scan_end _ _ c.loop-i.start c.loop-i.i c.loop-i.invariant (omega arith)
