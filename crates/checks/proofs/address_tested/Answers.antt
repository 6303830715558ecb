-- `checks::address_tested` meets its contract: the allocation found tells of its name. Assumes nothing.
use Rattle.ledger.proofs.FoundLaws.{finds_in}
use Rattle.checks.proofs.address_tested.Goals as goal

pub returns : goal.returns
returns c s h =
    let f = finds_in c.args.ledger.now s.live h in
    rw (c.is_some.ensures, c.mma_within.ensures, c.columns_in.ensures, c.find-span.ensures.found, f.size c.args.a.base, f.live c.args.a.base)
