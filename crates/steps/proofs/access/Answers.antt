-- `steps::access` meets its contract: it is judged, and outstanding from there on if it is accepted (StepLaws.antt). Assumes nothing.
use Rattle.steps.proofs.StepLaws.{access_yes}
use Rattle.steps.proofs.access.Goals as goal

pub returns-clause-done : goal.returns-clause-done
returns-clause-done c held =
    rw c.begin-books.ensures
    (access_yes held c.args.warp c.args.books.now c.args.transfer c.args.a c.requires _ c.in_ok-start.ensures.reason c.in_ok-start.ensures.start)
