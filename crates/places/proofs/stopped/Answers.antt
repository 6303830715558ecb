-- `places::stopped` meets its contract: the place is that of the reading. Assumes nothing.
use Rattle.places.proofs.Laws.{token_column}
use Rattle.places.proofs.stopped.Goals as goal

pub returns : goal.returns
returns c =
    let a = c in
    token_column a.args.s.now c.stop_of.result c.column_at.result c.column_at.ensures a.args.t a.requires c.stop_of.ensures
