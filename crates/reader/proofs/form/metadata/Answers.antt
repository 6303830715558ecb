-- `reader::form::metadata` meets its contract: the test on `.sp` picks the case. Assumes nothing.
use Rattle.reader.specs.Rows.{metadata_c}
use Rattle.reader.proofs.form.metadata.Goals as goal

pub returns-then-sp : goal.returns-then-sp
unfolding metadata_c
returns-then-sp c = rw (c.if-sp.true, ← c.mark.ensures.rest, ← c.address-a.ensures)

pub returns : goal.returns
unfolding metadata_c
returns c = rw c.if-sp.false
