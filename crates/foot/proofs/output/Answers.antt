-- `foot::output` meets its contract: the report is what `printed::print` puts. Assumes nothing.
use Rattle.std.proofs.Common.{take}
use Rattle.foot.proofs.InputLaws.{shown}
use Rattle.foot.proofs.output.Goals as goal

pub returns-in-All : goal.returns-in-All
returns-in-All c =
    let e = c.print-p.ensures in
    let s = shown (take c.in-All.n c.args.sheet.now) c.args.room.now c.print-p.new.room c.print-p.result c.requires.1 e.answer e.places e.fits in
    rw c.in-All.is (record { value = s.0; room_after = s.1 })
