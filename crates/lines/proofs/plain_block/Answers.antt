-- `lines::plain_block` meets its contract: the tests made and those left are together all of them. Assumes nothing.
use Rattle.std.proofs.Common.{sym, ◌∙◌, arith}
use Rattle.lines.specs.Sheet.{plain}
use Rattle.lines.proofs.LayoutLaws.{all_step, all_end}
use Rattle.lines.proofs.plain_block.Goals as goal

pub loop-x-preserved : goal.loop-x-preserved
loop-x-preserved c =
    let l = c.loop-x in
    rw c.is_plain-good.ensures (sym (all_step plain c.args.block.now l.x-index l.good (omega arith)) ∙ l.invariant)

pub returns : goal.returns
returns c =
    let l = c.loop-x in
    sym (all_end plain c.args.block.now l.x-index l.good (omega arith)) ∙ l.invariant
