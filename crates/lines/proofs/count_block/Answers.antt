-- `lines::count_block` meets its contract: what is counted so far and the LFs that are left are together the LFs of all. Assumes nothing.
use Rattle.std.proofs.Common.{arith, get_or, eqb}
use Rattle.tokens.specs.Text.{lf}
use Rattle.lines.proofs.LineLaws.{lfs_step, lfs-past, bit_from}
use Rattle.lines.proofs.count_block.Goals as goal

pub loop-x-preserved : goal.loop-x-preserved
loop-x-preserved c =
    let l = c.loop-x in
    let s = c.args.block.now in
    let b = bit_from (eqb (get_or s l.x-index 0) lf) in
    (omega (arith, c.from-n.ensures, b), omega (arith, c.from-n.ensures, b, lfs_step s l.x-index c.loop-x-test.true))

pub overflow_add-n : goal.overflow_add-n
overflow_add-n c = omega (arith, c.from-n.ensures, bit_from (eqb (get_or c.args.block.now c.loop-x.x-index 0) lf))

pub returns : goal.returns
returns c = (omega (arith, lfs-past c.args.block.now c.loop-x.x-index c.loop-x-test.false), omega arith)
