-- `lines::count_lfs` meets its contract: what is counted so far and the LFs that are left are together the LFs of all. Assumes nothing.
use Rattle.std.proofs.Common.{arith, ◌≡◌, ◌+◌, length, ap}
use Rattle.lines.specs.Sheet.{lfs}
use Rattle.lines.proofs.LineLaws.{lfs_parts}
use Rattle.lines.proofs.count_lfs.Goals as goal

pub overflow_add-n : goal.overflow_add-n
overflow_add-n c =
    omega (arith, c.from-n.ensures, c.count_block.ensures, c.in-Some.ensures.cases, ap length c.in-Some.ensures.cases.0)

pub loop-block-preserved : goal.loop-block-preserved
loop-block-preserved c =
    let r = c.loop-block.rest.now in
    let e = c.in-Some.ensures.cases in
    let p : lfs r ≡ lfs c.in-Some.block.now + lfs c.in-Some.more.now = rw (e.0, e.1) (lfs_parts 240 r) in
    (omega (arith, c.from-n.ensures, c.count_block.ensures), omega (arith, c.from-n.ensures, c.count_block.ensures, p))

pub loop-block-smaller : goal.loop-block-smaller
loop-block-smaller c = omega (arith, c.in-Some.ensures.cases)

pub returns : goal.returns
returns c = omega (arith, c.from.ensures, c.count_block-2.ensures)
