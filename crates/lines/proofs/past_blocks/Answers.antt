-- `lines::past_blocks` meets its contract: 16 bytes of a statement are the start of the run, which goes on after them. Assumes nothing.
use Rattle.std.proofs.Common.{◌≡◌, ◌+◌, sym, ◌∙◌, ap, arith}
use Rattle.tokens.specs.Bytes.{all, run_len}
use Rattle.lines.specs.Sheet.{plain}
use Rattle.lines.proofs.LayoutLaws.{run_block}
use Rattle.lines.proofs.past_blocks.Goals as goal

pub loop-block-preserved : goal.loop-block-preserved
loop-block-preserved c =
    let r = c.loop-block.rest.now in
    let e = c.in-Some.ensures.cases in
    let p : run_len plain r ≡ 16 + run_len plain c.in-Some.more.now =
    rw e.1 (run_block plain r (omega (arith, e.2)) (ap (all plain) (sym e.0) ∙ sym c.plain_block.ensures ∙ c.if-not-plain_block.false)) in
    omega (arith, p, e.2)

pub loop-block-smaller : goal.loop-block-smaller
loop-block-smaller c = omega (arith, c.in-Some.ensures.cases)
