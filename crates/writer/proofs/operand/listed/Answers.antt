-- `writer::operand::listed` meets its contract: what is left of the names after each turn, added to what is written, is what was left after the first. Assumes nothing.
use Rattle.std.proofs.Common.{◌∙◌}
use Rattle.writer.proofs.Rows.{names_start, names_step, names_end}
use Rattle.writer.proofs.operand.listed.Goals as goal

pub loop-n-preserved : goal.loop-n-preserved
loop-n-preserved c =
    let l = c.loop-n in
    rw (c.name-in-loop-n.ensures, c.put-in-loop-n.ensures) (names_step c.args.rest.now _ l.n-index l.t c.loop-n-test.true ∙ l.invariant)

pub returns : goal.returns
returns c =
    let a = c.args in
    let l = c.loop-n in
    c.put-2.ensures ∙ names_end a.rest.now l.n-index l.t c.loop-n-test.false ∙ l.invariant ∙ rw (c.name.ensures, c.put.ensures) (names_start a.first a.rest.now a.t.now)
