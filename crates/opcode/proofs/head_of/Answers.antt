-- `opcode::head_of` meets its contract. It finds the head by the candidate, which is the head by the table. Assumes nothing.
use Rattle.std.proofs.Common.{false, true, None, sym, ◌∙◌}
use Rattle.opcode.proofs.Heads.{told, told_by, left_short, left_is}
use Rattle.opcode.proofs.head_of.Goals as goal

pub returns-in_err-rest : goal.returns-in_err-rest
returns-in_err-rest c = rw c.from_residual.ensures (told c.args.w.now None (rw c.candidate_in-opcode.ensures at c.in_err-rest.ensures))

pub returns-then-not-stops : goal.returns-then-not-stops
returns-then-not-stops c =
    told_by c.args.w.now c.in_ok-rest.rest.now (rw c.candidate_in-opcode.ensures at c.in_ok-rest.ensures) false (sym c.stops.ensures ∙ c.if-not-stops.true)

pub overflow_sub-result : goal.overflow_sub-result
overflow_sub-result c = left_short c.args.w.now c.in_ok-rest.rest.now (rw c.candidate_in-opcode.ensures at c.in_ok-rest.ensures)

pub returns : goal.returns
returns c =
    let e = rw c.candidate_in-opcode.ensures at c.in_ok-rest.ensures in
    rw (c.candidate_in-opcode.ensures, left_is c.args.w.now c.in_ok-rest.rest.now e)
    (told_by c.args.w.now c.in_ok-rest.rest.now e true (sym c.stops.ensures ∙ c.if-not-stops.false))
