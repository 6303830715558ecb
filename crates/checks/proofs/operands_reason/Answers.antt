-- `checks::operands_reason` meets its contract. The first test that fails decides, by the laws of an mma. Assumes nothing.
use Rattle.std.proofs.Common.{true, false, refl, sym, ap, ◌∙◌}
use Rattle.std.proofs.lemmas.Result.{err_from_is_err_and}
use Rattle.reasons.specs.Reasons.{answered}
use Rattle.instruction.specs.Instruction.{judged_answer}
use Rattle.checks.proofs.MmaLaws.{mma_6, unbound, mma_12, mma_listing, mma_end}
use Rattle.checks.proofs.operands_reason.Goals as goal

pub returns-in_default : goal.returns-in_default
returns-in_default c s held w o = unbound s held w c.args.m _ _ _ _ _ o c.in_default.is-1

pub returns-in_default-2 : goal.returns-in_default-2
returns-in_default-2 c s held w o = mma_6 s held w c.args.m _ _ _ _ _ o (rw c.in_default.is-0)

pub returns-then-not-a-b : goal.returns-then-not-a-b
returns-then-not-a-b c s held w o = mma_6 s held w c.args.m _ _ _ _ _ o (rw (c.in-Some-Some.is-0, c.if-not-a-b.true))

pub returns-then-not-a-b-2 : goal.returns-then-not-a-b-2
returns-then-not-a-b-2 c s held w o =
    mma_12 s held w c.args.m _ _ _ _ _ o (rw (c.in-Some-Some.is-0, c.if-not-a-b.false, c.in-Some-Some.is-1)) _ c.in-Some-Some.is-1
    _ refl c.if-not-a-b-2.true

pub returns-in_err-judged : goal.returns-in_err-judged
returns-in_err-judged c s held w o =
    let p = err_from_is_err_and c.from_residual.result c.from_residual.ensures.1 in
    rw (p.1, p.2)
    (mma_listing s held w c.args.m _ _ _ _ _ o (rw (c.in-Some-Some.is-0, c.if-not-a-b.false, c.in-Some-Some.is-1)) _ c.in-Some-Some.is-1
    (judged_answer c.judge_word-judged.result) (rw c.opcode_of.ensures at c.judge_word-judged.ensures) c.if-not-a-b-2.false
    _ (ap answered c.in_err-judged.was))

pub returns-then-mma_within-a : goal.returns-then-mma_within-a
returns-then-mma_within-a c s held w o =
    mma_end s held w c.args.m _ _ _ _ _ o (rw (c.in-Some-Some.is-0, c.if-not-a-b.false, c.in-Some-Some.is-1)) _ c.in-Some-Some.is-1
    (judged_answer c.judge_word-judged.result) (rw c.opcode_of.ensures at c.judge_word-judged.ensures) c.if-not-a-b-2.false
    (ap answered c.in_ok-judged.was) _ (rw c.in-Some-Some.is-0 c.mma_within.ensures) true c.if-mma_within-a.true

pub returns-else-mma_within-a : goal.returns-else-mma_within-a
returns-else-mma_within-a c s held w o =
    mma_end s held w c.args.m _ _ _ _ _ o (rw (c.in-Some-Some.is-0, c.if-not-a-b.false, c.in-Some-Some.is-1)) _ c.in-Some-Some.is-1
    (judged_answer c.judge_word-judged.result) (rw c.opcode_of.ensures at c.judge_word-judged.ensures) c.if-not-a-b-2.false
    (ap answered c.in_ok-judged.was) _ (rw c.in-Some-Some.is-0 c.mma_within.ensures) false c.if-mma_within-a.false
