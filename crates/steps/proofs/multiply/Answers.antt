-- `steps::multiply` meets its contract: the reason of an mma is all that there is of it. Assumes nothing.
use Rattle.steps.proofs.StepLaws.{multiply_done}
use Rattle.steps.proofs.multiply.Goals as goal

pub returns : goal.returns
returns c held w = multiply_done held w c.args.m c.args.books.now c.in_ok-mma_reason.ensures
