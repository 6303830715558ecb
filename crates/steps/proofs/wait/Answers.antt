-- `steps::wait` meets its contract: what is outstanding is kept as after the wait (StepLaws.antt). Assumes nothing.
use Rattle.steps.proofs.StepLaws.{wait_done}
use Rattle.steps.proofs.wait.Goals as goal

pub returns-clause-done : goal.returns-clause-done
returns-clause-done c held = rw c.wait-books.ensures (wait_done held _ _ _ c.requires)
