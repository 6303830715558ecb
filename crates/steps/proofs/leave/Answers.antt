-- `steps::leave` meets its contract. The columns held decide it. Assumes nothing.
use Rattle.std.proofs.Common.{eq-eqb}
use borrow.Author.Tests.{ne_eqb}
use Rattle.steps.proofs.StepLaws.{exit_15, exit_0}
use Rattle.steps.proofs.leave.Goals as goal

pub returns-then-held-ne0-clause-done : goal.returns-then-held-ne0-clause-done
returns-then-held-ne0-clause-done c w = exit_15 _ w _ (ne_eqb _ _ c.if-held-ne0.true)

pub returns-clause-done : goal.returns-clause-done
returns-clause-done c w = exit_0 _ w _ (eq-eqb _ _ c.if-held-ne0.false)
