-- `progress::step` meets its contract: what the statement gives is what its line gives. Assumes nothing.
use mathlib.Core.Path.{sym, ◌∙◌}
use Rattle.std.specs.Prelude.{Ok, Err}
use Rattle.progress.proofs.StepLaws.{text_done}
use Rattle.progress.proofs.step.Goals as goal

pub returns-in-Ok-statement-clause-done : goal.returns-in-Ok-statement-clause-done
returns-in-Ok-statement-clause-done c =
    text_done c.args.held _ _ _ _ (Ok c.in-Ok-statement.step) c.statement.new.books c.requires (sym c.read-reading.ensures ∙ c.in-Ok.is) c.in-Ok-statement.ensures

pub returns-in-Err-clause-done : goal.returns-in-Err-clause-done
returns-in-Err-clause-done c =
    text_done c.args.held _ _ _ _ (Err c.in-Err.reason) c.statement.new.books c.requires (sym c.read-reading.ensures ∙ c.in-Ok.is) c.in-Err.ensures
