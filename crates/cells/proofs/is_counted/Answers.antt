-- `cells::is_counted` meets its contract: a ld and a st by their test, any other statement by one law. Assumes nothing.
use mathlib.Core.Path.{ap, ◌∙◌}
use mathlib.Core.Bool.{not}
use Rattle.cells.proofs.Laws.{counted_other, counted_access}
use Rattle.cells.proofs.is_counted.Goals as goal

pub returns-in_default : goal.returns-in_default
returns-in_default c = counted_other c.args.t c.in_default.not-Load c.in_default.not-Store

pub returns-in-Load : goal.returns-in-Load
returns-in-Load c = ap not c.is_miscounted.ensures ∙ counted_access c.args.t c.in-Load.a c.in-Load.is
