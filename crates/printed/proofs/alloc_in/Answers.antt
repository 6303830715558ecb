-- `printed::alloc_in` meets its contract: what the text reads as decides. Assumes nothing.
use mathlib.Core.Path.{sym, ◌∙◌}
use Rattle.printed.proofs.RowLaws.{alloc_is, alloc_not}
use borrow.Enum.Refused.{opened}
use Rattle.printed.proofs.alloc_in.Goals as goal

pub returns-in-Alloc : goal.returns-in-Alloc
returns-in-Alloc c = alloc_is _ _ (sym c.read.ensures ∙ c.in-Ok.is) _ _ c.in-Alloc.is

pub returns-in_default-t : goal.returns-in_default-t
returns-in_default-t c = alloc_not _ _ (sym c.read.ensures ∙ c.in-Ok.is) (opened c.in_default-t.in_default-t-own.keys2)
