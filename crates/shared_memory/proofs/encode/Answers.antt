-- `shared_memory::encode` meets its contract: numbers that pass the tests of the layout have room in the word. Assumes nothing.
use mathlib.Core.Path.{sym, ◌∙◌}
use Rattle.laws.proofs.LayoutLaws.{within}
use Rattle.shared_memory.specs.Shared.{layout, numbers}
use Rattle.shared_memory.proofs.encode.Goals as goal

pub join-requires : goal.join-requires
join-requires c = within layout (numbers c.args.d) (sym c.in_range.ensures ∙ c.if-not-in_range.false)
