-- `lines::is_plain` meets its contract: it makes the definition's tests. Assumes nothing.
use mathlib.Core.Path.{refl}
use Rattle.lines.specs.Sheet.{plain}
use Rattle.lines.proofs.is_plain.Goals as goal

pub returns : goal.returns
unfolding plain
returns c = refl
