-- Where a text that does not read is refused. Assumes nothing.
use Prim.Native.Nat.{ℕ, ◌≤◌}
use mathlib.Core.Path.{◌≡◌, sym, ◌∙◌}
use mathlib.Core.List.{List}
use lib.ListN.{length}
use Rattle.statement.specs.Reading.{Reading, read_of}
use Rattle.statement.specs.Positions.{stop_in}
use Rattle.statement.proofs.Stops.{stop_le}

-- where reading stopped is within the text, or at its end
pub stopped : (text : List ℕ) (r s : Reading) → r ≡ s → r ≡ read_of text → stop_in s ≤ length text
stopped text r s e h = rw (sym e ∙ h) (stop_le text)
