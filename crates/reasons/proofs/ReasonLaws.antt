-- No reason has the number 0, so an answer has it just where nothing is refused. Assumes nothing.
use mathlib.Core.Path.{◌≡◌, refl, sym}
use mathlib.Core.Bool.{false}
use lib.Dec.{eqb}
use Rattle.std.specs.Prelude.{Result, Ok, Err, is_ok}
use Rattle.reasons.specs.declared.Reason.{Reason}
use Rattle.reasons.specs.declared.Reason.TheVariants as reason
use Rattle.reasons.specs.Reasons.{number, answered}

pub nonzero : (r : Reason) → eqb (number r) 0 ≡ false
nonzero reason.Size = refl
nonzero reason.Layout = refl
nonzero reason.Form = refl
nonzero reason.Number = refl
nonzero reason.Registers = refl
nonzero reason.Name = refl
nonzero reason.Values = refl
nonzero reason.Warp = refl
nonzero reason.Columns = refl
nonzero reason.Relinquished = refl
nonzero reason.Space = refl
nonzero reason.Descriptor = refl
nonzero reason.ShapeM = refl
nonzero reason.Cells = refl
nonzero reason.Exit = refl
nonzero reason.Starts = refl
nonzero reason.Outstanding = refl
nonzero reason.Room = refl
nonzero reason.ShapeN = refl
nonzero reason.Types = refl
nonzero reason.Fragment = refl

-- an answer has the number 0 where it is none of a refusal
pub passes : {A : Type 0} (r : Result A Reason) → is_ok r ≡ eqb (answered r) 0
passes (Ok _) = refl
passes (Err r) = sym (nonzero r)
