-- The published number of each reason, and of an answer: 0 where nothing is refused. Assumes nothing.
use Rattle.std.specs.Prelude.{ℕ, Result, Ok, Err}
use Rattle.reasons.specs.declared.Reason.{Reason}
use Rattle.reasons.specs.declared.Reason.TheVariants as reason

abbrev pub number : Reason → ℕ
number reason.Size = 1
number reason.Layout = 2
number reason.Form = 3
number reason.Number = 4
number reason.Registers = 5
number reason.Name = 6
number reason.Values = 7
number reason.Warp = 8
number reason.Columns = 9
number reason.Relinquished = 10
number reason.Space = 11
number reason.Descriptor = 12
number reason.ShapeM = 13
number reason.Cells = 14
number reason.Exit = 15
number reason.Starts = 16
number reason.Outstanding = 18
number reason.Room = 19
number reason.ShapeN = 20
number reason.Types = 21
number reason.Fragment = 22

-- the number of an answer: 0 where nothing is refused, whatever comes with it
abbrev pub answered : {A : Type 0} → Result A Reason → ℕ
answered (Ok _) = 0
answered (Err r) = number r
