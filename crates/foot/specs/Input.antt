-- What the program makes of the answers of `read`, and what it prints then. Assumes nothing.
use Rattle.std.specs.Prelude.{ℕ, ◌+◌, ◌≤◌, ◌||◌, cond, List, [], take, eqb, ltb, Result, Ok, Err}
use Rattle.lines.specs.Sheet.{most_bytes}
use Rattle.printed.specs.Printed.{report_of}
use Rattle.foot.specs.declared.Input.{Input}
use Rattle.foot.specs.declared.Input.TheVariants.{More, All, Failed}

-- an answer of `read` after n bytes: an error is a failure; 0 is the end, and so are more bytes than a sheet may have
abbrev pub taken_of : {E : Type 0} → ℕ → Result ℕ E → Input
taken_of n (Ok k) = cond (eqb k 0 || ltb most_bytes (n + k)) (All (n + k)) (More (n + k))
taken_of n (Err e) = Failed

-- reading is over, and what came is inside of so many bytes
abbrev pub Over : ℕ → Input → Type 0
Over most (More n) = ⊥
Over most (All n) = n ≤ most
Over most Failed = Unit

-- what is printed: the report of all bytes that came; where reading failed or is not over, nothing
abbrev pub shown_of : Input → List ℕ → List ℕ
shown_of (More n) sheet = []
shown_of (All n) sheet = report_of (take n sheet)
shown_of Failed sheet = []
