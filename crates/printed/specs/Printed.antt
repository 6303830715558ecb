-- What the program prints for a sheet: the five numbers of the answer, and on a pass a row for each alloc.
-- Assumes nothing.
use Rattle.std.specs.Prelude.{cond, ℕ, zero, suc, ◌-◌, List, [], ◌∷◌, ◌++◌, length, get_or, leb}
use Rattle.std.proofs.lemmas.List.Edits.{sets}
use Rattle.statement.specs.Views.{request_in, of}
use Rattle.lines.specs.Sheet.{most_lines, line_count}
use Rattle.rules.specs.declared.Answer.{Answer}
use Rattle.rules.specs.Sheet.{Line, act_in, starts_of}
use Rattle.rules.specs.Claims.{Passing}
use Rattle.run.specs.Demand3.{Demand3}
use Rattle.judge.specs.Judged.{lines_of, sheet_of, judged_of}
use Rattle.report.specs.Report.{Reported, report_text, report_room}
use Rattle.printed.specs.declared.Printed.{Printed}

-- the row of a line: an alloc has its name, its start and its columns; no other line has a row
unfoldable pub row_of : Line → ℕ → List Reported
row_of x start = of (request_in (act_in x)) (λ r. record { name = r.name; start = start; columns = r.columns } ∷ []) []

-- the rows of the first k lines after line 1, in order: each alloc takes the next start
unfoldable pub rows_up_to : (ℕ → Line) → List ℕ → ℕ → List Reported
rows_up_to line starts zero = []
rows_up_to line starts (suc k) = rows_up_to line starts k ++ row_of (line k) (get_or starts (length (rows_up_to line starts k)) 0)

-- the rows of a sheet, with its starts
abbrev pub rows_of : List ℕ → List Reported
rows_of s = rows_up_to (lines_of s) (starts_of (sheet_of s)) (line_count s - 1)

-- the answer, where 4,096 places are lent
abbrev pub answered : List ℕ → Answer
answered s = judged_of s most_lines

-- the bytes of a sheet's report
unfoldable pub report_of : List ℕ → List ℕ
report_of s = report_text (answered s).reason (answered s).line (answered s).column (answered s).held (answered s).peak (rows_of s)

-- ---- printed into a lent room

-- the answer in a room of so many bytes: fewer than the largest report needs are too few (19)
unfoldable pub printed_of : List ℕ → ℕ → Printed
printed_of s room = cond (leb report_room room) (record { reason = (answered s).reason; length = length (report_of s) }) (record { reason = 19; length = 0 })

-- the room afterwards: the report over its first places; too small a room as it was
unfoldable pub room_after : List ℕ → List ℕ → List ℕ
room_after s old = cond (leb report_room (length old)) (sets old 0 (report_of s)) old

-- demand 3, of every sheet whose printed reason passes it
abbrev pub RunPrinted : List ℕ → ℕ → Type 0
RunPrinted s reason = Passing reason → Demand3 (sheet_of s)
