-- The answer for any bytes: the bytes are a sheet of the rules, and reason 1 comes first. Assumes nothing.
use Rattle.std.specs.Prelude.{ℕ, zero, suc, ◌-◌, ◌≡◌, false, cond, List, eqb, length, take}
use Rattle.lines.specs.Sheet.{content_after, line_count, headed, oversize}
use Rattle.statement.specs.declared.Position.{Position}
use Rattle.statement.specs.Positions.{start_column}
use Rattle.rules.specs.declared.Answer.{Answer}
use Rattle.rules.specs.Sheet.{Line, Sheet, ours, answer, answer_of, starts_of, places_after}
use Rattle.rules.specs.Claims.{Passing, Passed}
use Rattle.progress.specs.Going.{seen, column_in}
use Rattle.run.specs.Run.{peak_of}
use Rattle.run.specs.Demand3.{turns_of, Demand3}

-- the lines after line 1 of a sheet
unfoldable pub lines_of : List ℕ → ℕ → Line
lines_of s k = seen (content_after (suc k) s)

-- the column of a position in its line, line 1 counted as 0
unfoldable pub byte_columns : List ℕ → ℕ → Position → ℕ
byte_columns s zero p = start_column
byte_columns s (suc k) p = column_in (content_after (suc k) s) p

abbrev pub sheet_of : List ℕ → Sheet
sheet_of s = record { header = headed s; line = lines_of s; count = line_count s - 1; column = byte_columns s }

-- reason 1 first, then the answer of the rules
unfoldable pub judged_of : List ℕ → ℕ → Answer
judged_of s room = cond (oversize s) (answer 1 0 0 0 0) (answer_of (sheet_of s) room)

-- the bytes are a passed sheet: not too large, the header is right, no rule is broken at any line, and exit is the last
abbrev pub PassedBytes : List ℕ → Type 0
PassedBytes s = (oversize s ≡ false) × Passed ours (sheet_of s)

-- how many starts come with the answer: one for each alloc on a pass, else none
unfoldable pub start_count : List ℕ → ℕ → ℕ
start_count s room = cond (eqb (judged_of s room).reason 0) (length (starts_of (sheet_of s))) 0

-- the lent list afterwards
unfoldable pub starts_after : List ℕ → List ℕ → List ℕ
starts_after s old = cond (oversize s) old (places_after (sheet_of s) old)

-- demand 3 of a passed sheet, of the answer and of the list as they come back
pub record RunOf (s : List ℕ) (r : Answer) (places : List ℕ) : Type 0 where
  -- demand 3 holds of the sheet
  pub demand : Demand3 (sheet_of s)
  -- the peak answered is that of the run from its starts
  pub peak : r.peak ≡ peak_of (starts_of (sheet_of s)) (turns_of (sheet_of s)) (sheet_of s).count
  -- on reason 0 the first places of the list are its starts
  pub starts : r.reason ≡ 0 → take (length (starts_of (sheet_of s))) places ≡ starts_of (sheet_of s)

-- that, of every sheet that the answer passes
abbrev pub RunKept : List ℕ → Answer → List ℕ → Type 0
RunKept s r places = Passing r.reason → RunOf s r places
