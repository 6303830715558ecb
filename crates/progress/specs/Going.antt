-- Where the judge stands after line 1 and some lines more, all of them accepted, and what the next line gives. Assumes nothing.
use Rattle.std.specs.Prelude.{ℕ, suc, ◌+◌, ◌-◌, ◌<◌, ◌≤◌, ◌^◌, max, ◌≡◌, List, length, Option, Some, None, Result, Ok, Err}
use Rattle.std.proofs.lemmas.List.Edits.{sets}
use Rattle.reasons.specs.declared.Reason.{Reason}
use Rattle.reasons.specs.Reasons.{number}
use Rattle.statement.specs.declared.Position.{Position}
use Rattle.statement.specs.Reading.{read_of}
use Rattle.statement.specs.Positions.{start_column, byte_column}
use Rattle.lines.specs.Sheet.{Content, fault, most_lines, laid, content_seen, line_at}
use Rattle.rules.specs.State.{State, lowest}
use Rattle.rules.specs.Rows.{first_position}
use Rattle.rules.specs.Sheet.{Line, bad_layout, line_of, line_rows, held_after, peak_up_to, ours, reason_by, position_by, state_after, starts_up_to}
use Rattle.ledger.specs.declared.Span.{Span}
use Rattle.steps.specs.declared.Books.{Books}
use Rattle.steps.specs.declared.Step.{Step}
use Rattle.steps.specs.Steps.{Kept, starts_of, asked_of}
use Rattle.progress.specs.declared.Progress.{Progress}
use Rattle.progress.specs.declared.Refusal.{Refusal}

-- a line by its layout, and its statement as it reads
abbrev pub seen : Content → Line
seen fault = bad_layout
seen (laid warp text) = line_of warp (read_of text)

-- the line that starts at a place
abbrev pub line_seen : List ℕ → ℕ → Line
line_seen s at = seen (content_seen s (line_at s at))

-- the column of a position in a line; one whose layout is wrong has its start alone
abbrev pub column_in : Content → Position → ℕ
column_in fault p = start_column
column_in (laid warp text) p = byte_column text p

abbrev pub column_seen : List ℕ → ℕ → Position → ℕ
column_seen s at = column_in (content_seen s (line_at s at))

-- ---- where a refused line is refused
-- an answer without the column
abbrev pub unplaced : Result Step Refusal → Result Step Reason
unplaced (Ok step) = Ok step
unplaced (Err refusal) = Err refusal.reason

-- the column of a line that is refused, with the columns held before it, from any state that is kept
abbrev pub Pointed : (held : ℕ) → Line → (column : Position → ℕ) → Books → Result Step Refusal → Type 0
Pointed held x column b (Ok step) = Unit
Pointed held x column b (Err refusal) = (s : State) → Kept b s → refusal.column ≡ column (first_position (line_rows lowest s held x))

-- after line 1: nothing was asked for
abbrev pub opening : Progress
opening = record { requests = 0; held = 0; peak = 0; line = 1 }

-- line 1 and k lines after it are done: what is kept, the figures and the starts are those after them
pub record Going (lines : ℕ → Line) (k : ℕ) (first given : List ℕ) (b : Books) (p : Progress) : Type 0 where
  pub line_is : p.line ≡ suc k
  pub accepted : (j : ℕ) → j < k → reason_by ours lines j ≡ 0
  pub kept : Kept b (state_after lines k)
  pub held_is : p.held ≡ held_after lines k
  pub peak_is : p.peak ≡ peak_up_to lines k
  pub requests_is : p.requests ≡ length (starts_up_to lines k)
  -- each start in its place, and the places past them as they were at first
  pub starts_are : given ≡ sets first 0 (starts_up_to lines k)

-- ---- one line more
-- the line x comes next, and is at most the last that a sheet may have
pub record Ready (x : Line) (given : List ℕ) (b : Books) (p : Progress) : Type 0 where
  pub lines : ℕ → Line
  pub done : ℕ
  pub first : List ℕ
  pub going : Going lines done first given b p
  pub here : lines done ≡ x
  pub few : suc done < most_lines

-- one line is counted and nothing else
abbrev pub passed_by : Progress → Progress
passed_by p = record {
  requests = p.requests;
  held = p.held;
  peak = p.peak;
  line = p.line + 1;
}

-- what the figures are once a line that is counted is accepted
abbrev pub counted_of : Progress → Step → Progress
counted_of p r = record {
  requests = p.requests + length (starts_of r.asked);
  held = p.held + asked_of r.asked - r.returned;
  peak = max p.peak (p.held + asked_of r.asked - r.returned);
  line = p.line;
}

-- a start is one of the 512 columns
abbrev pub Placed : Option Span → Type 0
Placed None = Unit
Placed (Some x) = x.start < 512

-- the counts do not overflow
pub record Small (p : Progress) (r : Step) : Type 0 where
  pub requests : p.requests < most_lines
  pub held : p.held + asked_of r.asked < 2 ^ 32
  pub returned : r.returned ≤ p.held + asked_of r.asked
  pub placed : Placed r.asked

-- a line that is refused has the reason of the rules and the column of its position, and nothing changes but the line's number
pub record Refused (reason column : ℕ) (given : List ℕ) (b : Books) (p : Progress) (r : Refusal) (next_given : List ℕ) (next : Books) (q : Progress) : Type 0 where
  pub reasons : number r.reason ≡ reason
  pub points : r.column ≡ column
  pub starts : next_given ≡ given
  pub books : next ≡ b
  pub counted : q ≡ passed_by p

-- what the line after k lines gives, by the columns of its positions. Accepted: no rule is broken, and one line more is done
abbrev pub Next : (lines : ℕ → Line) (k : ℕ) → (Position → ℕ) → (first given : List ℕ) → Books → Progress → Result Unit Refusal → List ℕ → Books → Progress → Type 0
Next lines k column first given b p (Ok _) next_given next q = (reason_by ours lines k ≡ 0) × Going lines (suc k) first next_given next q
Next lines k column first given b p (Err r) next_given next q = Refused (reason_by ours lines k) (column (position_by ours lines k)) given b p r next_given next q

-- that, of the line x wherever it comes next
abbrev pub Went : Line → (Position → ℕ) → List ℕ → Books → Progress → Result Unit Refusal → List ℕ → Books → Progress → Type 0
Went x column given b p answer next_given next q =
    (lines : ℕ → Line) (k : ℕ) (first : List ℕ) → Going lines k first given b p → lines k ≡ x → Next lines k column first given b p answer next_given next q
