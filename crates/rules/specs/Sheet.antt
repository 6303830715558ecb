-- A sheet as its lines were read: what its lines do, the figures by line, and the whole answer. Assumes nothing.
use Rattle.std.specs.Prelude.{ℕ, zero, suc, ◌+◌, ◌-◌, max, Bool, true, not, cond, List, [], ◌∷◌, ◌++◌, ltb, eqb, length, Ok, Err}
use Rattle.std.proofs.Math.Option.{Option, none, some}
use Rattle.std.proofs.lemmas.List.Edits.{sets}
use Rattle.laws.specs.Rules.{Rule, first_broken}
use Rattle.tokens.specs.declared.Name.{Name}
use Rattle.statement.specs.Reading.{Reading}
use Rattle.statement.specs.declared.Misread.TheVariants.{NoForm, TooLarge}
use Rattle.statement.specs.declared.Statement.{Statement}
use Rattle.statement.specs.declared.Position.{Position}
use Rattle.statement.specs.declared.Position.TheVariants.{Start}
use Rattle.rules.specs.declared.Answer.{Answer}
use Rattle.rules.specs.Counting.{least}
use Rattle.statement.specs.Views as act
use Rattle.statement.specs.Views.{Act, Turn, act_of, request_in, release_in, of}
use Rattle.rules.specs.State.{State, opened, Allocation, Placer, lowest, without, bind, Mark, after_wait, after_release}
use Rattle.rules.specs.Rows.{at_start, at_token, whole, broken, Row, row, rules_of, first_position}
use Rattle.rules.specs.Reasons.{rows}

-- ---- lines
-- a line after line 1: its layout is wrong; no form matches; a number is out of range; or a statement, with its warp
pub data Line : Type 0 where
  bad_layout : Line
  no_form : Line
  too_large : Line
  statement : (warp : ℕ) → Statement → Line

-- the line of a text that was read beside a warp
abbrev pub line_of : ℕ → Reading → Line
line_of w (Ok t) = statement w t
line_of w (Err (NoForm at)) = no_form
line_of w (Err (TooLarge at)) = too_large

-- what a line does, and by which warp; a line that gives no statement does nothing
abbrev pub turn_of : Line → Turn
turn_of bad_layout = record { warp = 0; act = act.nothing }
turn_of no_form = record { warp = 0; act = act.nothing }
turn_of too_large = record { warp = 0; act = act.nothing }
turn_of (statement w t) = record { warp = w; act = act_of t }

abbrev pub act_in : Line → Act
act_in x = (turn_of x).act

-- line 1 is right or not; the lines after it, counted from 0 (so `line 0` is line 2 of the sheet), and how many they are; and the column of each position in a
-- line, line 1 counted as 0
pub record Sheet : Type 0 where
  pub header : Bool
  pub line : ℕ → Line
  pub count : ℕ
  pub column : ℕ → Position → ℕ

-- the rules of a line, with the columns held before it: a line that gives no statement breaks 2, 3 or 4; the warp of one that does is 0 to 3 (2)
abbrev pub line_rows : Placer → State → (held : ℕ) → Line → List Row
line_rows place s held bad_layout = row 2 at_start broken ∷ []
line_rows place s held no_form = row 3 at_token broken ∷ []
line_rows place s held too_large = row 4 at_token broken ∷ []
line_rows place s held (statement w t) = row 2 at_start (whole (ltb w 4)) ∷ rows place s held w t

abbrev pub line_rules : Placer → State → (held : ℕ) → Line → List Rule
line_rules place s held x = rules_of (line_rows place s held x)

-- ---- what an accepted line does
-- the first alloc or relinquish fixes the warp
abbrev pub fixed : Option ℕ → ℕ → Option ℕ
fixed none w = some w
fixed (some v) w = some v

-- alloc adds an allocation where a start was found
abbrev pub added : Name → ℕ → Option ℕ → List Allocation → List Allocation
added n columns none l = l
added n columns (some start) l = record { name = n; start = start; columns = columns } ∷ l

abbrev pub moved : State → Name → ℕ → ℕ → State
moved s n width v = record {
  live = s.live;
  values = bind (record { name = n; width = width; number = v }) s.values;
  warp = s.warp;
  relinquished = s.relinquished;
  exited = s.exited;
  outstanding = s.outstanding;
}

-- with other loads and stores outstanding
abbrev pub marked : State → List Mark → State
marked s l = record { live = s.live; values = s.values; warp = s.warp; relinquished = s.relinquished; exited = s.exited; outstanding = l }

-- the state after an act: alloc adds, dealloc removes, mov binds; alloc and relinquish fix the warp; a load or store is outstanding until its warp waits for
-- it, or its allocation is gone; exit is noted; all else leaves it as it was
unfoldable pub effect : Placer → State → ℕ → Act → State
effect place s w (act.binds n width v) = moved s n width v
effect place s w (act.requests n v) = record {
  live = added n v (place s.live v) s.live;
  values = s.values;
  warp = fixed s.warp w;
  relinquished = s.relinquished;
  exited = s.exited;
  outstanding = s.outstanding;
}
effect place s w (act.releases n v) = record {
  live = without n s.live;
  values = s.values;
  warp = s.warp;
  relinquished = s.relinquished;
  exited = s.exited;
  outstanding = after_release n s.outstanding;
}
effect place s w act.relinquishes = record {
  live = s.live;
  values = s.values;
  warp = fixed s.warp w;
  relinquished = true;
  exited = s.exited;
  outstanding = s.outstanding;
}
effect place s w (act.accesses x a) = marked s (record { name = a.address.base; warp = w; transfer = x } ∷ s.outstanding)
effect place s w (act.waits x) = marked s (after_wait w x s.outstanding)
effect place s w (act.multiplies m) = s
effect place s w act.exits = record {
  live = s.live;
  values = s.values;
  warp = s.warp;
  relinquished = s.relinquished;
  exited = true;
  outstanding = s.outstanding;
}
effect place s w act.nothing = s

abbrev pub line_effect : Placer → State → Line → State
line_effect place s x = effect place s (turn_of x).warp (act_in x)

-- the start that a request is given
abbrev pub start_list : Option ℕ → List ℕ
start_list none = []
start_list (some start) = start ∷ []

unfoldable pub given : Placer → State → Line → List ℕ
given place s x = of (request_in (act_in x)) (λ r. start_list (place s.live r.columns)) []

-- columns asked for and given back by a line
unfoldable pub requested : Line → ℕ
requested x = of (request_in (act_in x)) (λ r. r.columns) 0

unfoldable pub released : Line → ℕ
released x = of (release_in (act_in x)) (λ r. r.columns) 0

-- ---- by line: after the first k lines below line 1, if each is accepted
-- the sum of a figure over the first k lines
unfoldable pub sum : (Line → ℕ) → (ℕ → Line) → ℕ → ℕ
sum f line zero = 0
sum f line (suc k) = sum f line k + f (line k)

-- columns held: those asked for less those given back
unfoldable pub held_after : (ℕ → Line) → ℕ → ℕ
held_after line k = sum requested line k - sum released line k

-- the most held after any of the first k lines
unfoldable pub peak_up_to : (ℕ → Line) → ℕ → ℕ
peak_up_to line zero = 0
peak_up_to line (suc k) = max (peak_up_to line k) (held_after line (suc k))

-- a placing for each line
abbrev pub Placing : Type 0
Placing = ℕ → Placer

-- ours is the same for all
abbrev pub ours : Placing
ours k = lowest

unfoldable pub state_by : Placing → (ℕ → Line) → ℕ → State
state_by placing line zero = opened
state_by placing line (suc k) = line_effect (placing k) (state_by placing line k) (line k)

-- the starts of the requests in order
unfoldable pub starts_by : Placing → (ℕ → Line) → ℕ → List ℕ
starts_by placing line zero = []
starts_by placing line (suc k) = starts_by placing line k ++ given (placing k) (state_by placing line k) (line k)

-- the rules of line k, the reason for which it is refused, or 0, and where in the line
abbrev pub rows_by : Placing → (ℕ → Line) → ℕ → List Row
rows_by placing line k = line_rows (placing k) (state_by placing line k) (held_after line k) (line k)

abbrev pub rules_by : Placing → (ℕ → Line) → ℕ → List Rule
rules_by placing line k = rules_of (rows_by placing line k)

unfoldable pub reason_by : Placing → (ℕ → Line) → ℕ → ℕ
reason_by placing line k = first_broken (rules_by placing line k)

unfoldable pub position_by : Placing → (ℕ → Line) → ℕ → Position
position_by placing line k = first_position (rows_by placing line k)

-- ---- the answer
-- the first line that is refused, or the number of lines
unfoldable pub stop_by : Placing → (ℕ → Line) → ℕ → ℕ
stop_by placing line count = least (λ k. not (eqb (reason_by placing line k) 0)) count

abbrev pub answer : ℕ → ℕ → ℕ → ℕ → ℕ → Answer
answer reason line column held peak = record { reason = reason; line = line; column = column; held = held; peak = peak }

-- no line is refused: exit is missing (15); or the lent list has fewer places than requests (16), both at the start of the last line; or passed, with column 0
unfoldable pub closing : Bool → (requests room line column held peak : ℕ) → Answer
closing exited requests room line column held peak =
    cond exited (cond (ltb room requests) (answer 16 line column 0 peak) (answer 0 line 0 0 peak)) (answer 15 line column held peak)

-- by the first refused line
unfoldable pub answer_at : Placing → Sheet → (room stop : ℕ) → Answer
answer_at placing sheet room stop =
    cond (ltb stop sheet.count)
    (answer (reason_by placing sheet.line stop) (stop + 2) (sheet.column (suc stop) (position_by placing sheet.line stop)) (held_after sheet.line stop)
    (peak_up_to sheet.line stop))
    (closing (state_by placing sheet.line sheet.count).exited (length (starts_by placing sheet.line sheet.count)) room (sheet.count + 1)
    (sheet.column sheet.count Start) (held_after sheet.line sheet.count) (peak_up_to sheet.line sheet.count))

-- the answer under a placing, with that many places lent; a wrong line 1 is refused at its start
unfoldable pub answer_by : Placing → Sheet → ℕ → Answer
answer_by placing sheet room =
    cond sheet.header (answer_at placing sheet room (stop_by placing sheet.line sheet.count)) (answer 2 1 (sheet.column 0 Start) 0 0)

-- ---- under our placing
abbrev pub state_after : (ℕ → Line) → ℕ → State
state_after = state_by ours

abbrev pub starts_up_to : (ℕ → Line) → ℕ → List ℕ
starts_up_to = starts_by ours

abbrev pub answer_of : Sheet → ℕ → Answer
answer_of = answer_by ours

abbrev pub starts_of : Sheet → List ℕ
starts_of sheet = starts_by ours sheet.line sheet.count

-- the lent list afterwards: on a pass the starts over its first places, and on any refusal as it was
unfoldable pub places_after : Sheet → List ℕ → List ℕ
places_after sheet old = cond (eqb (answer_of sheet (length old)).reason 0) (sets old 0 (starts_of sheet)) old
