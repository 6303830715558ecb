-- The line of an answer, its column and its count of starts are small numbers: a sheet that is not too large has at most 4,096 lines, and a line with its layout at
-- most 2,048 bytes. Assumes nothing.
use Prim.Native.Nat.{ℕ, zero, suc, ◌+◌, ◌-◌, ◌≤◌}
use native.Mathlib.Omega.{arith}
use mathlib.Core.Path.{◌≡◌, refl}
use mathlib.Core.Bool.{Bool, true, false, ◌&&◌, cond}
use mathlib.Core.List.{List}
use lib.Dec.{leb, ltb, eqb}
use lib.ListN.{length, get_or, drop, length-drop}
use borrow.Author.Tests.{leb-true}
use Rattle.laws.proofs.BoolLaws.{and_r}
use Rattle.tokens.specs.Text.{tab}
use Rattle.tokens.specs.Bytes.{all}
use Rattle.statement.specs.declared.Position.{Position}
use Rattle.statement.specs.declared.Position.TheVariants.{Start, Token, Opcode, Name, Operand}
use Rattle.statement.specs.Positions.{byte_column, name_place, operand_place}
use Rattle.statement.proofs.Stops as stops
use Rattle.lines.specs.Sheet.{text_of, ended_of, warp_byte, warp_of, plain, laid_out, fault, laid, content_of, after, line_count, oversize, headed}
use Rattle.rules.specs.declared.Answer.{Answer}
use Rattle.rules.specs.Sheet.{answer, closing, answer_at, answer_by, answer_of, starts_of, ours, reason_by, position_by, state_by, starts_by, held_after, peak_up_to, stop_by}
use Rattle.rules.proofs.RulesProved.{stop_le}
use Rattle.progress.proofs.LineLaws.{starts_few}
use Rattle.judge.specs.Judged.{lines_of, byte_columns, sheet_of, judged_of, start_count}
use Rattle.progress.specs.Going.{column_in}
use Rattle.judge.proofs.Whole.{few_lines}

-- ---- columns
-- a place in a text is at most its end
place_most : (text : List ℕ) (p : Position) → byte_column text p ≤ 3 + length text
unfolding byte_column name_place operand_place
place_most text Start = omega arith
place_most text Token = omega (arith, stops.stop_le text)
place_most text Opcode = omega arith
place_most text (Name i) = omega arith
place_most text (Operand i) = omega arith

line_bytes : (l : List ℕ) → laid_out l ≡ true → length (text_of l) ≤ 2048
unfolding laid_out
line_bytes l e =
    leb-true (length (text_of l)) 2048
    (and_r (((warp_byte (get_or (text_of l) 0 0) && eqb (get_or (text_of l) 1 0) tab) && all plain (drop 2 (text_of l))) && ended_of l) (leb (length (text_of l)) 2048) e)

content_most : (l : List ℕ) (p : Position) → column_in (content_of l) p ≤ 2051
unfolding content_of
content_most l p = by (laid_out l) refl
  where
    by : (b : Bool) → laid_out l ≡ b → column_in (cond b (laid (warp_of (get_or (text_of l) 0 0)) (drop 2 (text_of l))) fault) p ≤ 2051
    by true e = omega (arith, place_most (drop 2 (text_of l)) p, length-drop 2 (text_of l), line_bytes l e)
    by false e = omega arith

columns_most : (s : List ℕ) (l : ℕ) (p : Position) → byte_columns s l p ≤ 2051
unfolding byte_columns
columns_most s zero p = omega arith
columns_most s (suc k) p = content_most (after (suc k) s) p

-- ---- answers
pub record Small (a : Answer) : Type 0 where
  pub line : a.line ≤ 4098
  pub column : a.column ≤ 2051

small : (reason line column held peak : ℕ) → line ≤ 4098 → column ≤ 2051 → Small (answer reason line column held peak)
small reason line column held peak p q = record { line = p; column = q }

either : (b : Bool) (x y : Answer) → Small x → Small y → Small (cond b x y)
either true x y p q = p
either false x y p q = q

closing_small : (exited : Bool) (requests room line column held peak : ℕ) → line ≤ 4098 → column ≤ 2051 → Small (closing exited requests room line column held peak)
unfolding closing
closing_small exited requests room line column held peak p q =
    either exited (cond (ltb room requests) (answer 16 line column 0 peak) (answer 0 line 0 0 peak)) (answer 15 line column held peak)
    (either (ltb room requests) (answer 16 line column 0 peak) (answer 0 line 0 0 peak) (small 16 line column 0 peak p q) (small 0 line 0 0 peak p (omega arith)))
    (small 15 line column held peak p q)

at_small : (s : List ℕ) (room stop : ℕ) → stop + 2 ≤ 4098 → line_count s ≤ 4096 → Small (answer_at ours (sheet_of s) room stop)
unfolding answer_at
at_small s room stop p q =
    let count = line_count s - 1 in
    let x = byte_columns s (suc stop) (position_by ours (lines_of s) stop) in
    either (ltb stop count)
    (answer (reason_by ours (lines_of s) stop) (stop + 2) x (held_after (lines_of s) stop) (peak_up_to (lines_of s) stop))
    (closing (state_by ours (lines_of s) count).exited (length (starts_by ours (lines_of s) count)) room (count + 1) (byte_columns s count Start) (held_after (lines_of s) count)
    (peak_up_to (lines_of s) count))
    (small (reason_by ours (lines_of s) stop) (stop + 2) x (held_after (lines_of s) stop) (peak_up_to (lines_of s) stop) p (columns_most s (suc stop) (position_by ours (lines_of s) stop)))
    (closing_small (state_by ours (lines_of s) count).exited (length (starts_by ours (lines_of s) count)) room (count + 1) (byte_columns s count Start) (held_after (lines_of s) count)
    (peak_up_to (lines_of s) count) (omega (arith, q)) (columns_most s count Start))

rules_small : (s : List ℕ) (room : ℕ) → line_count s ≤ 4096 → Small (answer_of (sheet_of s) room)
unfolding answer_by
rules_small s room h =
    let stop = stop_by ours (lines_of s) (line_count s - 1) in
    let x = byte_columns s 0 Start in
    either (headed s) (answer_at ours (sheet_of s) room stop) (answer 2 1 x 0 0)
    (at_small s room stop (omega (arith, h, stop_le ours (lines_of s) (line_count s - 1))) h)
    (small 2 1 x 0 0 (omega arith) (columns_most s 0 Start))

small_by : (large : Bool) (s : List ℕ) (room : ℕ) → oversize s ≡ large → Small (cond large (answer 1 0 0 0 0) (answer_of (sheet_of s) room))
small_by true s room h = small 1 0 0 0 0 (omega arith) (omega arith)
small_by false s room h = rules_small s room (few_lines s h)

pub answer_small : (s : List ℕ) (room : ℕ) → Small (judged_of s room)
unfolding judged_of
answer_small s room = small_by (oversize s) s room refl

-- ---- the count of starts
counted : (passed : Bool) (s : List ℕ) → line_count s ≤ 4096 → cond passed (length (starts_of (sheet_of s))) 0 ≤ 4096
counted true s h = omega (arith, h, starts_few (lines_of s) (line_count s - 1))
counted false s h = omega arith

count_by : (large : Bool) (s : List ℕ) (room : ℕ) → oversize s ≡ large
    → cond (eqb (cond large (answer 1 0 0 0 0) (answer_of (sheet_of s) room)).reason 0) (length (starts_of (sheet_of s))) 0 ≤ 4096
count_by true s room h = omega arith
count_by false s room h = counted (eqb (answer_of (sheet_of s) room).reason 0) s (few_lines s h)

pub count_most : (s : List ℕ) (room : ℕ) → start_count s room ≤ 4096
unfolding start_count judged_of
count_most s room = count_by (oversize s) s room refl
