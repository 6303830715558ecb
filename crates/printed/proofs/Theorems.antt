-- What the definitions of the report come to: the bytes that are written are the report, and each alloc of a sheet that passes has a start of its
-- own. Assumes nothing.
use Prim.Native.Nat.{ℕ, zero, suc, ◌-◌, ◌<◌, ◌≤◌}
use native.Mathlib.Omega.{arith}
use mathlib.Core.Path.{◌≡◌, refl, sym, ap, ◌∙◌}
use mathlib.Core.List.{List, [], ◌∷◌}
use mathlib.Core.Bool.{true}
use mathlib.Core.Option.{Option, none, some}
use lib.ListN.{length, get_or, take, length-append}
use lib.Dec.{leb}
use borrow.Author.Tests.{le-leb}
use Rattle.laws.specs.Tests.{bit, is_some}
use Rattle.statement.specs.Views.{Ask, request_of, of}
use Rattle.lines.specs.Sheet.{line_count}
use Rattle.rules.specs.State.{State, lowest}
use Rattle.rules.specs.Sheet.{Line, ours, given, start_list, held_after, state_by, starts_by, rules_by, line_rules, starts_of}
use Rattle.rules.specs.Claims.{AllKept}
use Rattle.rules.proofs.RuleLaws.{accepted_line, request-kept}
use Rattle.rules.proofs.StateLaws.{one-start}
use Rattle.judge.specs.Judged.{lines_of, sheet_of}
use Rattle.report.specs.Report.{Reported, report_room}
use Rattle.report.proofs.ReportLaws.{put_whole}
use Rattle.printed.specs.Printed.{row_of, rows_up_to, rows_of, answered, report_of, printed_of, room_after}
use Rattle.printed.proofs.PassLaws.{report_fits, is_passed}

-- ---- what is written

-- the report stands in the first places
pub printed_bytes : (s room : List ℕ) → report_room ≤ length room → take (printed_of s (length room)).length (room_after s room) ≡ report_of s
unfolding printed_of room_after
printed_bytes s room h =
    let e : leb report_room (length room) ≡ true = le-leb report_room (length room) h in
    rw e (put_whole room _ (report_of s) (length (report_of s)) refl refl (omega (arith, h, report_fits s)))

-- ---- a start for each alloc

row-start : (s : State) (held : ℕ) (x : Line) (v : ℕ) → AllKept (line_rules lowest s held x) → length (row_of x v) ≡ length (given lowest s x)
unfolding row_of given
row-start s held x v k =
    accepted_line lowest s held x k (λ x. length (row_of x v) ≡ length (given lowest s x)) (λ w t p a. by (request_of t) (λ r e. (request-kept lowest s held w t a r e).1))
  where
    by : (o : Option Ask) → ((r : Ask) → o ≡ some r → is_some (lowest s.live r.columns) ≡ true)
        → length {A = Reported} (of o (λ r. record { name = r.name; start = v; columns = r.columns } ∷ []) []) ≡ length (of o (λ r. start_list (lowest s.live r.columns)) [])
    by none f = refl
    by (some r) f = sym (one-start (lowest s.live r.columns) ∙ ap bit (f r refl))

rows-starts : (line : ℕ → Line) (starts : List ℕ) (n : ℕ) → ((k : ℕ) → k < n → AllKept (rules_by ours line k)) → length (rows_up_to line starts n) ≡ length (starts_by ours line n)
unfolding rows_up_to starts_by
rows-starts line starts zero h = refl
rows-starts line starts (suc n) h =
    let v = get_or starts (length (rows_up_to line starts n)) 0 in
    omega (arith, length-append (rows_up_to line starts n) (row_of (line n) v), length-append (starts_by ours line n) (given lowest (state_by ours line n) (line n)), rows-starts line starts n (λ k i. h k (omega (arith, i))), row-start (state_by ours line n) (held_after line n) (line n) v (h n (omega arith)))

-- a sheet that passes has as many rows as starts
pub row-for-each : (s : List ℕ) → (answered s).reason ≡ 0 → length (rows_of s) ≡ length (starts_of (sheet_of s))
row-for-each s h = rows-starts (lines_of s) (starts_of (sheet_of s)) (line_count s - 1) (is_passed s 4096 h).kept
