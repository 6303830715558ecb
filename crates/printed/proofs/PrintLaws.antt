-- The report printed into a room: the first line is put from 0 on, and on a pass the rows after it. Assumes nothing.
use Prim.Native.Nat.{ℕ, ◌+◌, ◌-◌, ◌<◌, ◌≤◌}
use native.Mathlib.Omega.{arith}
use native.Mathlib.Nat.{zero-add}
use mathlib.Core.Logic.{inl, inr}
use mathlib.Core.Path.{◌≡◌, sym, ap, ◌∙◌}
use mathlib.Core.List.{List, ◌++◌}
use mathlib.Core.Bool.{true, false}
use lib.ListN.{length, length-append, length-replicate}
use lib.Seq.{sets, length-sets}
use lib.Dec.{leb}
use borrow.Author.Tests.{le-leb, lt-leb}
use Rattle.lines.specs.Sheet.{line_count}
use Rattle.rules.specs.declared.Answer.{Answer}
use Rattle.rules.specs.Sheet.{starts_of}
use Rattle.rules.specs.Claims.{Passing}
use Rattle.judge.specs.Judged.{lines_of, sheet_of, judged_of, starts_after}
use Rattle.report.specs.Report.{Reported, head_text, rows_text, put_text, put_end, report_room}
use Rattle.laws.proofs.StoreLaws.{sets-append}
use Rattle.report.proofs.ReportLaws.{put_fits}
use Rattle.printed.specs.declared.Printed.{Printed}
use Rattle.printed.specs.Printed.{rows_up_to, rows_of, answered, report_of, printed_of, room_after}
use Rattle.printed.proofs.PassLaws.{zeros, head_of, head_any, report_refused, report_passed, report_fits, rows_from_zeros, starts_left, starts_fit}

-- what the contract says of an answer and of the room afterwards
abbrev pub Done : List ℕ → List ℕ → Printed → List ℕ → Type 0
Done s room r t = (r ≡ printed_of s (length room)) × ((t ≡ room_after s room) × (r.length ≤ report_room))

-- too short a room is left as it is
pub too_short : (s room : List ℕ) → length room < report_room → Done s room (record { reason = 19; length = 0 }) room
unfolding printed_of room_after
too_short s room h = let e : leb report_room (length room) ≡ false = lt-leb report_room (length room) h in (rw e, (rw e, omega arith))

-- the whole report was put
all_put : (s room t : List ℕ) (r n : ℕ) → report_room ≤ length room → r ≡ (answered s).reason → n ≡ length (report_of s) → t ≡ sets room 0 (report_of s)
    → Done s room (record { reason = r; length = n }) t
unfolding printed_of room_after
all_put s room t r n h a b c =
    let e : leb report_room (length room) ≡ true = le-leb report_room (length room) h in
    (rw (e, a, b), (rw (e, c), omega (arith, b, report_fits s)))

-- the answer a, and its numbers put as the first line
module _ (s room : List ℕ) (big : report_room ≤ length room) (n : ℕ) (c : n ≡ 4096) (a : Answer) (e : a ≡ judged_of s (length (zeros n))) (r l k h p : ℕ) (er : r ≡ a.reason) (el : l ≡ a.line) (ek : k ≡ a.column) (eh : h ≡ a.held) (ep : p ≡ a.peak)
    (at : ℕ) (t : List ℕ) (i : at ≡ put_end (length room) 0 (head_text r l k h p)) (j : t ≡ put_text room 0 (head_text r l k h p)) where
  answer-is : a ≡ answered s
  answer-is = e ∙ ap (judged_of s) (length-replicate {A = ℕ} n 0 ∙ c)

  reason_is : a.reason ≡ (answered s).reason
  reason_is = ap (λ (x : Answer). x.reason) answer-is

  head_is_put : head_text r l k h p ≡ head_of s
  head_is_put = rw (er, el, ek, eh, ep, answer-is)

  head_there : (at ≡ length (head_of s)) × (t ≡ sets room 0 (head_of s))
  head_there =
      let f : 0 + length (head_of s) ≤ length room = omega (arith, big, head_any (answered s).reason (answered s).line (answered s).column (answered s).held (answered s).peak) in
      let q = put_fits room 0 (head_of s) f in
      (i ∙ (ap (put_end (length room) 0) head_is_put ∙ (q.0 ∙ zero-add (length (head_of s)))), j ∙ (ap (put_text room 0) head_is_put ∙ q.1))

  pub refused_printed : (a.reason ≡ 0 → ⊥) → Done s room (record { reason = a.reason; length = at }) t
  refused_printed f =
      let q = report_refused s (λ x. f (reason_is ∙ x)) in
      all_put s room t a.reason at big reason_is (head_there.0 ∙ ap length (sym q)) (head_there.1 ∙ ap (sets room 0) (sym q))

  module _ (z : a.reason ≡ 0) (st : List ℕ) (es : st ≡ starts_after s (zeros n)) where
    passed_here : (answered s).reason ≡ 0
    passed_here = sym reason_is ∙ z

    rows_are : rows_up_to (lines_of s) st (line_count s - 1) ≡ rows_of s
    rows_are =
        let y : (judged_of s (length (zeros n))).reason ≡ 0 = ap (λ (x : Answer). x.reason) (sym e) ∙ z in
        ap (λ (x : List ℕ). rows_up_to (lines_of s) x (line_count s - 1)) (es ∙ starts_left s (zeros n) y)
        ∙ rows_from_zeros (lines_of s) n (starts_of (sheet_of s)) (line_count s - 1) (omega (arith, c, starts_fit s 4096 passed_here))

    whole : report_of s ≡ head_of s ++ rows_text (rows_up_to (lines_of s) st (line_count s - 1))
    whole = report_passed s passed_here ∙ ap (λ (x : List Reported). head_of s ++ rows_text x) (sym rows_are)

    -- what the rows need
    pub rows_ready : (((judged_of s 4096).reason ≡ 0) × (length st ≡ 4096)) × (at + length (rows_text (rows_up_to (lines_of s) st (line_count s - 1))) ≤ length t)
    rows_ready =
        let y : (judged_of s (length (zeros n))).reason ≡ 0 = ap (λ (x : Answer). x.reason) (sym e) ∙ z in (
          (passed_here, ap length (es ∙ starts_left s (zeros n) y) ∙ (length-sets (zeros n) 0 (starts_of (sheet_of s)) ∙ (length-replicate {A = ℕ} n 0 ∙ c))),
          omega (arith, head_there.0, ap length whole, length-append (head_of s) (rows_text (rows_up_to (lines_of s) st (line_count s - 1))), report_fits s, big, ap length head_there.1, length-sets room 0 (head_of s)),
        )

    pub passed_printed : (m : ℕ) (u : List ℕ) → m ≡ at + length (rows_text (rows_up_to (lines_of s) st (line_count s - 1))) → u ≡ sets t at (rows_text (rows_up_to (lines_of s) st (line_count s - 1)))
        → Done s room (record { reason = a.reason; length = m }) u
    passed_printed m u f g =
        let w = rows_text (rows_up_to (lines_of s) st (line_count s - 1)) in
        let b : sets t at w ≡ sets room 0 (head_of s ++ w) = rw (head_there.1, head_there.0, ← sets-append room 0 (head_of s) w, zero-add) in
        all_put s room u a.reason m big reason_is (omega (arith, f, head_there.0, ap length whole, length-append (head_of s) w)) (g ∙ (b ∙ ap (sets room 0) (sym whole)))

-- reason 19 passes no sheet
pub none_19 : (P : Type 0) → Passing 19 → P
none_19 P (inl e) = absurd (omega (arith, e))
none_19 P (inr e) = absurd (omega (arith, e))
