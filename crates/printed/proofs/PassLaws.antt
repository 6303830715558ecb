-- A sheet that passes: no line of it has a layout fault, and its starts and columns are at most 512. So the report of any sheet has room in
-- 102,391 bytes: on a pass the first line has at most 32, and there are at most 4,094 rows of 25, since the last line is exit. Assumes nothing.
use Prim.Native.Nat.{ℕ, zero, suc, ◌+◌, ◌-◌, ◌*◌, ◌<◌, ◌≤◌}
use native.Mathlib.Omega.{arith}
use mathlib.Core.Path.{◌≡◌, refl, sym, ap, ◌∙◌, subst}
use mathlib.Core.List.{List, [], ◌∷◌, ◌++◌, append-nil}
use mathlib.Core.Bool.{Bool, true, false, cond}
use mathlib.Core.Option.{Option, none, some}
use mathlib.Core.Logic.{inl}
use lib.ListN.{length, get_or, drop, replicate, length-append, length-replicate, get_or-append, get_or-eq_default}
use lib.Seq.{sets, sets-eq, get_or-append-add, get_or-drop}
use lib.Count.{ones}
use lib.Dec.{eqb, leb, ltb}
use borrow.Author.Tests.{leb-true, ltb-true, ltb-false, eqb-true, eqb-false, eq-eqb, ne_eqb}
use Rattle.laws.proofs.BoolLaws.{never, or_neither}
use Rattle.laws.proofs.TestLaws.{each}
use Rattle.tokens.specs.Numbers.{decimal}
use Rattle.request.specs.Request.{legal}
use Rattle.statement.specs.Views.{Ask, Act, request_in, request_of, of}
use Rattle.lines.specs.Sheet.{Content, fault, content_after, line_count, headed, oversize}
use Rattle.rules.specs.declared.Answer.{Answer}
use Rattle.rules.specs.State.{State, Allocation, slot, lowest}
use Rattle.rules.specs.Sheet.{Line, act_in, ours, given, start_list, held_after, state_by, starts_by, rules_by, line_rules, answer, answer_of, starts_of, places_after}
use Rattle.rules.specs.Claims.{AllKept, Passed, exits}
use Rattle.statement.proofs.Each.{exit-only}
use Rattle.rules.proofs.RuleLaws.{accepted_line, request-kept}
use Rattle.rules.proofs.RulesProved.{Clear, rules_exact, passing_clear, clear_passed, passed_figures}
use Rattle.rules.proofs.FiguresProved.{figures_exact}
use Rattle.progress.specs.Going.{seen}
use Rattle.judge.specs.Judged.{lines_of, sheet_of, judged_of, starts_after}
use Rattle.report.specs.Report.{Reported, head_text, rows_text, report_text, report_room}
use Rattle.report.specs.Fields.{field_text}
use Rattle.tokens.proofs.Lengths.{decimal_short}
use Rattle.report.proofs.ReportLaws.{head_is}
use Rattle.report.proofs.Bounds.{Small, rows_short, decimal-below}
use Rattle.printed.specs.Printed.{row_of, rows_up_to, rows_of, answered, report_of}
use Rattle.printed.proofs.RowLaws.{rows-count}

-- ---- what a pass says

judged_by : (b : Bool) (a : Answer) → (cond b (answer 1 0 0 0 0) a).reason ≡ 0 → b ≡ false
judged_by true a e = absurd (omega (arith, e))
judged_by false a e = refl

module _ (s : List ℕ) (room : ℕ) (h : (judged_of s room).reason ≡ 0) where
  pub not-large : oversize s ≡ false
  unfolding judged_of
  not-large = judged_by (oversize s) (answer_of (sheet_of s) room) h

  pub lines_most : line_count s ≤ 4096
  unfolding oversize
  lines_most = ltb-false 4096 (line_count s) (or_neither (ltb 65536 (length s)) (ltb 4096 (line_count s)) not-large).1

  judged-is : judged_of s room ≡ answer_of (sheet_of s) room
  unfolding judged_of
  judged-is = ap (λ (b : Bool). cond b (answer 1 0 0 0 0) (answer_of (sheet_of s) room)) not-large

  passes : (answer_of (sheet_of s) room).reason ≡ 0
  passes = ap (λ (a : Answer). a.reason) (sym judged-is) ∙ h

  clear : Clear ours (sheet_of s)
  clear = passing_clear ours (sheet_of s) room (inl passes)

  pub is_passed : Passed ours (sheet_of s)
  is_passed = clear_passed ours (sheet_of s) clear

  pub is-headed : headed s ≡ true
  is-headed = is_passed.header

  -- no line has a layout fault
  pub no_fault : (k : ℕ) → k < line_count s - 1 → content_after (suc k) s ≡ fault → ⊥
  unfolding lines_of
  no_fault k i e =
      let z : AllKept (line_rules lowest (state_by ours (lines_of s) k) (held_after (lines_of s) k) (seen fault)) = subst (λ (x : Content). AllKept (line_rules lowest (state_by ours (lines_of s) k) (held_after (lines_of s) k) (seen x))) e (is_passed.kept k i) in
      never z.0

  -- the last line is named, with column 0, and nothing is held
  pub line_is : (judged_of s room).line ≡ suc (line_count s - 1)
  line_is = ap (λ (a : Answer). a.line) judged-is ∙ (passed_figures ours (sheet_of s) room clear).0

  pub column_is : (judged_of s room).column ≡ 0
  column_is = ap (λ (a : Answer). a.column) judged-is ∙ ((rules_exact ours (sheet_of s) room).last passes).1

  pub held_is : (judged_of s room).held ≡ 0
  held_is = ap (λ (a : Answer). a.held) judged-is ∙ (passed_figures ours (sheet_of s) room clear).1

  pub starts_fit : length (starts_of (sheet_of s)) ≤ room
  starts_fit = (figures_exact ours (sheet_of s) room).roomy passes

-- the lent list afterwards
pub starts_left : (s old : List ℕ) → (judged_of s (length old)).reason ≡ 0 → starts_after s old ≡ sets old 0 (starts_of (sheet_of s))
unfolding starts_after places_after
starts_left s old h =
    let e : eqb (answer_of (sheet_of s) (length old)).reason 0 ≡ true = eq-eqb _ 0 (passes s (length old) h) in
    rw (not-large s (length old) h, e)

-- ---- the same rows from a lent list of zeros

abbrev pub zeros : ℕ → List ℕ
zeros n = replicate n 0

zero-at : (n i : ℕ) → ◌≡◌ {A = ℕ} (get_or (zeros n) i 0) 0
zero-at zero i = refl
zero-at (suc n) zero = refl
zero-at (suc n) (suc i) = zero-at n i

over_zeros : (n : ℕ) (l : List ℕ) (i : ℕ) → length l ≤ n → get_or (sets (zeros n) 0 l) i 0 ≡ get_or l i 0
over_zeros n l i h = ap (λ (m : List ℕ). get_or m i 0) (sets-eq l (zeros n) 0 (omega (arith, h, length-replicate {A = ℕ} n 0))) ∙ by (ltb i (length l)) refl
  where
    by : (b : Bool) → ltb i (length l) ≡ b → get_or (l ++ drop (0 + length l) (zeros n)) i 0 ≡ get_or l i 0
    by true e = get_or-append l (drop (0 + length l) (zeros n)) 0 i (ltb-true i (length l) e)
    by false e =
        let k : length l ≤ i = ltb-false i (length l) e in
        let j : i ≡ length l + (i - length l) = omega (arith, k) in
        ap (λ (m : ℕ). get_or (l ++ drop (0 + length l) (zeros n)) m 0) j
        ∙ (get_or-append-add l (drop (0 + length l) (zeros n)) (i - length l) 0
        ∙ (get_or-drop (0 + length l) (zeros n) (i - length l) 0
        ∙ (zero-at n (0 + length l + (i - length l)) ∙ sym (get_or-eq_default l 0 k))))

rows_same : (line : ℕ → Line) (a b : List ℕ) → ((i : ℕ) → get_or a i 0 ≡ get_or b i 0) → (k : ℕ) → rows_up_to line a k ≡ rows_up_to line b k
unfolding rows_up_to
rows_same line a b e zero = refl
rows_same line a b e (suc k) =
    let r = rows_same line a b e k in
    rw (r, e (length (rows_up_to line b k)))

pub rows_from_zeros : (line : ℕ → Line) (n : ℕ) (l : List ℕ) (k : ℕ) → length l ≤ n → rows_up_to line (sets (zeros n) 0 l) k ≡ rows_up_to line l k
rows_from_zeros line n l k h = rows_same line (sets (zeros n) 0 l) l (λ i. over_zeros n l i h) k

-- ---- starts and columns are below 1,000

abbrev Low : List ℕ → Type 0
Low [] = Unit {0}
Low (x ∷ l) = (x < 512) × Low l

low_append : (l m : List ℕ) → Low l → Low m → Low (l ++ m)
low_append [] m p q = q
low_append (x ∷ l) m p q = (p.0, low_append l m p.1 q)

low_at : (l : List ℕ) (i : ℕ) → Low l → get_or l i 0 < 512
low_at [] i h = omega arith
low_at (x ∷ l) zero h = h.0
low_at (x ∷ l) (suc i) h = low_at l i h.1

low_start : (l : List Allocation) (v : ℕ) → Low (start_list (lowest l v))
unfolding lowest
low_start l v = by (ltb (slot l v) 16) refl
  where
    by : (b : Bool) → ltb (slot l v) 16 ≡ b → Low (start_list (cond b (some (slot l v * 32)) none))
    by true e = (omega (arith, ltb-true (slot l v) 16 e), tt)
    by false e = tt

low_given : (s : State) (x : Line) → Low (given lowest s x)
unfolding given
low_given s x = by (request_in (act_in x))
  where
    by : (o : Option Ask) → Low (of o (λ r. start_list (lowest s.live r.columns)) [])
    by none = tt
    by (some r) = low_start s.live r.columns

pub starts_low : (line : ℕ → Line) (k : ℕ) → Low (starts_by ours line k)
unfolding starts_by
starts_low line zero = tt
starts_low line (suc k) = low_append (starts_by ours line k) (given lowest (state_by ours line k) (line k)) (starts_low line k) (low_given (state_by ours line k) (line k))

legal_most : (v : ℕ) → legal v ≡ true → v ≤ 512
legal_most v h =
    let t : (leb 32 v ≡ true) × ((leb v 512 ≡ true) × ((eqb (ones v) 1 ≡ true) × Unit)) = each (leb 32 v ∷ leb v 512 ∷ eqb (ones v) 1 ∷ []) h in
    leb-true v 512 t.1.0

-- the row of a line that is accepted
small_row : (s : State) (held : ℕ) (x : Line) (v : ℕ) → v < 512 → AllKept (line_rules lowest s held x) → Small (row_of x v)
unfolding row_of
small_row s held x v h k = accepted_line lowest s held x k (λ x. Small (row_of x v)) (λ w t p a. by (request_of t) (λ r e. (request-kept lowest s held w t a r e).0))
  where
    by : (o : Option Ask) → ((r : Ask) → o ≡ some r → legal r.columns ≡ true) → Small (of o (λ r. record { name = r.name; start = v; columns = r.columns } ∷ []) [])
    by none f = tt
    by (some r) f = ((omega (arith, h), omega (arith, legal_most r.columns (f r refl))), tt)

small_append : (l m : List Reported) → Small l → Small m → Small (l ++ m)
small_append [] m p q = q
small_append (a ∷ l) m p q = (p.0, small_append l m p.1 q)

small_rows : (line : ℕ → Line) (starts : List ℕ) → Low starts → (n : ℕ) → ((k : ℕ) → k < n → AllKept (rules_by ours line k)) → Small (rows_up_to line starts n)
unfolding rows_up_to
small_rows line starts l zero h = tt
small_rows line starts l (suc n) h =
    let v = get_or starts (length (rows_up_to line starts n)) 0 in
    small_append (rows_up_to line starts n) (row_of (line n) v) (small_rows line starts l n (λ k i. h k (omega (arith, i)))) (small_row (state_by ours line n) (held_after line n) (line n) v (low_at starts (length (rows_up_to line starts n)) l) (h n (omega arith)))

-- ---- exit has no row

exit-row : (x : Line) (v : ℕ) → exits x ≡ true → row_of x v ≡ []
unfolding row_of
exit-row x v e = ap (λ (a : Act). of {B = List Reported} (request_in a) (λ r. record { name = r.name; start = v; columns = r.columns } ∷ []) []) (exit-only (act_in x) e)

last_row : (line : ℕ → Line) (starts : List ℕ) (m : ℕ) → exits (line m) ≡ true → length (rows_up_to line starts (suc m)) ≤ m
unfolding rows_up_to
last_row line starts m e =
    let v = get_or starts (length (rows_up_to line starts m)) 0 in
    omega (arith, ap length (ap (λ (r : List Reported). rows_up_to line starts m ++ r) (exit-row (line m) v e) ∙ append-nil (rows_up_to line starts m)), rows-count line starts m)

-- ---- how long a report is

field_length : (v mark : ℕ) → length (field_text v mark) ≡ length (decimal v) + 1
unfolding field_text
field_length v mark = length-append (decimal v) (mark ∷ [])

head_length : (r l c h p : ℕ) → length (head_text r l c h p) ≡ length (decimal r) + length (decimal l) + length (decimal c) + (length (decimal h) + length (decimal p)) + 5
head_length r l c h p =
    omega (
      arith,
      ap length (head_is r l c h p),
      length-append (((field_text r 9 ++ field_text l 9) ++ field_text c 9) ++ field_text h 9) (field_text p 10),
      length-append ((field_text r 9 ++ field_text l 9) ++ field_text c 9) (field_text h 9),
      length-append (field_text r 9 ++ field_text l 9) (field_text c 9),
      length-append (field_text r 9) (field_text l 9),
      field_length r 9,
      field_length l 9,
      field_length c 9,
      field_length h 9,
      field_length p 10,
    )

-- any first line
pub head_any : (r l c h p : ℕ) → length (head_text r l c h p) ≤ 105
head_any r l c h p = omega (arith, head_length r l c h p, decimal_short r, decimal_short l, decimal_short c, decimal_short h, decimal_short p)

-- the first line of a pass
head_passed : (r l c h p : ℕ) → r ≡ 0 → l < 10000 → c ≡ 0 → h ≡ 0 → length (head_text r l c h p) ≤ 32
head_passed r l c h p a b d e =
    omega (
      arith,
      head_length r l c h p,
      decimal-below 1 r (omega arith) (omega (arith, a)),
      decimal-below 4 l (omega arith) b,
      decimal-below 1 c (omega arith) (omega (arith, d)),
      decimal-below 1 h (omega arith) (omega (arith, e)),
      decimal_short p,
    )

abbrev pub head_of : List ℕ → List ℕ
head_of s = head_text (answered s).reason (answered s).line (answered s).column (answered s).held (answered s).peak

-- the report of a refused sheet is its first line
pub report_refused : (s : List ℕ) → ((answered s).reason ≡ 0 → ⊥) → report_of s ≡ head_text (answered s).reason (answered s).line (answered s).column (answered s).held (answered s).peak
unfolding report_of report_text
report_refused s h =
    ap (λ (b : Bool). head_of s ++ cond b (rows_text (rows_of s)) []) (ne_eqb (answered s).reason 0 h) ∙ append-nil (head_of s)

-- that of a sheet that passes has the rows after it
pub report_passed : (s : List ℕ) → (answered s).reason ≡ 0 → report_of s ≡ head_text (answered s).reason (answered s).line (answered s).column (answered s).held (answered s).peak ++ rows_text (rows_of s)
unfolding report_of report_text
report_passed s h = ap (λ (b : Bool). head_of s ++ cond b (rows_text (rows_of s)) []) (eq-eqb (answered s).reason 0 h)

rows_most : (s : List ℕ) → (answered s).reason ≡ 0 → length (rows_text (rows_of s)) ≤ 102350
rows_most s h =
    let p = is_passed s 4096 h in
    let n : length (rows_of s) ≤ p.last = subst (λ (m : ℕ). length (rows_up_to (lines_of s) (starts_of (sheet_of s)) m) ≤ p.last) p.is_last (last_row (lines_of s) (starts_of (sheet_of s)) p.last p.ends) in
    omega (arith, n, p.is_last, lines_most s 4096 h, rows_short (rows_of s) (small_rows (lines_of s) (starts_of (sheet_of s)) (starts_low (lines_of s) (line_count s - 1)) (line_count s - 1) p.kept))

fits_by : (b : Bool) (s : List ℕ) → eqb (answered s).reason 0 ≡ b → length (report_of s) ≤ report_room
fits_by true s e =
    let z = eqb-true (answered s).reason 0 e in
    omega (arith, ap length (report_passed s z), length-append (head_of s) (rows_text (rows_of s)), head_passed (answered s).reason (answered s).line (answered s).column (answered s).held (answered s).peak z (omega (arith, line_is s 4096 z, lines_most s 4096 z)) (column_is s 4096 z) (held_is s 4096 z), rows_most s z)
fits_by false s e =
    omega (arith, ap length (report_refused s (eqb-false (answered s).reason 0 e)), head_any (answered s).reason (answered s).line (answered s).column (answered s).held (answered s).peak)

-- no report needs more than 102,391 bytes
pub report_fits : (s : List ℕ) → length (report_of s) ≤ report_room
report_fits s = fits_by (eqb (answered s).reason 0) s refl
