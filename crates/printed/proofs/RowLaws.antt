-- Rows, line by line: a loop over the lines puts the row of each alloc after those before it. Assumes nothing.
use Prim.Native.Nat.{ℕ, zero, suc, ◌+◌, ◌-◌, ◌<◌, ◌≤◌}
use native.Mathlib.Numerals.{add-one}
use native.Mathlib.Omega.{arith}
use native.Mathlib.Nat.{add-zero}
use mathlib.Core.Path.{◌≡◌, refl, sym, ap, ◌∙◌, subst}
use mathlib.Core.List.{List, [], ◌∷◌, ◌++◌, append_assoc, append-nil}
use mathlib.Core.Bool.{Bool, true, false}
use mathlib.Core.Option as math
use lib.ListN.{length, get_or, take, drop, length-append}
use lib.Seq.{sets, length-sets}
use lib.Dec.{leb}
use borrow.Author.Tests.{leb-true, leb-false}
use types.Run.{OneOf}
use denote.Enum.Declared.{tag_of}
use Rattle.statement.specs.contracts.Statement.{enum, the_type}
use Rattle.statement.specs.Reading.{Reading, read_of}
use Rattle.statement.specs.declared.Misread.TheVariants.{NoForm, TooLarge}
use Rattle.std.specs.Prelude.{Option, Some, None, Ok, Err}
use Rattle.tokens.specs.declared.Name.{Name}
use Rattle.statement.specs.declared.Statement.{Statement}
use Rattle.statement.specs.declared.Statement.TheVariants.{Alloc}
use Rattle.statement.specs.Views.{Ask, request_in, request_of, of}
use Rattle.statement.proofs.Variants.{all_but, at_each}
use Rattle.lines.specs.Sheet.{Content, laid, content_after, line_count, line_at, headed, body_at, After}
use Rattle.lines.specs.declared.Line as found
use Rattle.lines.proofs.SheetTheorems.{after-header, one_more, all_done, step_laid, step_more, step_after}
use Rattle.rules.specs.Sheet.{Line, act_in, line_of}
use Rattle.progress.specs.Going.{seen}
use Rattle.judge.specs.Judged.{lines_of}
use Rattle.report.specs.Report.{Reported, row_text, rows_text, put_text, put_end}
use Rattle.laws.proofs.StoreLaws.{sets-append}
use Rattle.report.proofs.ReportLaws.{put_fits}
use Rattle.printed.specs.declared.Asked.{Asked}
use Rattle.printed.specs.Allocs.{alloc_of, alloc_in}
use Rattle.printed.specs.Printed.{row_of, rows_up_to}

-- ---- the row of a line

-- the row of what an alloc asks for
abbrev pub row_by : Option Asked → ℕ → List Reported
row_by None start = []
row_by (Some a) start = record { name = a.name; start = start; columns = a.columns } ∷ []

-- every statement but an alloc (2), by its place in the declaration, asks for nothing
abbrev pub others : List ℕ
others = all_but enum (2 ∷ [])

alloc_other : (t : Statement) → OneOf others (tag_of the_type t) → None ≡ alloc_of t
unfolding alloc_of
alloc_other t h = at_each enum (λ t. None ≡ alloc_of t) others t h (search depth 32)

-- of a text that was read
pub alloc_is : (text : List ℕ) (t : Statement) → read_of text ≡ Ok t → (name : Name) (columns : ℕ) → t ≡ Alloc name columns → Some (record { name = name; columns = columns }) ≡ alloc_in (read_of text)
unfolding alloc_of
alloc_is text t e name columns f = rw (e, f)

pub alloc_not : (text : List ℕ) (t : Statement) → read_of text ≡ Ok t → OneOf others (tag_of the_type t) → None ≡ alloc_in (read_of text)
alloc_not text t e h = rw e (alloc_other t h)

row_by_lem : (o : math.Option Ask) (x : ℕ)
    → of o (λ r. record { name = r.name; start = x; columns = r.columns } ∷ []) [] ≡ row_by (of o (λ r. Some (record { name = r.name; columns = r.columns })) None) x
row_by_lem math.none x = refl
row_by_lem (math.some r) x = refl

line_row : (w : ℕ) (r : Reading) (x : ℕ) → row_of (line_of w r) x ≡ row_by (alloc_in r) x
unfolding row_of alloc_of
line_row w (Ok t) x = row_by_lem (request_of t) x
line_row w (Err (NoForm at)) x = refl
line_row w (Err (TooLarge at)) x = refl

-- the row of a line by its content
content_row : (s : List ℕ) (k w : ℕ) (t : List ℕ) (x : ℕ) → content_after (suc k) s ≡ laid w t → row_of (lines_of s k) x ≡ row_by (alloc_in (read_of t)) x
unfolding lines_of
content_row s k w t x e = ap (λ (c : Content). row_of (seen c) x) e ∙ line_row w (read_of t) x

-- ---- rows of more lines

pub rows_append : (l m : List Reported) → rows_text (l ++ m) ≡ rows_text l ++ rows_text m
unfolding rows_text
rows_append [] m = refl
rows_append (a ∷ l) m = ap (λ (t : List ℕ). row_text a.name a.start a.columns ++ t) (rows_append l m) ∙ sym (append_assoc (row_text a.name a.start a.columns) (rows_text l) (rows_text m))

one-row : (a : Reported) → rows_text (a ∷ []) ≡ row_text a.name a.start a.columns
unfolding rows_text
one-row a = append-nil (row_text a.name a.start a.columns)

few_by : (o : math.Option Ask) (x : ℕ) → length {A = Reported} (of o (λ r. record { name = r.name; start = x; columns = r.columns } ∷ []) []) ≤ 1
few_by math.none x = omega arith
few_by (math.some r) x = omega arith

row-le : (x : Line) (v : ℕ) → length (row_of x v) ≤ 1
unfolding row_of
row-le x v = few_by (request_in (act_in x)) v

module _ (line : ℕ → Line) (starts : List ℕ) where
  abbrev up_to : ℕ → List Reported
  up_to k = rows_up_to line starts k

  -- at most one row for each line
  pub rows-count : (k : ℕ) → length (up_to k) ≤ k
  unfolding rows_up_to
  rows-count zero = omega arith
  rows-count (suc k) =
      let r = row_of (line k) (get_or starts (length (up_to k)) 0) in
      omega (arith, length-append (up_to k) r, rows-count k, row-le (line k) (get_or starts (length (up_to k)) 0))

  -- the text grows
  text_more : (k : ℕ) → length (rows_text (up_to k)) ≤ length (rows_text (up_to (suc k)))
  unfolding rows_up_to
  text_more k =
      let r = row_of (line k) (get_or starts (length (up_to k)) 0) in
      omega (arith, ap length (rows_append (up_to k) r), length-append (rows_text (up_to k)) (rows_text r))

  text_by : (b : Bool) (k n : ℕ) → leb k n ≡ b → k ≤ suc n → (k ≤ n → length (rows_text (up_to k)) ≤ length (rows_text (up_to n))) → length (rows_text (up_to k)) ≤ length (rows_text (up_to (suc n)))
  text_by true k n e h f = omega (arith, f (leb-true k n e), text_more n)
  text_by false k n e h f = let z : k ≡ suc n = omega (arith, leb-false k n e) in rw z (omega arith)

  pub text_grows : (n k : ℕ) → k ≤ n → length (rows_text (up_to k)) ≤ length (rows_text (up_to n))
  text_grows zero k h = let z : k ≡ 0 = omega arith in rw z (omega arith)
  text_grows (suc n) k h = text_by (leb k n) k n refl h (text_grows n k)

  -- a line without a row
  upto_skip : (k : ℕ) → ((x : ℕ) → row_of (line k) x ≡ []) → up_to (suc k) ≡ up_to k
  unfolding rows_up_to
  upto_skip k e = ap (λ (r : List Reported). up_to k ++ r) (e (get_or starts (length (up_to k)) 0)) ∙ append-nil (up_to k)

  -- a line with one
  upto-row : (k : ℕ) (a : Asked) → ((x : ℕ) → row_of (line k) x ≡ row_by (Some a) x)
      → up_to (suc k) ≡ up_to k ++ record { name = a.name; start = get_or starts (length (up_to k)) 0; columns = a.columns } ∷ []
  unfolding rows_up_to
  upto-row k a e = ap (λ (r : List Reported). up_to k ++ r) (e (get_or starts (length (up_to k)) 0))

-- ---- the loop over the lines

-- it stands at a place after line 1 and some lines more; their rows are put, and k of them
pub record Upto (s starts old : List ℕ) (from at next k : ℕ) (room : List ℕ) : Type 0 where
  pub lines : ℕ
  pub place : After s (suc lines) at
  pub rows : k ≡ length (rows_up_to (lines_of s) starts lines)
  pub ends : next ≡ from + length (rows_text (rows_up_to (lines_of s) starts lines))
  pub holds : room ≡ sets old from (rows_text (rows_up_to (lines_of s) starts lines))

pub upto_first : (s starts old : List ℕ) (from : ℕ) → headed s ≡ true → Upto s starts old from body_at from 0 old
unfolding rows_up_to rows_text
upto_first s starts old from h = record { lines = 0; place = after-header s h; rows = refl; ends = sym (add-zero from); holds = refl }

-- at the end all rows are put
pub upto_last : (s starts old : List ℕ) (from at next k : ℕ) (room : List ℕ) → Upto s starts old from at next k room → length s ≤ at
    → (next ≡ from + length (rows_text (rows_up_to (lines_of s) starts (line_count s - 1)))) × (room ≡ sets old from (rows_text (rows_up_to (lines_of s) starts (line_count s - 1))))
upto_last s starts old from at next k room u h =
    let z : u.lines ≡ line_count s - 1 = omega (arith, all_done s (suc u.lines) at u.place h) in
    subst (λ (n : ℕ). (next ≡ from + length (rows_text (rows_up_to (lines_of s) starts n))) × (room ≡ sets old from (rows_text (rows_up_to (lines_of s) starts n)))) z (u.ends, u.holds)

module _ (s starts old room : List ℕ) (from at next k : ℕ) (u : Upto s starts old from at next k room) where
  abbrev done : List Reported
  done = rows_up_to (lines_of s) starts u.lines

  pub lines_below : at < length s → u.lines < line_count s - 1
  lines_below h = omega (arith, one_more s (suc u.lines) at u.place h)

  module _ (r : found.Line) (e : Some r ≡ line_at s at) where
    next_place : After s (suc (suc u.lines)) r.next
    next_place = subst (λ (n : ℕ). After s n r.next) (add-one (suc u.lines)) (step_after s (suc u.lines) at u.place r e)

    -- the line is inside of the sheet, and the next one starts further on
    pub inside : (at < length s) × (at < r.next)
    inside = let m = step_more s (suc u.lines) at u.place r e in (omega (arith, m, next_place.inside), m)

    -- rows so far are fewer than the lines
    pub rows-below : k < line_count s - 1
    rows-below = omega (arith, u.rows, rows-count (lines_of s) starts u.lines, lines_below inside.0)

    module _ (o : Option Asked) (f : o ≡ alloc_in (read_of (take (r.end - r.start) (drop r.start s)))) where
      here : (p : Option Asked) → o ≡ p → (x : ℕ) → row_of (lines_of s u.lines) x ≡ row_by p x
      here p e₁ x =
          content_row s u.lines r.warp (take (r.end - r.start) (drop r.start s)) x (step_laid s (suc u.lines) at u.place r e)
          ∙ ap (λ (b : Option Asked). row_by b x) (sym f ∙ e₁)

      -- no alloc: nothing is put
      pub upto_other : o ≡ None → Upto s starts old from r.next next k room
      upto_other h =
          let z = upto_skip (lines_of s) starts u.lines (here None h) in
          record {
            lines = suc u.lines;
            place = next_place;
            rows = u.rows ∙ ap length (sym z);
            ends = u.ends ∙ ap (λ (l : List Reported). from + length (rows_text l)) (sym z);
            holds = u.holds ∙ ap (λ (l : List Reported). sets old from (rows_text l)) (sym z);
          }

      -- an alloc: its row is put, where all rows have room
      module _ (a : Asked) (h : o ≡ Some a) (start columns : ℕ) (g : start ≡ get_or starts k 0) (i : columns ≡ a.columns) (next' : ℕ) (room' : List ℕ)
          (p : next' ≡ put_end (length room) next (row_text a.name start columns)) (q : room' ≡ put_text room next (row_text a.name start columns))
          (fits : from + length (rows_text (rows_up_to (lines_of s) starts (line_count s - 1))) ≤ length old) where
        abbrev row : List ℕ
        row = row_text a.name start columns

        text : rows_text (rows_up_to (lines_of s) starts (suc u.lines)) ≡ rows_text done ++ row
        text =
            let v : start ≡ get_or starts (length done) 0 = g ∙ ap (λ (n : ℕ). get_or starts n 0) u.rows in
            ap rows_text (upto-row (lines_of s) starts u.lines a (here (Some a) h))
            ∙ rows_append done (record { name = a.name; start = get_or starts (length done) 0; columns = a.columns } ∷ [])
            ∙ ap (λ (t : List ℕ). rows_text done ++ t) (one-row (record { name = a.name; start = get_or starts (length done) 0; columns = a.columns }) ∙ (ap (λ (n : ℕ). row_text a.name n a.columns) (sym v) ∙ ap (λ (n : ℕ). row_text a.name start n) (sym i)))

        row_room : next + length row ≤ length room
        row_room =
            omega (arith, u.ends, ap length text, length-append (rows_text done) row, text_grows (lines_of s) starts (line_count s - 1) (suc u.lines) (lines_below inside.0), fits, ap length u.holds, length-sets old from (rows_text done))

        pub upto-alloc : Upto s starts old from r.next next' (k + 1) room'
        upto-alloc =
            let y = put_fits room next row row_room in
            record {
              lines = suc u.lines;
              place = next_place;
              rows = omega (arith, u.rows, ap length (upto-row (lines_of s) starts u.lines a (here (Some a) h)), length-append done (record { name = a.name; start = get_or starts (length done) 0; columns = a.columns } ∷ []));
              ends = omega (arith, p, y.0, u.ends, ap length text, length-append (rows_text done) row);
              holds = q ∙ y.1 ∙ rw (u.ends, u.holds, text) (sets-append old from (rows_text done) row);
            }
