-- What the tests of a line say, as a grammar; and that a sheet has a line of each number up to its count, and no other. Assumes nothing.
use Prim.Native.Nat.{ℕ, zero, suc, ◌+◌, ◌-◌, ◌<◌, ◌≤◌}
use native.Mathlib.Numerals.{add-one}
use native.Mathlib.Omega.{arith}
use mathlib.Core.Path.{◌≡◌, refl, sym, ap, ◌∙◌, subst}
use mathlib.Core.List.{List, [], ◌∷◌}
use mathlib.Core.Bool.{Bool, true, false, ◌&&◌, ◌||◌, cond}
use lib.ListN.{length, get_or, take, drop, length-drop}
use lib.Dec.{leb, eqb}
use borrow.Author.Tests.{eqb-true, leb-true, le-leb}
use Rattle.laws.proofs.BoolLaws.{never}
use Rattle.laws.proofs.TestLaws.{bit_le}
use Rattle.tokens.specs.Text.{tab, lf}
use Rattle.lines.specs.Sheet.{text_of, rest, after, count_from, line_count, warp_byte, warp_of, laid_out, Content, fault, laid, content_of, content_after, headed, body_at, line_at, After, content_seen}
use Rattle.std.specs.Prelude.{Option, None, Some}
use Rattle.lines.specs.declared.Line.{Line}
use Rattle.lines.specs.Written.{Written}
use Rattle.lines.proofs.LineLaws.{count_line, count_none}
use Rattle.lines.proofs.LayoutLaws.{laid_parts}
use Rattle.lines.proofs.HeaderLaws.{header-inside, header-after, header-counted}
use Rattle.lines.proofs.SheetLaws.{line_seen_lem, line_inside, line_next, line_after, line_counted}

-- ---- a line

abbrev is_laid : Content → Bool
is_laid fault = false
is_laid (laid w t) = true

abbrev warp_in : Content → ℕ
warp_in fault = 0
warp_in (laid w t) = w

abbrev statement_in : Content → List ℕ
statement_in fault = []
statement_in (laid w t) = t

-- the text of a line that is laid out: its mark, a tab, its statement
text_by : (t : List ℕ) → warp_byte (get_or t 0 0) ≡ true → eqb (get_or t 1 0) tab ≡ true → t ≡ get_or t 0 0 ∷ (tab ∷ drop 2 t)
unfolding warp_byte
text_by [] a b = never a
text_by (x ∷ []) a b = never b
text_by (x ∷ (y ∷ t)) a b = ap (λ (z : ℕ). x ∷ (z ∷ t)) (eqb-true y tab b)

laid-written : (l : List ℕ) → laid_out l ≡ true → Written l (warp_of (get_or (text_of l) 0 0)) (drop 2 (text_of l))
laid-written l h =
    let a = laid_parts l h in
    record { mark = get_or (text_of l) 0 0; line = text_by (text_of l) a.0 a.1; marks = a.0; names = refl; shown = a.2; ended = a.3; short = a.4 }

written_by_lem : (l : List ℕ) (b : Bool) (w : ℕ) (t : List ℕ) → laid_out l ≡ b
    → cond b (laid (warp_of (get_or (text_of l) 0 0)) (drop 2 (text_of l))) fault ≡ laid w t → Written l w t
written_by_lem l true w t h e =
    let p : warp_of (get_or (text_of l) 0 0) ≡ w = ap warp_in e in
    let q : drop 2 (text_of l) ≡ t = ap statement_in e in
    subst (λ (u : List ℕ). Written l w u) q (subst (λ (v : ℕ). Written l v (drop 2 (text_of l))) p (laid-written l h))
written_by_lem l false w t h e = never (ap is_laid e)

-- a line that is read with a warp and a statement is written so
pub read_written : (l : List ℕ) (w : ℕ) (t : List ℕ) → content_of l ≡ laid w t → Written l w t
unfolding content_of
read_written l w t e = written_by_lem l (laid_out l) w t refl e

-- a line that is written so is read so
pub written_read : (l : List ℕ) (w : ℕ) (t : List ℕ) → Written l w t → content_of l ≡ laid w t
unfolding content_of laid_out
written_read l w t k =
    let e : leb (suc (suc (length t))) 2048 ≡ true = le-leb (suc (suc (length t))) 2048 (omega (arith, ap length k.line, k.short)) in
    rw (k.line, k.marks, k.shown, k.ended, e, k.names)

below_by : (x : ℕ) (a b d : Bool) → leb x 51 ≡ b → eqb x 42 ≡ d → (a && b || d) ≡ true → cond d 0 (x - 48) ≤ 3
below_by x a b true p q h = omega arith
below_by x true true false p q h = omega (arith, leb-true x 51 p)
below_by x true false false p q h = never h
below_by x false b false p q h = never h

-- a warp is 0 to 3
pub warp_below : (x : ℕ) → warp_byte x ≡ true → warp_of x ≤ 3
unfolding warp_byte warp_of
warp_below x h = below_by x (leb 48 x) (leb x 51) (eqb x 42) refl refl h

-- ---- the lines of a sheet

-- there is a line of each number up to the count
pub line_there : (k : ℕ) (l : List ℕ) → k < line_count l → 0 < length (after k l)
unfolding after
line_there zero [] h = absurd (let z : line_count [] ≡ 0 = count_none [] refl in omega arith)
line_there zero (x ∷ l) h = omega arith
line_there (suc k) [] h = absurd (let z : line_count [] ≡ 0 = count_none [] refl in omega arith)
line_there (suc k) (x ∷ l) h = line_there k (rest (x ∷ l)) (let z : line_count (x ∷ l) ≡ suc (line_count (rest (x ∷ l))) = count_line (x ∷ l) (omega arith) in omega arith)

-- and no other: after all the lines nothing is left
pub after-all : (n : ℕ) (l : List ℕ) → line_count l ≡ n → after n l ≡ []
unfolding after
after-all zero [] e = refl
after-all zero (x ∷ l) e = absurd (omega (arith, count_line (x ∷ l) (omega arith)))
after-all (suc n) [] e = absurd (let z : 0 ≡ suc n = (sym (count_none [] refl) ∙ e) in omega arith)
after-all (suc n) (x ∷ l) e = after-all n (rest (x ∷ l)) (omega (arith, count_line (x ∷ l) (omega arith)))

-- at most one line for each byte
count_from_le : (b : Bool) (l : List ℕ) → count_from b l ≤ length l
unfolding count_from
count_from_le b [] = omega arith
count_from_le b (x ∷ l) = omega (arith, count_from_le (eqb x lf) l, bit_le b)

pub count-le : (l : List ℕ) → line_count l ≤ length l
unfolding line_count
count-le l = count_from_le true l

-- ---- a step of a loop over the lines

-- after the header one line is done
pub after-header : (s : List ℕ) → headed s ≡ true → After s 1 body_at
after-header s h = record { inside = header-inside s h; here = header-after s h; counted = omega (arith, header-counted s h) }

module _ (s : List ℕ) (k at : ℕ) (p : After s k at) where
  -- before the end there is one line more
  pub one_more : at < length s → k < line_count s
  one_more h = omega (arith, p.counted, count_line (drop at s) (omega (arith, length-drop at s)))

  -- at the end all lines are done
  pub all_done : length s ≤ at → k ≡ line_count s
  all_done h = omega (arith, p.counted, count_none (drop at s) (omega (arith, length-drop at s)))

  content_is : (o : Option Line) → o ≡ line_at s at → content_after k s ≡ content_seen s o
  content_is o e = sym (ap (content_seen s) e ∙ (line_seen_lem s at ∙ ap content_of p.here))

  -- where no line is found there is a layout fault
  pub step_fault : None ≡ line_at s at → content_after k s ≡ fault
  step_fault e = content_is None e

  module _ (r : Line) (e : Some r ≡ line_at s at) where
    -- a line is its warp and the bytes of its statement
    pub step_laid : content_after k s ≡ laid r.warp (take (r.end - r.start) (drop r.start s))
    step_laid = content_is (Some r) e

    pub step_warp : r.warp ≤ 3
    step_warp =
        let w = read_written (after k s) r.warp (take (r.end - r.start) (drop r.start s)) step_laid in
        omega (arith, w.names, warp_below w.mark w.marks)

    -- its statement is a part of the sheet, of at most 2,046 bytes
    pub step_part : (r.start ≤ r.end) × (r.end ≤ length s) × (r.end ≤ r.start + 2046)
    step_part =
        let a = line_inside s at r e in
        (a.0, omega (arith, a.2, line_next s at r e), a.1)

    -- the next line starts further on, and one line more is done
    pub step_more : at < r.next
    step_more = (line_inside s at r e).3

    pub step_after : After s (k + 1) r.next
    step_after = record {
      inside = (line_inside s at r e).2;
      here = rw add-one (line_after s at r e k p.here);
      counted = omega (arith, p.counted, line_counted s at r e);
    }
