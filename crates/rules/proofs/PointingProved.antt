-- Every rule points as published and has its tests in the order of the text, by what a statement does; and the operands that tests name are those of the
-- forms. Assumes nothing.
use Prim.Native.Nat.{ℕ, zero, suc}
use mathlib.Core.Path.{◌≡◌, refl}
use mathlib.Core.Bool.{Bool, true, false, cond}
use mathlib.Core.List.{List, [], ◌∷◌, ◌++◌}
use lib.Dec.{leb, eqb}
use Rattle.laws.proofs.BoolLaws.{and_l, and_r, and-join}
use Rattle.statement.specs.declared.Mma.{Mma}
use Rattle.statement.specs.declared.Statement.{Statement}
use Rattle.statement.specs.Views as act
use Rattle.statement.specs.Views.{Act, act_of}
use Rattle.statement.specs.Canonical.{sparse}
use Rattle.statement.specs.Positions.{idesc_at}
use Rattle.rules.specs.State.{State, Placer}
use Rattle.rules.specs.Rows.{Row, row}
use Rattle.rules.specs.Reasons.{named, roomed, laned, warped, sized, permitted, placed, reads, m_listed, n_listed, types_listed, inside, waited, open_rows, closed_rows, rows}
use Rattle.rules.specs.Sheet.{Line, bad_layout, no_form, too_large, statement, line_rows, Sheet, Placing, state_by, held_after}
use Rattle.rules.specs.Claims.{has, pointing, published, rises, all_rise, OperandsNamed, own_rows, end_rows, Pointing}

-- ---- as published: the heads of rows have no variable
published-both : (xs ys : List Row) → published xs ≡ true → published ys ≡ true → published (xs ++ ys) ≡ true
published-both [] ys p q = q
published-both (row n sort tests ∷ xs) ys p q =
    and-join (has n sort pointing) (published (xs ++ ys)) (and_l (has n sort pointing) (published xs) p)
    (published-both xs ys (and_r (has n sort pointing) (published xs) p) q)

line_published : (place : Placer) (s : State) (held : ℕ) (x : Line) → published (line_rows place s held x) ≡ true
unfolding rows open_rows closed_rows
line_published place s held bad_layout = refl
line_published place s held no_form = refl
line_published place s held too_large = refl
line_published place s held (statement w t) = by s.exited
  where
    by : (b : Bool) → published (cond b (closed_rows t) (open_rows place s held w t)) ≡ true
    by true = refl
    by false = refl

-- ---- in the order of the text
rise_both : (xs ys : List Row) → all_rise xs ≡ true → all_rise ys ≡ true → all_rise (xs ++ ys) ≡ true
rise_both [] ys p q = q
rise_both (row n sort tests ∷ xs) ys p q =
    and-join (rises tests) (all_rise (xs ++ ys)) (and_l (rises tests) (all_rise xs) p) (rise_both xs ys (and_r (rises tests) (all_rise xs) p) q)

-- idesc stands after the metadata
idesc_after : (m : Mma) → leb 3 (idesc_at m) ≡ true
idesc_after m = by (sparse m.metadata)
  where
    by : (b : Bool) → leb 3 (cond b 4 3) ≡ true
    by true = refl
    by false = refl

idesc_after_b : (m : Mma) → leb 2 (idesc_at m) ≡ true
idesc_after_b m = by (sparse m.metadata)
  where
    by : (b : Bool) → leb 2 (cond b 4 3) ≡ true
    by true = refl
    by false = refl

open_rise : (place : Placer) (s : State) (held w : ℕ) (t : Statement) (a : Act) → act_of t ≡ a → all_rise (open_rows place s held w t) ≡ true
unfolding open_rows named roomed laned warped sized permitted placed reads m_listed n_listed types_listed inside waited
open_rise place s held w t (act.binds n width v) e = rw e
open_rise place s held w t (act.requests n k) e = rw e
open_rise place s held w t (act.releases n k) e = rw e
open_rise place s held w t act.relinquishes e = rw e
open_rise place s held w t (act.accesses x a) e = rw e
open_rise place s held w t (act.waits x) e = rw e
open_rise place s held w t (act.multiplies m) e = rw (e, idesc_after m, idesc_after_b m)
open_rise place s held w t act.exits e = rw e
open_rise place s held w t act.nothing e = rw e

line_rise : (place : Placer) (s : State) (held : ℕ) (x : Line) → all_rise (line_rows place s held x) ≡ true
unfolding rows closed_rows
line_rise place s held bad_layout = refl
line_rise place s held no_form = refl
line_rise place s held too_large = refl
line_rise place s held (statement w t) = by s.exited
  where
    by : (b : Bool) → all_rise (cond b (closed_rows t) (open_rows place s held w t)) ≡ true
    by true = refl
    by false = open_rise place s held w t (act_of t) refl

-- ---- of a sheet, under any placing
module _ (placing : Placing) (sheet : Sheet) (room : ℕ) where
  own_published : (l : ℕ) → published (own_rows placing sheet room l) ≡ true
  own_published zero = refl
  own_published (suc k) = line_published (placing k) (state_by placing sheet.line k) (held_after sheet.line k) (sheet.line k)

  own_rise : (l : ℕ) → all_rise (own_rows placing sheet room l) ≡ true
  own_rise zero = refl
  own_rise (suc k) = line_rise (placing k) (state_by placing sheet.line k) (held_after sheet.line k) (sheet.line k)

  end-published : (b : Bool) → published (cond b (end_rows placing sheet room) []) ≡ true
  end-published true = refl
  end-published false = refl

  end_rise : (b : Bool) → all_rise (cond b (end_rows placing sheet room) []) ≡ true
  end_rise true = refl
  end_rise false = refl

  pub pointing_proved : Pointing placing sheet room
  pointing_proved = record {
    as_published = λ l. published-both (own_rows placing sheet room l) (cond (eqb l sheet.count) (end_rows placing sheet room) []) (own_published l) (end-published (eqb l sheet.count));
    in_text_order = λ l. rise_both (own_rows placing sheet room l) (cond (eqb l sheet.count) (end_rows placing sheet room) []) (own_rise l) (end_rise (eqb l sheet.count));
  }

-- ---- the operands of each form
pub operands_named : OperandsNamed
operands_named = record {
  mov32 = λ n v. refl;
  mov64 = λ n v. refl;
  alloc = λ n v. refl;
  dealloc = λ n v. refl;
  load = λ a. (refl, refl);
  store = λ a. (refl, refl);
  dense = λ m e. rw e (refl, refl);
  sparse = λ m x e. rw e (refl, refl);
}
