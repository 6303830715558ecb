-- `printed::rows` meets its contract. After some lines their rows are put (Upto); each line is laid out, since the sheet passed, and an alloc's row
-- has room, since all rows do. Assumes nothing.
use Prim.Native.Nat.{ℕ, suc, ◌<◌, ◌≤◌}
use mathlib.Core.List.{List}
use mathlib.Core.Path.{◌≡◌, ap, ◌∙◌}
use native.Mathlib.Omega.{arith}
use lib.ListN.{length}
use lib.Seq.{length-sets}
use Rattle.std.specs.Prelude.{Some, None}
use Rattle.report.specs.Report.{rows_text}
use Rattle.lines.specs.Sheet.{line_at}
use Rattle.lines.specs.declared.Line.{Line}
use Rattle.lines.proofs.SheetTheorems.{step_fault, step_part}
use Rattle.judge.specs.Judged.{lines_of, judged_of}
use Rattle.printed.specs.Printed.{rows_up_to}
use Rattle.printed.proofs.RowLaws.{Upto, upto_first, upto_last, upto_other, upto-alloc, lines_below, rows-below, inside}
use Rattle.printed.proofs.PassLaws.{is-headed, no_fault, lines_most}
use Rattle.printed.proofs.rows.Goals as goal

module _ (s starts old room : List ℕ) (from at next k : ℕ) (u : Upto s starts old from at next k room) where
  -- the room keeps its length
  kept : length room ≡ length old
  kept = ap length u.holds ∙ length-sets old from (rows_text (rows_up_to (lines_of s) starts u.lines))

  module _ (h : (judged_of s 4096).reason ≡ 0) where
    -- where no line is found the sheet is at its end
    at_end : None ≡ line_at s at → length s ≤ at
    at_end e =
        let more : at < length s → ⊥ = λ m. no_fault s 4096 h u.lines (lines_below s starts old room from at next k u m) (step_fault s (suc u.lines) at u.place e) in
        omega (arith, more)

    -- the rows so far are fewer than the places of the starts
    fewer : (l : Line) → Some l ≡ line_at s at → k < 4096
    fewer l e = omega (arith, rows-below s starts old room from at next k u l e, lines_most s 4096 h)

pub loop-line-init : goal.loop-line-init
loop-line-init c =
    let a = c.args in
    upto_first a.sheet.now a.starts.now a.room.now a.from (is-headed a.sheet.now 4096 c.requires.passed.0)

pub slice_bounds-alloc_in-count : goal.slice_bounds-alloc_in-count
slice_bounds-alloc_in-count c =
    let l = c.loop-line in
    (step_part _ (suc l.invariant.lines) l.at l.invariant.place _ c.in-Some.ensures).0

pub slice_bounds-alloc_in-start : goal.slice_bounds-alloc_in-start
slice_bounds-alloc_in-start c =
    let l = c.loop-line in
    (step_part _ (suc l.invariant.lines) l.at l.invariant.place _ c.in-Some.ensures).0

pub slice_bounds-alloc_in-end : goal.slice_bounds-alloc_in-end
slice_bounds-alloc_in-end c =
    let l = c.loop-line in
    omega (arith, step_part _ (suc l.invariant.lines) l.at l.invariant.place _ c.in-Some.ensures)

pub offset_bounds-starts-k : goal.offset_bounds-starts-k
offset_bounds-starts-k c = omega (arith, fewer _ _ _ _ _ _ _ _ c.loop-line.invariant c.requires.passed.0 _ c.in-Some.ensures)

pub bounds-starts-k : goal.bounds-starts-k
bounds-starts-k c = omega (arith, fewer _ _ _ _ _ _ _ _ c.loop-line.invariant c.requires.passed.0 _ c.in-Some.ensures, c.requires.passed.1)

pub overflow_add-k : goal.overflow_add-k
overflow_add-k c = omega (arith, fewer _ _ _ _ _ _ _ _ c.loop-line.invariant c.requires.passed.0 _ c.in-Some.ensures)

pub loop-line-smaller-in-Some-alloc_in : goal.loop-line-smaller-in-Some-alloc_in
loop-line-smaller-in-Some-alloc_in c = omega (arith, inside _ _ _ _ _ _ _ _ c.loop-line.invariant _ c.in-Some.ensures)

pub loop-line-preserved-in-Some-alloc_in : goal.loop-line-preserved-in-Some-alloc_in
loop-line-preserved-in-Some-alloc_in c =
    upto-alloc _ _ _ _ _ _ _ _ c.loop-line.invariant _ c.in-Some.ensures _ c.alloc_in.ensures _ c.in-Some-alloc_in.is
    _ _ c.from-start.ensures c.from-columns.ensures _ _ c.row-next.ensures.next c.row-next.ensures.places c.requires.fits

pub loop-line-smaller : goal.loop-line-smaller
loop-line-smaller c = omega (arith, inside _ _ _ _ _ _ _ _ c.loop-line.invariant _ c.in-Some.ensures)

pub loop-line-preserved : goal.loop-line-preserved
loop-line-preserved c = upto_other _ _ _ _ _ _ _ _ c.loop-line.invariant _ c.in-Some.ensures _ c.alloc_in.ensures c.in_default-alloc_in.is

pub shape_of-room : goal.shape_of-room
shape_of-room c = omega (arith, kept _ _ _ _ _ _ _ _ c.loop-line.invariant)

pub returns : goal.returns
returns c =
    let u = c.loop-line.invariant in
    let both = upto_last _ _ _ _ _ _ _ _ u (at_end _ _ _ _ _ _ _ _ u c.requires.passed.0 c.in_default.ensures) in
    record { next = both.0; places = both.1 }
