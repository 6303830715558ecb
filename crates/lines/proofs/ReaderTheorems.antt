-- Whoever takes a line and goes on where it says, as `lines::line_at` gives it, goes through the sheet line by line: one step over a line that is laid
-- out leads from after k lines to after k + 1. So from line 2 on, if each line is laid out, each comes in turn, and then the sheet's end. Assumes nothing.
use Prim.Native.Nat.{ℕ, zero, suc, ◌+◌, ◌-◌, ◌<◌}
use native.Mathlib.Omega.{arith}
use mathlib.Core.Path.{◌≡◌, refl, ap, ◌∙◌, subst}
use mathlib.Core.List.{List, [], ◌∷◌}
use mathlib.Core.Bool.{true}
use lib.ListN.{length, drop, length-drop}
use Rattle.std.specs.Prelude.{Option, None, Some}
use Rattle.laws.proofs.BoolLaws.{clash}
use Rattle.lines.specs.declared.Line.{Line}
use Rattle.lines.specs.Sheet.{after, next_of, line_count, laid_out, headed, body_at, content_of, content_after, content_seen, line_at, place_after, After}
use Rattle.lines.proofs.LineLaws.{count_line}
use Rattle.lines.proofs.SheetLaws.{none_fault, line_seen_lem}
use Rattle.lines.proofs.SheetTheorems.{after-header, step_after}

-- with no line there is no byte
none-empty : (l : List ℕ) → line_count l ≡ 0 → length l ≡ 0
none-empty [] z = refl
none-empty (x ∷ l) z = absurd (let y = count_line (x ∷ l) (omega arith) in omega (arith, y, z))

-- the lines from line 2 on that are before line k + 2 are laid out
abbrev pub LaidOut : List ℕ → ℕ → Type 0
LaidOut s k = (i : ℕ) → i < k → laid_out (after (1 + i) s) ≡ true

-- a line that is laid out leads to the place after it
steps : (s : List ℕ) (at k : ℕ) → After s (1 + k) at → laid_out (drop at s) ≡ true → (o : Option Line) → o ≡ line_at s at → After s (1 + suc k) (next_of o)
steps s at k p h None e = absurd (clash h (none_fault s at e))
steps s at k p h (Some r) e = subst (λ (n : ℕ). After s n r.next) (omega arith) (step_after s (1 + k) at p r e)

module _ (s : List ℕ) (h : headed s ≡ true) where
  -- from line 2 on, the reader stands after 1 + k lines when it has taken k
  pub stands : (k : ℕ) → LaidOut s k → After s (1 + k) (place_after s body_at k)
  unfolding place_after
  stands zero f = after-header s h
  stands (suc k) f =
      let at = place_after s body_at k in
      let p = stands k (λ i g. f i (omega (arith, g))) in
      steps s at k p (ap laid_out p.here ∙ f k (omega arith)) (line_at s at) refl

  -- the line that it takes there is the sheet's
  pub reads-each : (k : ℕ) → LaidOut s k → content_seen s (line_at s (place_after s body_at k)) ≡ content_after (1 + k) s
  reads-each k f = line_seen_lem s (place_after s body_at k) ∙ ap content_of (stands k f).here

  -- and after all lines it stands at the sheet's end
  pub reads_all : LaidOut s (line_count s - 1) → place_after s body_at (line_count s - 1) ≡ length s
  reads_all f =
      let at = place_after s body_at (line_count s - 1) in
      let p = stands (line_count s - 1) f in
      let one = (after-header s h).counted in
      omega (arith, p.inside, length-drop at s, none-empty (drop at s) (omega (arith, p.counted, one)))
