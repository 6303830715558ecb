-- A line as `step` judges it: a statement that was read has the rules of its line. And the line at a place, as its text. Assumes nothing.
use Prim.Native.Nat.{ℕ, ◌-◌, ◌≤◌, ◌<◌}
use mathlib.Core.Path.{◌≡◌, sym, ap, ◌∙◌, subst}
use mathlib.Core.Bool.{Bool, cond}
use mathlib.Core.List.{List}
use native.Mathlib.Omega.{arith}
use lib.ListN.{length, take, drop}
use borrow.Author.Tests.{lt-ltb}
use Rattle.std.specs.Prelude.{Some, Result, Ok}
use Rattle.reasons.specs.declared.Reason.{Reason}
use Rattle.lines.specs.declared.Line as lines
use Rattle.lines.specs.Sheet.{laid, content_seen, line_at}
use Rattle.lines.proofs.SheetLaws.{line_seen_lem, line_inside, line_next}
use Rattle.lines.proofs.SheetTheorems.{read_written, warp_below}
use Rattle.laws.specs.Rules.{first_broken}
use Rattle.statement.specs.declared.Statement.{Statement}
use Rattle.statement.specs.Reading.{Reading, read_of}
use Rattle.statement.specs.Views.{act_of}
use Rattle.rules.specs.State.{lowest}
use Rattle.rules.specs.Rows.{rules_of}
use Rattle.rules.specs.Reasons.{rows, rules}
use Rattle.rules.specs.Sheet.{statement, line_rules, line_of, effect, given, requested, released}
use Rattle.steps.specs.declared.Books.{Books}
use Rattle.steps.specs.declared.Step.{Step}
use Rattle.steps.specs.Steps.{Gives, StatementDone, LineDone}

-- a statement that was read, of a warp below 4
read_done : (held w : ℕ) (t : Statement) (b : Books) (answer : Result Step Reason) (next : Books) → w < 4 → StatementDone held w t b answer next → LineDone held (statement w t) b answer next
unfolding rules
read_done held w t b answer next h d s k =
    let q : first_broken (line_rules lowest s held (statement w t)) ≡ first_broken (rules lowest s held w t) = ap (λ (x : Bool). cond x (first_broken (rules_of (rows lowest s held w t))) 2) (lt-ltb w 4 h) in
    subst (λ (n : ℕ). Gives n (effect lowest s w (act_of t)) (given lowest s (statement w t)) (requested (statement w t)) (released (statement w t)) b answer next) (sym q) (d s k)

-- the same of the text that reads as it
pub text_done : (held w : ℕ) (text : List ℕ) (t : Statement) (b : Books) (answer : Result Step Reason) (next : Books) → w < 4 → read_of text ≡ Ok t
    → StatementDone held w t b answer next → LineDone held (line_of w (read_of text)) b answer next
text_done held w text t b answer next h e d = subst (λ (r : Reading). LineDone held (line_of w r) b answer next) (sym e) (read_done held w t b answer next h d)

-- ---- the line at a place, laid out
module _ (s : List ℕ) (at : ℕ) (l : lines.Line) (e : Some l ≡ line_at s at) where
  -- its statement is a part of the sheet
  pub part : (l.start ≤ l.end) × (l.end ≤ length s)
  part = let a = line_inside s at l e in (a.0, omega (arith, a.2, line_next s at l e))

  pub content_is : content_seen s (line_at s at) ≡ laid l.warp (take (l.end - l.start) (drop l.start s))
  content_is = ap (content_seen s) (sym e)

  pub warp_small : l.warp < 4
  warp_small =
      let w = read_written (drop at s) l.warp _ (sym (line_seen_lem s at) ∙ content_is) in
      omega (arith, w.names, warp_below w.mark w.marks)
