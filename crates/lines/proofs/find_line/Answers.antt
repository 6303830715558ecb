-- `lines::find_line` meets its contract: the tests made of what is left at the place are those of the layout. Assumes nothing.
use Rattle.std.proofs.Common.{◌≡◌, ℕ, ◌-◌, Bool, true, false, cond, List, ◌∷◌, Some, None, length, take, drop, refl, sym, ◌∙◌, arith}
use Rattle.std.proofs.lemmas.Option.{none-some, cond_some}
use Rattle.std.proofs.lemmas.Slice.{between_to_end}
use Rattle.lines.specs.Sheet.{warp_byte}
use Rattle.lines.proofs.SheetLaws.{none_left, none_warp, none_one, none_tests, some_line}
use Rattle.lines.proofs.find_line.Goals as goal

-- a byte without a warp is no warp byte
no_mark : (b : Bool) (w : ℕ) → None ≡ cond b (Some w) None → b ≡ false
no_mark true w e = absurd (none-some w e)
no_mark false w e = refl

pub returns-in_err-get : goal.returns-in_err-get
returns-in_err-get c = c.from_residual.ensures ∙ none_left c.args.s.now c.args.at (omega (arith, c.in_err-get.ensures.lookup.0))

pub returns-in_err-mark : goal.returns-in_err-mark
returns-in_err-mark c =
    c.from_residual-in_err-mark.ensures
    ∙ none_left c.args.s.now c.args.at (omega (arith, c.in_err-mark.ensures.cases, c.in_ok-get.ensures.lookup.0))

-- what is left at the place, by its first byte
left : (s l m : List ℕ) (at x : ℕ) → l ≡ take (length s - at) (drop at s) → l ≡ x ∷ m → drop at s ≡ x ∷ m
left s l m at x e d = sym (between_to_end s at (length s) (omega arith)) ∙ sym e ∙ d

pub returns-in_err-warp : goal.returns-in_err-warp
returns-in_err-warp c =
    let d = left c.args.s.now _ _ c.args.at _ c.in_ok-get.ensures.lookup.0.2 c.in_ok-mark.ensures.cases.0 in
    c.from_residual-in_err-warp.ensures ∙ none_warp _ c.args.at _ _ d (no_mark _ _ c.in_err-warp.ensures)

pub returns-in_err-tab : goal.returns-in_err-tab
returns-in_err-tab c =
    let d = left c.args.s.now _ _ c.args.at _ c.in_ok-get.ensures.lookup.0.2 c.in_ok-mark.ensures.cases.0 in
    c.from_residual-in_err-tab.ensures ∙ none_one _ c.args.at _ _ d c.in_err-tab.ensures.cases

pub returns-then-tab-lf_at : goal.returns-then-tab-lf_at
returns-then-tab-lf_at c =
    let d = left c.args.s.now _ _ c.args.at _ c.in_ok-get.ensures.lookup.0.2 c.in_ok-mark.ensures.cases.0 in
    let w = cond_some (warp_byte c.in_ok-mark.mark.now) _ _ (sym c.in_ok-warp.ensures) in
    rw (← w.1)
    (some_line _ c.args.at _ _ d _ _ c.in_ok-tab.ensures.cases.0 w.0 _ c.plain_len-n.ensures true (rw c.lf_at.ensures at c.if-tab-lf_at.true) refl)

pub returns-else-tab-lf_at : goal.returns-else-tab-lf_at
returns-else-tab-lf_at c =
    let d = left c.args.s.now _ _ c.args.at _ c.in_ok-get.ensures.lookup.0.2 c.in_ok-mark.ensures.cases.0 in
    let w = cond_some (warp_byte c.in_ok-mark.mark.now) _ _ (sym c.in_ok-warp.ensures) in
    none_tests _ c.args.at _ _ d _ _ c.in_ok-tab.ensures.cases.0 w.0 _ c.plain_len-n.ensures false (rw c.lf_at.ensures at c.if-tab-lf_at.false) refl
