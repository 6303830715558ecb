-- Expressions, terms and factors meet their contracts: one cycle of calls. Each return of a factor is a law of the levels, and each turn of
-- a chain is a law of links. Assumes nothing.
use mathlib.Core.Path.{refl, sym, ap, ◌∙◌}
use native.Mathlib.Omega.{arith}
use borrow.Author.Tests.{not-true, not-false}
use lib.ListN.{length, drop}
use Rattle.tokens.specs.Cursors.{Took}
use Rattle.expression.specs.declared.Amount.{Amount}
use Rattle.expression.specs.Expressions.{sum_c, product_c, links_c, chain_c, term_by, factor_c, reached}
use Rattle.expression.proofs.ShrinkLaws.{sum_takes, product_takes, term_shrinks, factor_shrinks}
use Rattle.expression.proofs.Laws.{more_done, more_less, more_took, level_none, group, minus, number}
use Rattle.expression.proofs.+expr_factor_term.Goals as goal

pub expr-term-t-requires : goal.expr-term-t-requires
expr-term-t-requires t c = (omega (arith, c.decreases), tt)

pub expr-loop-o-init : goal.expr-loop-o-init
expr-loop-o-init t c = refl

pub expr-returns-then-not-o : goal.expr-returns-then-not-o
unfolding chain_c
expr-returns-then-not-o t c =
    let a = c.args in
    let l = c.loop-o.t in
    sym (more_done sum_c (term_by (factor_c a.depth)) l.value (reached a.s.now l.at l.ok) (length (drop l.at a.s.now)) _ c.sum_operator-o.ensures (not-true _ c.if-not-o.true))
    ∙ c.loop-o.invariant
    ∙ ap (λ (t : Took Amount). links_c sum_c (term_by (factor_c a.depth)) (length t.next.rest) t) c.term-t.ensures

pub expr-term-g-requires : goal.expr-term-g-requires
expr-term-g-requires t c = (omega (arith, c.decreases), tt)

pub expr-loop-o-smaller : goal.expr-loop-o-smaller
expr-loop-o-smaller t c =
    let a = c.args in
    let l = c.loop-o.t in
    more_less sum_c (term_by (factor_c a.depth)) l.value (reached a.s.now l.at l.ok) sum_takes (term_shrinks _ (factor_shrinks a.depth)) _ _ c.sum_operator-o.ensures (not-false _ c.if-not-o.false) c.term-g.ensures

pub expr-loop-o-preserved : goal.expr-loop-o-preserved
expr-loop-o-preserved t c =
    let a = c.args in
    let l = c.loop-o.t in
    more_took sum_c (term_by (factor_c a.depth)) l.value (reached a.s.now l.at l.ok) sum_takes (term_shrinks _ (factor_shrinks a.depth)) _ _ c.sum_operator-o.ensures (not-false _ c.if-not-o.false) c.term-g.ensures _ c.joined-value.ensures
    ∙ c.loop-o.invariant

pub factor-returns-then-depth-eq0 : goal.factor-returns-then-depth-eq0
factor-returns-then-depth-eq0 t c = c.plain.ensures ∙ level_none _ _ c.if-depth-eq0.true

pub factor-expr-e-requires : goal.factor-expr-e-requires
factor-expr-e-requires t c = (omega (arith, c.if-depth-eq0.false, c.decreases), tt)

pub factor-returns-then-p : goal.factor-returns-then-p
factor-returns-then-p t c = group _ _ _ _ _ (omega (arith, c.if-depth-eq0.false)) c.mark-p.ensures c.if-p.true c.expr-e.ensures c.mark-c.ensures

pub factor-factor-f-requires : goal.factor-factor-f-requires
factor-factor-f-requires t c = (omega (arith, c.if-depth-eq0.false, c.decreases), tt)

pub factor-returns-then-m : goal.factor-returns-then-m
factor-returns-then-m t c = minus _ _ _ c.mark-p.ensures c.if-p.false c.mark-m.ensures _ _ _ (omega (arith, c.if-depth-eq0.false)) c.if-m.true c.factor-f.ensures c.negate-value.ensures

pub factor-returns : goal.factor-returns
factor-returns t c = c.plain-2.ensures ∙ number _ _ _ c.mark-p.ensures c.if-p.false c.mark-m.ensures _ c.if-m.false

pub term-factor-t-requires : goal.term-factor-t-requires
term-factor-t-requires t c = (omega (arith, c.decreases), tt)

pub term-loop-o-init : goal.term-loop-o-init
term-loop-o-init t c = refl

pub term-returns-then-not-o : goal.term-returns-then-not-o
unfolding chain_c
term-returns-then-not-o t c =
    let a = c.args in
    let l = c.loop-o.t in
    sym (more_done product_c (factor_c a.depth) l.value (reached a.s.now l.at l.ok) (length (drop l.at a.s.now)) _ c.product_operator-o.ensures (not-true _ c.if-not-o.true))
    ∙ c.loop-o.invariant
    ∙ ap (λ (t : Took Amount). links_c product_c (factor_c a.depth) (length t.next.rest) t) c.factor-t.ensures

pub term-factor-g-requires : goal.term-factor-g-requires
term-factor-g-requires t c = (omega (arith, c.decreases), tt)

pub term-loop-o-smaller : goal.term-loop-o-smaller
term-loop-o-smaller t c =
    let a = c.args in
    let l = c.loop-o.t in
    more_less product_c (factor_c a.depth) l.value (reached a.s.now l.at l.ok) product_takes (factor_shrinks a.depth) _ _ c.product_operator-o.ensures (not-false _ c.if-not-o.false) c.factor-g.ensures

pub term-loop-o-preserved : goal.term-loop-o-preserved
term-loop-o-preserved t c =
    let a = c.args in
    let l = c.loop-o.t in
    more_took product_c (factor_c a.depth) l.value (reached a.s.now l.at l.ok) product_takes (factor_shrinks a.depth) _ _ c.product_operator-o.ensures (not-false _ c.if-not-o.false) c.factor-g.ensures _ c.joined-value.ensures
    ∙ c.loop-o.invariant
