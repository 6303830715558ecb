-- Expressions, terms and factors: a factor calls one level down, and the measure is three times the levels left, one more for a term, two more for
-- an expression. A chain from here on is the chain from the start, and each turn leaves fewer bytes. Assumes nothing.
use Rattle.std.proofs.Common.{◌≡◌, drop, ◌+◌, ◌*◌, length}
use Rattle.expression.specs.Expressions.{sum_c, product_c, links_c, term_by, factor_c, amount_seen}
use Rattle.expression.proofs.+expr_factor_term.Given as goal

abbrev pub decreases-expr : goal.decreases-expr
decreases-expr l = 3 * l.depth + 2

abbrev pub decreases-factor : goal.decreases-factor
decreases-factor l = 3 * l.depth

abbrev pub decreases-term : goal.decreases-term
decreases-term l = 3 * l.depth + 1

abbrev pub invariant-expr-loop-o : goal.invariant-expr-loop-o
invariant-expr-loop-o l = links_c sum_c (term_by (factor_c l.depth)) (length (drop l.t.at l.s)) (amount_seen l.s l.t) ≡ links_c sum_c (term_by (factor_c l.depth)) (length (drop l.initial.t.at l.s)) (amount_seen l.s l.initial.t)

abbrev pub decreases-expr-loop-o : goal.decreases-expr-loop-o
decreases-expr-loop-o l = length (drop l.t.at l.s)

abbrev pub invariant-term-loop-o : goal.invariant-term-loop-o
invariant-term-loop-o l = links_c product_c (factor_c l.depth) (length (drop l.t.at l.s)) (amount_seen l.s l.t) ≡ links_c product_c (factor_c l.depth) (length (drop l.initial.t.at l.s)) (amount_seen l.s l.initial.t)

abbrev pub decreases-term-loop-o : goal.decreases-term-loop-o
decreases-term-loop-o l = length (drop l.t.at l.s)
