-- Constant expressions as they are read: chains of chains of factors, each factor with so many levels left. Assumes nothing.
use Rattle.tokens.specs.Text.{byte}
use Rattle.std.specs.Prelude.{ℕ, zero, suc, List, [], ◌∷◌, Bool, true, false, not, ◌&&◌, ◌||◌, cond, length, drop, leb, eqb}
use Rattle.tokens.specs.Bytes.{after_blanks}
use Rattle.tokens.specs.Cursors.{Rest, Took, mark_c, number_c}
use Rattle.expression.specs.declared.Amount.{Amount}
use Rattle.expression.specs.declared.AmountRead.{AmountRead}
use Rattle.expression.specs.declared.Operator.{Operator}
use Rattle.expression.specs.declared.Operator.TheVariants as o
use Rattle.expression.specs.declared.OperatorRead.{OperatorRead}
use Rattle.expression.specs.Amounts.{most_of, negated, apply}

-- ---- what stands in an expression
-- the same place, where no number was too large yet
abbrev pub clean : Rest → Rest
clean r = record { rest = r.rest; ok = r.ok; over = false; far = [] }

-- past a number, which blanks may precede; one over the largest is out of range
unfoldable pub plain_c : Rest → Took Amount
plain_c r =
    let n = number_c (most_of false) (clean r) in
    record { value = record { over = n.next.over; minus = false; size = n.value }; next = clean n.next }

-- past a + or a -
unfoldable pub sum_c : Rest → Took Operator
sum_c r =
    let p = mark_c (byte "+") r in
    cond p.ok (record { value = o.Plus; next = p }) (record { value = o.Minus; next = mark_c (byte "-") r })

-- past a *
unfoldable pub product_c : Rest → Took Operator
product_c r = record { value = o.Times; next = mark_c (byte "*") r }

-- ---- chains and factors
-- t, and up to n more, each behind an operator, joined from left to right
unfoldable pub links_c : (Rest → Took Operator) → (Rest → Took Amount) → ℕ → Took Amount → Took Amount
links_c op f zero t = t
links_c op f (suc n) t =
    let d = op t.next in
    cond d.next.ok (links_c op f n (record { value = apply d.value t.value (f d.next).value; next = (f d.next).next })) t

-- as many as there are: each takes a byte at least, so there are no more than bytes
unfoldable pub chain_c : (Rest → Took Operator) → (Rest → Took Amount) → Rest → Took Amount
chain_c op f r = links_c op f (length (f r).next.rest) (f r)

-- a term: factors joined by *
abbrev pub term_by : (Rest → Took Amount) → Rest → Took Amount
term_by f = chain_c product_c f

-- an expression: terms joined by + and -
abbrev pub expr_by : (Rest → Took Amount) → Rest → Took Amount
expr_by f = chain_c sum_c (term_by f)

-- a factor, with so many levels left: one level down an expression in parentheses or a minus and a factor; or a number
unfoldable pub factor_c : ℕ → Rest → Took Amount
factor_c zero r = plain_c r
factor_c (suc d) r =
    let p = mark_c (byte "(") r in
    let m = mark_c (byte "-") r in
    let e = expr_by (factor_c d) p in
    let f = factor_c d m in
    cond p.ok (record { value = e.value; next = mark_c (byte ")") e.next })
    (cond m.ok (record { value = negated f.value; next = f.next }) (plain_c r))

-- ---- where a number stands
-- it is in range, not below 0, and at most the limit
abbrev pub fits_in : ℕ → Amount → Bool
fits_in limit a = not a.over && (not a.minus && leb a.size limit)

-- the place of d, with what was out of range before r
abbrev pub keeping : Rest → Rest → Rest
keeping r d = record { rest = d.rest; ok = d.ok; over = r.over; far = r.far }

-- reading goes on at m; what started at l is out of range, and is the first if nothing was before r
abbrev pub out_at : Rest → List ℕ → List ℕ → Rest
out_at r l m = record { rest = m; ok = true; over = true; far = cond r.over r.far l }

-- the amount read from r on, as a number up to a limit; 0 stands for one that does not fit, which started at l
abbrev pub settled : ℕ → Rest → List ℕ → Took Amount → Took ℕ
settled limit r l t =
    cond t.next.ok
    (cond (fits_in limit t.value) (record { value = t.value.size; next = keeping r t.next }) (record { value = 0; next = out_at r l t.next.rest }))
    (record { value = 0; next = keeping r t.next })

-- past an expression of 16 levels at most, which blanks may precede
unfoldable pub expression_c : ℕ → Rest → Took ℕ
expression_c limit r = settled limit r (after_blanks r.rest) (expr_by (factor_c 16) (clean r))

-- the first byte is an operator
abbrev pub operator_first : List ℕ → Bool
operator_first [] = false
operator_first (x ∷ l) = eqb x (byte "+") || eqb x (byte "-") || eqb x (byte "*")

-- an operator comes next, past blanks
unfoldable pub goes_on : List ℕ → Bool
goes_on l = operator_first (after_blanks l)

-- a number with no operator behind it, which the limit alone bounds; else an expression
unfoldable pub quantity_c : ℕ → Rest → Took ℕ
quantity_c limit r =
    let n = number_c limit r in
    cond (n.next.ok && not (goes_on n.next.rest)) n (expression_c limit r)

-- ---- views of what the functions return
-- reading stands at a position, and no number was too large
abbrev pub reached : List ℕ → ℕ → Bool → Rest
reached s at ok = record { rest = drop at s; ok = ok; over = false; far = [] }

abbrev pub amount_seen : List ℕ → AmountRead → Took Amount
amount_seen s r = record { value = r.value; next = reached s r.at r.ok }

abbrev pub operator_seen : List ℕ → OperatorRead → Took Operator
operator_seen s r = record { value = r.value; next = reached s r.at r.ok }
