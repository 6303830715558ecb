-- Where a number stands, a number alone or an expression is read exactly where a text spells one, and a text spells one value at most. Assumes nothing.
use Rattle.tokens.specs.Text.{byte}
use Prim.Native.Nat.{ℕ, suc}
use native.Mathlib.Omega.{arith}
use mathlib.Core.Path.{◌≡◌, refl, sym, ap, subst, ◌∙◌}
use mathlib.Core.List.{List, [], ◌∷◌}
use mathlib.Core.Option.{none, some}
use mathlib.Core.Bool.{Bool, true, false, not, ◌&&◌, ◌||◌, cond}
use lib.Dec.{leb, eqb}
use lib.IntN.{pos, negsuc}
use borrow.Author.Tests.{lt-leb}
use Rattle.tokens.specs.Bytes.{blank, after_blanks}
use Rattle.tokens.specs.Cursors.{Rest, Took, mark_c, number_c}
use Rattle.laws.proofs.BoolLaws.{never, clash}
use Rattle.grammar.proofs.Lexing.{at, Reads, cut, over_by, took_one, mark-at, mark_sound, number_sound, number_complete, number-one}
use Rattle.expression.specs.declared.Amount.{Amount}
use Rattle.expression.specs.declared.Operator.TheVariants as o
use Rattle.expression.specs.Integers.{Result, result_of, join}
use Rattle.expression.specs.Claims.{amount_of}
use Rattle.expression.specs.Expressions.{clean, keeping, expr_by, factor_c, fits_in, settled, expression_c, operator_first, goes_on, quantity_c}
use Rattle.expression.proofs.ExactProved.{arithmetic_exact}
use Rattle.expression.proofs.ShrinkLaws.{factor_shrinks}
use Rattle.grammar.specs.Spells.{Mark, NumberText, ResultText, OperatorText, SumOperator, added, taken, ProductOperator, times, Without, More, stops, next, TermOf, plain, FactorText, ExprText, number_for, QuantityText, alone, composed}
use Rattle.grammar.proofs.Expressions.{Sound, Complete, expr_sound, expr_complete, factor_sound, factor_complete, ok_at}

-- ---- expressions of 16 levels
exprs_sound : Sound (expr_by (factor_c 16)) ExprText
exprs_sound = expr_sound (factor_c 16) (FactorText 16) (factor_shrinks 16) (factor_sound 16)

pub exprs_complete : Complete (expr_by (factor_c 16)) ExprText
exprs_complete = expr_complete (factor_c 16) (FactorText 16) (factor_shrinks 16) (factor_complete 16)

-- a text spells one expression at most
expr_one : (u v : Result) (l r s : List ℕ) → ExprText u l r → ExprText v l s → (u ≡ v) × (r ≡ s)
expr_one u v l r s a b =
    let p = took_one (exprs_complete u l r a) (exprs_complete v l s b) in
    (arithmetic_exact.apart u v p.0, p.1)

-- ---- no operator follows
-- none follows a chain, and whatever holds behind each of its links holds behind it
module _ (S : OperatorText) (F : ResultText) where
  more_without : (v u : Result) (l r : List ℕ) → More S F v u l r → Without S r
  more_without v u l r (stops z) = z
  more_without v u l r (next {x = x} {w = w} {l₂ = l₂} s t i) = more_without (join x v w) u l₂ r i

  module _ (P : List ℕ → Type 0) (behind : (w : Result) (l r : List ℕ) → F w l r → P r) where
    more_behind : (v u : Result) (l r : List ℕ) → P l → More S F v u l r → P r
    more_behind v u l r p (stops z) = p
    more_behind v u l r p (next {x = x} {w = w} {l₁ = l₁} {l₂ = l₂} s t i) = more_behind (join x v w) u l₂ r (behind w l₁ l₂ t) i

expr_ended : (u : Result) (l r : List ℕ) → ExprText u l r → Without SumOperator r × Without ProductOperator r
expr_ended u l r t = (more_without SumOperator Term t.v u t.l₁ r t.tail, more_behind SumOperator Term (Without ProductOperator) term_ended t.v u t.l₁ r (term_ended t.v l t.l₁ t.head) t.tail)
  where
    Term : ResultText
    Term = TermOf (FactorText 16)

    term_ended : (w : Result) (k m : List ℕ) → Term w k m → Without ProductOperator m
    term_ended w k m s = more_without ProductOperator (FactorText 16) s.v w s.l₁ m s.tail

-- an operator's mark is the first byte past the spaces
first_mark : (m : ℕ) (r s : List ℕ) → blank m ≡ false → (eqb m (byte "+") || eqb m (byte "-") || eqb m (byte "*")) ≡ true → goes_on r ≡ false → Mark m r s → ⊥
unfolding goes_on
first_mark m r s d t h k = clash (ap operator_first (mark-at m d k) ∙ t) h

pub ended_by : (r : List ℕ) → goes_on r ≡ false → Without SumOperator r × Without ProductOperator r
unfolding blank
ended_by r h = (no_sum, no_product)
  where
    no_sum : Without SumOperator r
    no_sum o.Plus s (added k) = first_mark (byte "+") r s refl refl h k
    no_sum o.Minus s (taken k) = first_mark (byte "-") r s refl refl h k
    no_sum o.Times s z = elim z [ ]

    no_product : Without ProductOperator r
    no_product o.Plus s z = elim z [ ]
    no_product o.Minus s z = elim z [ ]
    no_product o.Times s (times k) = first_mark (byte "*") r s refl refl h k

-- where the first byte past the spaces is a mark, the mark stands there
mark_by : (m x : ℕ) (r l : List ℕ) → after_blanks r ≡ x ∷ l → eqb x m ≡ true → (s : List ℕ) × Mark m r s
unfolding mark_c
mark_by m x r l e h = let o : (mark_c m (at r false [])).ok ≡ true = rw (e, h) in ((mark_c m (at r false [])).rest, (mark_sound m (at r false []) o).1)

pub goes_on_lem : (r : List ℕ) → Without SumOperator r → Without ProductOperator r → goes_on r ≡ false
unfolding goes_on
goes_on_lem r n p = go (after_blanks r) refl
  where
    go : (l : List ℕ) → after_blanks r ≡ l → operator_first l ≡ false
    go [] e = refl
    go (x ∷ l) e = by (eqb x (byte "+")) refl (eqb x (byte "-")) refl (eqb x (byte "*")) refl
      where
        by : (a : Bool) → eqb x (byte "+") ≡ a → (b : Bool) → eqb x (byte "-") ≡ b → (c : Bool) → eqb x (byte "*") ≡ c → (a || b || c) ≡ false
        by true h b i c j = let k = mark_by (byte "+") x r l e h in absurd (n o.Plus k.0 (added k.1))
        by false h true i c j = let k = mark_by (byte "-") x r l e i in absurd (n o.Minus k.0 (taken k.1))
        by false h false i true j = let k = mark_by (byte "*") x r l e j in absurd (p o.Times k.0 (times k.1))
        by false h false i false j = refl

-- a number alone is an expression too
pub alone_expr : (n : ℕ) (l r : List ℕ) → NumberText n l r → goes_on r ≡ false → ExprText (result_of (pos n)) l r
alone_expr n l r t h =
    let e = ended_by r h in
    record {
      v = result_of (pos n);
      l₁ = r;
      head = record { v = result_of (pos n); l₁ = r; head = plain (record { number = n; spelled = t; value = refl }); tail = stops e.1 };
      tail = stops e.0;
    }

-- in an expression that is more than a number, a number that it starts with has an operator behind it
pub followed_by : (u : Result) (l r : List ℕ) → ExprText u l r → ((n : ℕ) → NumberText n l r → ⊥) → (n : ℕ) (s : List ℕ) → NumberText n l s → goes_on s ≡ true
followed_by u l r t h n s k = go (goes_on s) refl
  where
    go : (b : Bool) → goes_on s ≡ b → b ≡ true
    go true e = refl
    go false e = let p = expr_one u (result_of (pos n)) l r s t (alone_expr n l s k e) in absurd (h n (subst (λ (q : List ℕ). NumberText n l q) (sym p.1) k))

-- ---- the value of an expression, as it is settled
-- it fits where its worth is at most the limit
pub fits-worth : (limit : ℕ) (u : Result) → fits_in limit (amount_of u) ≡ leb (number_for limit u) limit
fits-worth limit none = sym (lt-leb (suc limit) limit (omega arith))
fits-worth limit (some (negsuc n)) = sym (lt-leb (suc limit) limit (omega arith))
fits-worth limit (some (pos n)) = refl

-- and then it is its worth
fits_size : (limit : ℕ) (u : Result) → fits_in limit (amount_of u) ≡ true → (amount_of u).size ≡ number_for limit u
fits_size limit none h = never h
fits_size limit (some (negsuc n)) h = never h
fits_size limit (some (pos n)) h = refl

settle_reads : (limit : ℕ) (u : Result) (l r : List ℕ) (o : Bool) (f g : List ℕ)
    → Reads (settled limit (at l o f) g (record { value = amount_of u; next = at r false [] })) (cut limit (number_for limit u)) r (over_by (leb (number_for limit u) limit) o)
settle_reads limit u l r o f g = rw (fits-worth limit u) (go (leb (number_for limit u) limit) (λ e. fits_size limit u (fits-worth limit u ∙ e)))
  where
    res : Bool → Took ℕ
    res b = cond b (record { value = (amount_of u).size; next = at r o f }) (record { value = 0; next = record { rest = r; ok = true; over = true; far = cond o f g } })

    go : (b : Bool) → (b ≡ true → (amount_of u).size ≡ number_for limit u) → Reads (res b) (cond b (number_for limit u) 0) r (over_by b o)
    go true s = record { far = f; is = ap (λ (n : ℕ). record { value = n; next = at r o f }) (s refl) }
    go false s = record { far = cond o f g; is = refl }

-- ---- which of the two
abbrev pub alone_at : ℕ → Rest → Bool
alone_at limit r = (number_c limit r).next.ok && not (goes_on (number_c limit r).next.rest)

pub quantity_is : (limit : ℕ) (r : Rest) (b : Bool) → alone_at limit r ≡ b → quantity_c limit r ≡ cond b (number_c limit r) (expression_c limit r)
unfolding quantity_c
quantity_is limit r b e = rw e

-- no number alone stands where each number has an operator behind it
pub not-alone : (limit : ℕ) (l : List ℕ) (o : Bool) (f : List ℕ) → ((n : ℕ) (s : List ℕ) → NumberText n l s → goes_on s ≡ true) → alone_at limit (at l o f) ≡ false
not-alone limit l o f h = go (number_c limit (at l o f)).next.ok refl
  where
    go : (b : Bool) → (number_c limit (at l o f)).next.ok ≡ b → (b && not (goes_on (number_c limit (at l o f)).next.rest)) ≡ false
    go true e = let p = number_sound limit (at l o f) e in ap not (h p.1 (number_c limit (at l o f)).next.rest p.2)
    go false e = refl

pub quantity_complete : (limit v : ℕ) (l r : List ℕ) (o : Bool) (f : List ℕ) → QuantityText limit v l r → Reads (quantity_c limit (at l o f)) (cut limit v) r (over_by (leb v limit) o)
quantity_complete limit v l r o f (alone t n m) =
    let p = number_complete limit v l r o f t in
    let e : alone_at limit (at l o f) ≡ true = rw (p.is, goes_on_lem r n m) in
    record { far = p.far; is = quantity_is limit (at l o f) true e ∙ p.is }
quantity_complete limit v l r o f (composed {u = u} t h) =
    let s = settle_reads limit u l r o f (after_blanks l) in
    let e : expression_c limit (at l o f) ≡ settled limit (at l o f) (after_blanks l) (record { value = amount_of u; next = at r false [] }) = unfold expression_c in (ap (settled limit (at l o f) (after_blanks l)) (exprs_complete u l r t)) in
    record { far = s.far; is = quantity_is limit (at l o f) false (not-alone limit l o f (followed_by u l r t h)) ∙ (e ∙ s.is) }

-- ---- what is read is spelled
settled_ok : (limit : ℕ) (r : Rest) (l : List ℕ) (t : Took Amount) → (settled limit r l t).next.ok ≡ true → (t.next.ok ≡ true) × ((settled limit r l t).next.rest ≡ t.next.rest)
settled_ok limit r l t h = go t.next.ok refl (fits_in limit t.value) h
  where
    res : Bool → Bool → Took ℕ
    res b c = cond b (cond c (record { value = t.value.size; next = keeping r t.next }) (record { value = 0; next = record { rest = t.next.rest; ok = true; over = true; far = cond r.over r.far l } })) (record { value = 0; next = keeping r t.next })

    go : (b : Bool) → t.next.ok ≡ b → (c : Bool) → (res b c).next.ok ≡ true → (b ≡ true) × ((res b c).next.rest ≡ t.next.rest)
    go true e true k = (refl, refl)
    go true e false k = (refl, refl)
    go false e c k = never (sym e ∙ k)

pub quantity_sound : (limit : ℕ) (r : Rest) → (quantity_c limit r).next.ok ≡ true → (r.ok ≡ true) × (v : ℕ) × QuantityText limit v r.rest (quantity_c limit r).next.rest
quantity_sound limit r h = go (alone_at limit r) refl
  where
    both : (a b : Bool) → (a && not b) ≡ true → (a ≡ true) × (b ≡ false)
    both true true k = never k
    both true false k = (refl, refl)
    both false b k = never k

    go : (b : Bool) → alone_at limit r ≡ b → (r.ok ≡ true) × (v : ℕ) × QuantityText limit v r.rest (quantity_c limit r).next.rest
    go true e =
        let q = both (number_c limit r).next.ok (goes_on (number_c limit r).next.rest) e in
        let p = number_sound limit r q.0 in
        let n = ended_by (number_c limit r).next.rest q.1 in
        (p.0, p.1, rw (quantity_is limit r true e) (alone p.2 n.0 n.1))
    go false e =
        let i : quantity_c limit r ≡ expression_c limit r = quantity_is limit r false e in
        let x = expr_by (factor_c 16) (clean r) in
        let j : expression_c limit r ≡ settled limit r (after_blanks r.rest) x = unfold expression_c in refl in
        let k = settled_ok limit r (after_blanks r.rest) x (ap (λ (t : Took ℕ). t.next.ok) (sym (i ∙ j)) ∙ h) in
        let p = exprs_sound (clean r) k.0 in
        let w : (quantity_c limit r).next.rest ≡ x.next.rest = ap (λ (t : Took ℕ). t.next.rest) (i ∙ j) ∙ k.1 in
        let m : QuantityText limit (number_for limit p.1) r.rest x.next.rest = composed p.3 (more p.0 p.1 x.next.rest p.3) in
        (p.0, number_for limit p.1, subst (λ (l : List ℕ). QuantityText limit (number_for limit p.1) r.rest l) (sym w) m)
      where
        -- it is more than a number
        more : r.ok ≡ true → (u : Result) (s : List ℕ) → ExprText u r.rest s → (n : ℕ) → NumberText n r.rest s → ⊥
        more k u s w n t =
            let c = number_complete limit n r.rest s r.over r.far t in
            let d : number_c limit r ≡ record { value = cut limit n; next = at s (over_by (leb n limit) r.over) c.far } = ap (number_c limit) (ok_at r k) ∙ c.is in
            let m = expr_ended u r.rest s w in
            clash (ap not (goes_on_lem s m.0 m.1)) (ap (λ (y : Took ℕ). y.next.ok && not (goes_on y.next.rest)) (sym d) ∙ e)

-- ---- one value
pub quantity_one : (limit n m : ℕ) (l r s : List ℕ) → QuantityText limit n l r → QuantityText limit m l s → (n ≡ m) × (r ≡ s)
quantity_one limit n m l r s (alone a h _) (alone b k _) = number-one n m l r s a b
quantity_one limit n m l r s (alone a h j) (composed {u = v} b k) = absurd (clash (followed_by v l s b k n r a) (goes_on_lem r h j))
quantity_one limit n m l r s (composed {u = u} a h) (alone b k j) = absurd (clash (followed_by u l r a h m s b) (goes_on_lem s k j))
quantity_one limit n m l r s (composed {u = u} a h) (composed {u = v} b k) =
    let p = expr_one u v l r s a b in
    (ap (number_for limit) p.0, p.1)
