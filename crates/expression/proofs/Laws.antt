-- Chains and factors, one step at a time, in the words of the code. Assumes nothing.
use Prim.Native.Nat.{ℕ, zero, suc, ◌-◌, ◌≤◌, ◌<◌}
use mathlib.Core.Path.{◌≡◌, refl, sym, ap, ◌∙◌}
use mathlib.Core.List.{List, [], ◌∷◌}
use mathlib.Core.Bool.{Bool, true, false, cond}
use native.Mathlib.Omega.{arith}
use lib.ListN.{length}
use lib.Dec.{eqb}
use Rattle.tokens.specs.Text.{byte}
use Rattle.tokens.specs.Bytes.{after_blanks}
use Rattle.tokens.specs.Cursors.{Rest, Took, on, off, mark_here, mark_c}
use Rattle.expression.specs.declared.Amount.{Amount}
use Rattle.expression.specs.declared.Operator.{Operator}
use Rattle.expression.specs.Amounts.{apply, negated}
use Rattle.expression.specs.Expressions.{clean, plain_c, links_c, expr_by, factor_c}
use Rattle.expression.proofs.ShrinkLaws.{Shrinks, Takes, more_turns}

-- ---- marks
-- past a mark no number was too large either
here-clean : (m : ℕ) (r : Rest) (l : List ℕ) → clean (mark_here m (clean r) l) ≡ mark_here m (clean r) l
here-clean m r [] = refl
here-clean m r (x ∷ l) = by (eqb x m)
  where
    res : Bool → Rest
    res b = cond b (on (clean r) l) (off (clean r) (x ∷ l))

    by : (b : Bool) → clean (res b) ≡ res b
    by true = refl
    by false = refl

pub mark-clean : (m : ℕ) (r : Rest) → clean (mark_c m (clean r)) ≡ mark_c m (clean r)
unfolding mark_c
mark-clean m r = by r.ok
  where
    res : Bool → Rest
    res b = cond b (mark_here m (clean r) (after_blanks r.rest)) (clean r)

    by : (b : Bool) → clean (res b) ≡ res b
    by true = here-clean m r (after_blanks r.rest)
    by false = refl

-- ---- chains
abbrev pub took : Amount → Rest → Took Amount
took v r = record { value = v; next = r }

module _ (op : Rest → Took Operator) (f : Rest → Took Amount) (v : Amount) (r : Rest) where
  none_more : (n : ℕ) → (op r).next.ok ≡ false → links_c op f n (took v r) ≡ took v r
  unfolding links_c
  none_more zero e = refl
  none_more (suc n) e = rw e

  -- no operator comes next
  pub more_done : (n : ℕ) (d : Took Operator) → d ≡ op r → d.next.ok ≡ false → links_c op f n (took v r) ≡ took v r
  more_done n d p e = none_more n (ap (λ (x : Took Operator). x.next.ok) (sym p) ∙ e)

  one_more : (n : ℕ) → (op r).next.ok ≡ true → links_c op f (suc n) (took v r) ≡ links_c op f n (took (apply (op r).value v (f (op r).next).value) (f (op r).next).next)
  unfolding links_c
  one_more n e = rw e

  module _ (h : Takes op) (s : Shrinks f) (d : Took Operator) (g : Took Amount) (p : d ≡ op r) (e : d.next.ok ≡ true) (q : g ≡ f d.next) where
    -- one more is read: less is left,
    pub more_less : length g.next.rest < length r.rest
    more_less =
        let a : length d.next.rest < length r.rest = ap_less in
        let b : length g.next.rest ≤ length d.next.rest = omega (arith, s d.next, ap (λ (x : Took Amount). length x.next.rest) q) in
        omega arith
      where
        ap_less : length d.next.rest < length r.rest
        ap_less = omega (arith, h r (ap (λ (x : Took Operator). x.next.ok) (sym p) ∙ e), ap (λ (x : Took Operator). length x.next.rest) p)

    -- and the chain goes on from there as it did
    pub more_took : (w : Amount) → w ≡ apply d.value v g.value → links_c op f (length g.next.rest) (took w g.next) ≡ links_c op f (length r.rest) (took v r)
    more_took w u =
        let n : ℕ = length r.rest - 1 in
        let z : length r.rest ≡ suc n = omega (arith, more_less) in
        let o : (op r).next.ok ≡ true = ap (λ (x : Took Operator). x.next.ok) (sym p) ∙ e in
        let y : took w g.next ≡ took (apply (op r).value v (f (op r).next).value) (f (op r).next).next =
        ap (λ (x : Amount). took x g.next) u
        ∙ ap (λ (x : Took Amount). took (apply d.value v x.value) x.next) q
        ∙ ap (λ (x : Took Operator). took (apply x.value v (f x.next).value) (f x.next).next) p in
        more_turns op f h s (length g.next.rest) n (took w g.next) (omega arith) (omega (arith, more_less))
        ∙ ap (links_c op f n) y
        ∙ sym (one_more n o)
        ∙ ap (λ (x : ℕ). links_c op f x (took v r)) (sym z)

-- ---- factors
module _ (r : Rest) where
  -- no level is left
  pub level_none : (depth : ℕ) → depth ≡ 0 → plain_c r ≡ factor_c depth r
  unfolding factor_c
  level_none depth z = rw z

  group-one : (k : ℕ) → (mark_c (byte "(") r).ok ≡ true
      → took (expr_by (factor_c k) (mark_c (byte "(") r)).value (mark_c (byte ")") (expr_by (factor_c k) (mark_c (byte "(") r)).next) ≡ factor_c (suc k) r
  unfolding factor_c
  group-one k o = rw o

  pub group : (depth : ℕ) (d : Rest) (x : Took Amount) (n : Rest) → 0 < depth → d ≡ mark_c (byte "(") r → d.ok ≡ true → x ≡ expr_by (factor_c (depth - 1)) d → n ≡ mark_c (byte ")") x.next
      → took x.value n ≡ factor_c depth r
  group depth d x n h p e q u =
      let z : suc (depth - 1) ≡ depth = omega (arith, h) in
      let o : (mark_c (byte "(") r).ok ≡ true = ap (λ (x : Rest). x.ok) (sym p) ∙ e in
      let y : x ≡ expr_by (factor_c (depth - 1)) (mark_c (byte "(") r) = q ∙ ap (expr_by (factor_c (depth - 1))) p in
      ap (took x.value) u
      ∙ ap (λ (w : Took Amount). took w.value (mark_c (byte ")") w.next)) y
      ∙ group-one (depth - 1) o
      ∙ ap (λ (k : ℕ). factor_c k r) z

  module _ (d n : Rest) (p : d ≡ mark_c (byte "(") r) (e : d.ok ≡ false) (p' : n ≡ mark_c (byte "-") r) where
    no_group : (mark_c (byte "(") r).ok ≡ false
    no_group = ap (λ (x : Rest). x.ok) (sym p) ∙ e

    minus_one : (k : ℕ) → (mark_c (byte "-") r).ok ≡ true → took (negated (factor_c k (mark_c (byte "-") r)).value) (factor_c k (mark_c (byte "-") r)).next ≡ factor_c (suc k) r
    unfolding factor_c
    minus_one k o = rw (no_group, o)

    pub minus : (depth : ℕ) (x : Took Amount) (w : Amount) → 0 < depth → n.ok ≡ true → x ≡ factor_c (depth - 1) n → w ≡ negated x.value → took w x.next ≡ factor_c depth r
    minus depth x w h e' q u =
        let z : suc (depth - 1) ≡ depth = omega (arith, h) in
        let o : (mark_c (byte "-") r).ok ≡ true = ap (λ (x : Rest). x.ok) (sym p') ∙ e' in
        let y : x ≡ factor_c (depth - 1) (mark_c (byte "-") r) = q ∙ ap (factor_c (depth - 1)) p' in
        ap (λ (a : Amount). took a x.next) u
        ∙ ap (λ (w : Took Amount). took (negated w.value) w.next) y
        ∙ minus_one (depth - 1) o
        ∙ ap (λ (k : ℕ). factor_c k r) z

    pub number : (depth : ℕ) → n.ok ≡ false → plain_c r ≡ factor_c depth r
    unfolding factor_c
    number zero e' = refl
    number (suc k) e' =
        let o : (mark_c (byte "-") r).ok ≡ false = ap (λ (x : Rest). x.ok) (sym p') ∙ e' in
        rw (no_group, o)
