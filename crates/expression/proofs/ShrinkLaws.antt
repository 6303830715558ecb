-- Reading never lengthens what is left, and an operator shortens it: so a chain takes no more turns than there are bytes. Assumes nothing.
use Prim.Native.Nat.{ℕ, zero, suc, ◌-◌, ◌^◌, ◌≤◌, ◌<◌}
use mathlib.Core.Path.{◌≡◌, refl}
use mathlib.Core.List.{List, [], ◌∷◌}
use mathlib.Core.Bool.{Bool, true, false, cond}
use native.Mathlib.Omega.{arith}
use lib.ListN.{length, length-drop}
use lib.Dec.{eqb, leb}
use Rattle.tokens.specs.Text.{byte}
use Rattle.tokens.specs.Bytes.{blank, run_len, after_blanks, token_len, token_of, after_token}
use Rattle.tokens.specs.Numbers.{is_number, value_of}
use Rattle.tokens.specs.Cursors.{Rest, Took, on, off, large, mark_here, mark_c, number_is, number_here, number_c}
use Rattle.laws.proofs.BoolLaws.{clash}
use Rattle.expression.specs.declared.Amount.{Amount}
use Rattle.expression.specs.declared.Operator.{Operator}
use Rattle.expression.specs.declared.Operator.TheVariants as o
use Rattle.expression.specs.Amounts.{apply, negated}
use Rattle.expression.specs.Expressions.{clean, plain_c, sum_c, product_c, links_c, chain_c, term_by, expr_by, factor_c}

-- ---- tokens
blanks_le : (l : List ℕ) → length (after_blanks l) ≤ length l
unfolding after_blanks
blanks_le l = omega (arith, length-drop (run_len blank l) l)

after-le : (l : List ℕ) → length (after_token l) ≤ length l
unfolding after_token
after-le l = omega (arith, length-drop (token_len l) l)

here-le : (m : ℕ) (r : Rest) (l : List ℕ) → length (mark_here m r l).rest ≤ length l
here-le m r [] = omega arith
here-le m r (x ∷ l) = by (eqb x m)
  where
    res : Bool → Rest
    res b = cond b (on r l) (off r (x ∷ l))

    by : (b : Bool) → length (res b).rest ≤ suc (length l)
    by true = omega arith
    by false = omega arith

here_less : (m : ℕ) (r : Rest) (l : List ℕ) → (mark_here m r l).ok ≡ true → length (mark_here m r l).rest < length l
here_less m r [] h = absurd (clash h refl)
here_less m r (x ∷ l) h = by (eqb x m) h
  where
    res : Bool → Rest
    res b = cond b (on r l) (off r (x ∷ l))

    by : (b : Bool) → (res b).ok ≡ true → length (res b).rest < suc (length l)
    by true e = omega arith
    by false e = absurd (clash e refl)

pub mark_shrinks : (m : ℕ) (r : Rest) → length (mark_c m r).rest ≤ length r.rest
unfolding mark_c
mark_shrinks m r = by r.ok
  where
    res : Bool → Rest
    res b = cond b (mark_here m r (after_blanks r.rest)) r

    by : (b : Bool) → length (res b).rest ≤ length r.rest
    by true = omega (arith, here-le m r (after_blanks r.rest), blanks_le r.rest)
    by false = omega arith

pub mark_takes : (m : ℕ) (r : Rest) → (mark_c m r).ok ≡ true → length (mark_c m r).rest < length r.rest
unfolding mark_c
mark_takes m r h = by r.ok refl h
  where
    res : Bool → Rest
    res b = cond b (mark_here m r (after_blanks r.rest)) r

    by : (b : Bool) → r.ok ≡ b → (res b).ok ≡ true → length (res b).rest < length r.rest
    by true e h = omega (arith, here_less m r (after_blanks r.rest) h, blanks_le r.rest)
    by false e h = absurd (clash h e)

number-is-le : (limit : ℕ) (r : Rest) (l : List ℕ) (v : ℕ) → length (number_is limit r l v).next.rest ≤ length l
number-is-le limit r l v = by (leb v limit)
  where
    res : Bool → Took ℕ
    res b = cond b (record { value = v; next = on r (after_token l) }) (record { value = 0; next = large r l })

    by : (b : Bool) → length (res b).next.rest ≤ length l
    by true = after-le l
    by false = after-le l

number-here-le : (limit : ℕ) (r : Rest) (l : List ℕ) → length (number_here limit r l).next.rest ≤ length l
number-here-le limit r l = by (is_number (token_of l))
  where
    res : Bool → Took ℕ
    res b = cond b (number_is limit r l (value_of (token_of l))) (record { value = 0; next = off r l })

    by : (b : Bool) → length (res b).next.rest ≤ length l
    by true = number-is-le limit r l (value_of (token_of l))
    by false = omega arith

pub number_shrinks : (limit : ℕ) (r : Rest) → length (number_c limit r).next.rest ≤ length r.rest
unfolding number_c
number_shrinks limit r = by r.ok
  where
    res : Bool → Took ℕ
    res b = cond b (number_here limit r (after_blanks r.rest)) (record { value = 0; next = r })

    by : (b : Bool) → length (res b).next.rest ≤ length r.rest
    by true = omega (arith, number-here-le limit r (after_blanks r.rest), blanks_le r.rest)
    by false = omega arith

-- ---- chains and factors
abbrev pub Shrinks : (Rest → Took Amount) → Type 0
Shrinks f = (r : Rest) → length (f r).next.rest ≤ length r.rest

abbrev pub Takes : (Rest → Took Operator) → Type 0
Takes op = (r : Rest) → (op r).next.ok ≡ true → length (op r).next.rest < length r.rest

pub plain_shrinks : Shrinks plain_c
unfolding plain_c
plain_shrinks r = number_shrinks (2 ^ 63 - 1) (clean r)

pub sum_takes : Takes sum_c
unfolding sum_c
sum_takes r h = by (mark_c (byte "+") r).ok refl h
  where
    res : Bool → Took Operator
    res b = cond b (record { value = o.Plus; next = mark_c (byte "+") r }) (record { value = o.Minus; next = mark_c (byte "-") r })

    by : (b : Bool) → (mark_c (byte "+") r).ok ≡ b → (res b).next.ok ≡ true → length (res b).next.rest < length r.rest
    by true e h = mark_takes (byte "+") r h
    by false e h = mark_takes (byte "-") r h

pub product_takes : Takes product_c
unfolding product_c
product_takes r h = mark_takes (byte "*") r h

module _ (op : Rest → Took Operator) (f : Rest → Took Amount) (h : Takes op) (s : Shrinks f) where
  -- what one more makes of t
  abbrev onward : Took Amount → Took Amount
  onward t = record { value = apply (op t.next).value t.value (f (op t.next).next).value; next = (f (op t.next).next).next }

  onward_less : (t : Took Amount) → (op t.next).next.ok ≡ true → length (onward t).next.rest < length t.next.rest
  onward_less t e = omega (arith, h t.next e, s (op t.next).next)

  more_shrinks : (n : ℕ) (t : Took Amount) → length (links_c op f n t).next.rest ≤ length t.next.rest
  unfolding links_c
  more_shrinks zero t = omega arith
  more_shrinks (suc n) t = go (op t.next).next.ok refl (more_shrinks n (onward t))
    where
      res : Bool → Took Amount
      res b = cond b (links_c op f n (onward t)) t

      go : (b : Bool) → (op t.next).next.ok ≡ b → length (links_c op f n (onward t)).next.rest ≤ length (onward t).next.rest → length (res b).next.rest ≤ length t.next.rest
      go true e i = omega (arith, onward_less t e, i)
      go false e i = omega arith

  pub chain_shrinks : Shrinks (chain_c op f)
  unfolding chain_c
  chain_shrinks r = omega (arith, more_shrinks (length (f r).next.rest) (f r), s r)

  -- turns past the bytes that are left change nothing
  pub more_turns : (n m : ℕ) (t : Took Amount) → length t.next.rest ≤ n → length t.next.rest ≤ m → links_c op f n t ≡ links_c op f m t
  unfolding links_c
  more_turns zero zero t a b = refl
  more_turns zero (suc m) t a b = go (op t.next).next.ok refl
    where
      go : (c : Bool) → (op t.next).next.ok ≡ c → t ≡ cond c (links_c op f m (onward t)) t
      go true e = absurd (omega (arith, h t.next e, a))
      go false e = refl
  more_turns (suc n) zero t a b = go (op t.next).next.ok refl
    where
      go : (c : Bool) → (op t.next).next.ok ≡ c → cond c (links_c op f n (onward t)) t ≡ t
      go true e = absurd (omega (arith, h t.next e, b))
      go false e = refl
  more_turns (suc n) (suc m) t a b = go (op t.next).next.ok refl (more_turns n m (onward t))
    where
      go : (c : Bool) → (op t.next).next.ok ≡ c
          → (length (onward t).next.rest ≤ n → length (onward t).next.rest ≤ m → links_c op f n (onward t) ≡ links_c op f m (onward t))
          → cond c (links_c op f n (onward t)) t ≡ cond c (links_c op f m (onward t)) t
      go true e i = i (omega (arith, onward_less t e, a)) (omega (arith, onward_less t e, b))
      go false e i = refl

pub term_shrinks : (f : Rest → Took Amount) → Shrinks f → Shrinks (term_by f)
term_shrinks f s = chain_shrinks product_c f product_takes s

pub expr_shrinks : (f : Rest → Took Amount) → Shrinks f → Shrinks (expr_by f)
expr_shrinks f s = chain_shrinks sum_c (term_by f) sum_takes (term_shrinks f s)

pub factor_shrinks : (d : ℕ) → Shrinks (factor_c d)
unfolding factor_c
factor_shrinks zero r = plain_shrinks r
factor_shrinks (suc d) r = by (mark_c (byte "(") r).ok (mark_c (byte "-") r).ok (factor_shrinks d)
  where
    inner : Took Amount
    inner = expr_by (factor_c d) (mark_c (byte "(") r)

    same : Took Amount
    same = factor_c d (mark_c (byte "-") r)

    res : Bool → Bool → Took Amount
    res p m = cond p (record { value = inner.value; next = mark_c (byte ")") inner.next }) (cond m (record { value = negated same.value; next = same.next }) (plain_c r))

    by : (p m : Bool) → Shrinks (factor_c d) → length (res p m).next.rest ≤ length r.rest
    by true m s = omega (arith, mark_shrinks (byte ")") inner.next, expr_shrinks (factor_c d) s (mark_c (byte "(") r), mark_shrinks (byte "(") r)
    by false true s = omega (arith, s (mark_c (byte "-") r), mark_shrinks (byte "-") r)
    by false false s = plain_shrinks r
