-- An expression is read exactly where a text spells one: chains by induction on the bytes that are left, factors by induction on the levels. Assumes nothing.
use Rattle.tokens.specs.Text.{byte}
use Prim.Native.Nat.{ℕ, zero, suc, ◌-◌, ◌^◌, ◌≤◌}
use native.Mathlib.Omega.{arith}
use mathlib.Core.Path.{◌≡◌, refl, sym, ap, ◌∙◌}
use mathlib.Core.List.{List, [], ◌∷◌, ◌++◌}
use mathlib.Core.Bool.{Bool, true, false, ◌||◌, cond}
use lib.ListN.{length}
use lib.Dec.{leb, eqb}
use lib.IntN.{pos}
use Rattle.tokens.specs.Bytes.{letter, word_byte, blank, after_blanks}
use Rattle.tokens.specs.Cursors.{Rest, Took, mark_c, number_c}
use Rattle.laws.proofs.BoolLaws.{never, clash}
use Rattle.grammar.proofs.Lexing.{at, whole_head, other, word_at, number-whole, mark-none, mark_sound, mark_complete, mark_two, number_sound, number_complete}
use Rattle.expression.specs.declared.Amount.{Amount}
use Rattle.expression.specs.declared.Operator.{Operator}
use Rattle.expression.specs.declared.Operator.TheVariants as o
use Rattle.expression.specs.Amounts.{ranged, negated, apply}
use Rattle.expression.specs.Integers.{Result, result_of, join, opposite}
use Rattle.expression.specs.Claims.{amount_of}
use Rattle.expression.specs.Expressions.{clean, plain_c, sum_c, product_c, links_c, chain_c, term_by, expr_by, factor_c}
use Rattle.expression.proofs.ExactProved.{arithmetic_exact}
use Rattle.expression.proofs.ShrinkLaws.{Shrinks, Takes, sum_takes, product_takes, term_shrinks, factor_shrinks}
use Rattle.grammar.specs.Spells.{Mark, NumberText, ResultText, OperatorText, SumOperator, added, taken, ProductOperator, times, More, stops, next, Chain, ExprOf, Plain, group, minus, plain, FactorText}

-- what is read is spelled,
abbrev pub Sound : (Rest → Took Amount) → ResultText → Type 0
Sound f F = (r : Rest) → (f r).next.ok ≡ true → (r.ok ≡ true) × (u : Result) × ((f r).value ≡ amount_of u) × F u r.rest (f r).next.rest

-- and what is spelled is read, where no number was too large
abbrev pub Complete : (Rest → Took Amount) → ResultText → Type 0
Complete f F = (u : Result) (l r : List ℕ) → F u l r → f (at l false []) ≡ record { value = amount_of u; next = at r false [] }

abbrev pub OperatorSound : (Rest → Took Operator) → OperatorText → Type 0
OperatorSound f S = (r : Rest) → (f r).next.ok ≡ true → (r.ok ≡ true) × S (f r).value r.rest (f r).next.rest

abbrev pub OperatorComplete : (Rest → Took Operator) → OperatorText → Type 0
OperatorComplete f S = (x : Operator) (l r : List ℕ) (v : Bool) (g : List ℕ) → S x l r → f (at l v g) ≡ record { value = x; next = at r v g }

-- where reading goes on
pub ok_at : (r : Rest) → r.ok ≡ true → r ≡ at r.rest r.over r.far
ok_at r k = ap (λ (b : Bool). record { rest = r.rest; ok = b; over = r.over; far = r.far }) k

-- a mark that is not read does not come next
mark-not : (m : ℕ) (l : List ℕ) (v : Bool) (g : List ℕ) → ((r : List ℕ) → Mark m l r → ⊥) → (mark_c m (at l v g)).ok ≡ false
mark-not m l v g n = go (mark_c m (at l v g)).ok refl
  where
    go : (b : Bool) → (mark_c m (at l v g)).ok ≡ b → b ≡ false
    go true e = absurd (n (mark_c m (at l v g)).rest (mark_sound m (at l v g) e).1)
    go false e = refl

-- ---- operators
sum_sound : OperatorSound sum_c SumOperator
unfolding sum_c
sum_sound r h = go (mark_c (byte "+") r).ok refl h
  where
    res : Bool → Took Operator
    res b = cond b (record { value = o.Plus; next = mark_c (byte "+") r }) (record { value = o.Minus; next = mark_c (byte "-") r })

    go : (b : Bool) → (mark_c (byte "+") r).ok ≡ b → (res b).next.ok ≡ true → (r.ok ≡ true) × SumOperator (res b).value r.rest (res b).next.rest
    go true e k = let x = mark_sound (byte "+") r e in (x.0, added x.1)
    go false e k = let x = mark_sound (byte "-") r k in (x.0, taken x.1)

sum_complete : OperatorComplete sum_c SumOperator
unfolding sum_c blank
sum_complete o.Plus l r v g (added m) = rw (mark_complete (byte "+") l r v g refl m)
sum_complete o.Minus l r v g (taken m) =
    rw (mark-not (byte "+") l v g (λ s k. mark_two (byte "-") (byte "+") l r s refl refl refl m k), mark_complete (byte "-") l r v g refl m)
sum_complete o.Times l r v g z = elim z [ ]

product_sound : OperatorSound product_c ProductOperator
unfolding product_c
product_sound r h = let x = mark_sound (byte "*") r h in (x.0, times x.1)

product_complete : OperatorComplete product_c ProductOperator
unfolding product_c blank
product_complete o.Plus l r v g z = elim z [ ]
product_complete o.Minus l r v g z = elim z [ ]
product_complete o.Times l r v g (times m) = rw (mark_complete (byte "*") l r v g refl m)

-- ---- chains
-- of two amounts, as the integers have it
joined_as : (x : Operator) (v w : Result) (a b : Amount) → a ≡ amount_of v → b ≡ amount_of w → apply x a b ≡ amount_of (join x v w)
joined_as x v w a b p q = ap (λ (y : Amount). apply x y b) p ∙ ap (apply x (amount_of v)) q ∙ arithmetic_exact.joined x v w

module _ (op : Rest → Took Operator) (S : OperatorText) (ss : OperatorSound op S) (sc : OperatorComplete op S) (tk : Takes op) (f : Rest → Took Amount) (sh : Shrinks f) (F : ResultText) where
  abbrev onward : Took Amount → Took Amount
  onward t = record { value = apply (op t.next).value t.value (f (op t.next).next).value; next = (f (op t.next).next).next }

  none_here : (l : List ℕ) (v : Bool) (g : List ℕ) → (op (at l v g)).next.ok ≡ false → (x : Operator) (r : List ℕ) → S x l r → ⊥
  none_here l v g e x r s = never (sym e ∙ ap (λ (t : Took Operator). t.next.ok) (sc x l r v g s))

  here-none : (l : List ℕ) (v : Bool) (g : List ℕ) → ((x : Operator) (r : List ℕ) → S x l r → ⊥) → (op (at l v g)).next.ok ≡ false
  here-none l v g n = go (op (at l v g)).next.ok refl
    where
      go : (b : Bool) → (op (at l v g)).next.ok ≡ b → b ≡ false
      go true e = absurd (n (op (at l v g)).value (op (at l v g)).next.rest (ss (at l v g) e).1)
      go false e = refl

  stop_here : (r : Rest) → r.ok ≡ true → (op r).next.ok ≡ false → (x : Operator) (s : List ℕ) → S x r.rest s → ⊥
  stop_here r k e = none_here r.rest r.over r.far (ap (λ (q : Rest). (op q).next.ok) (sym (ok_at r k)) ∙ e)

  more_ok : Sound f F → (n : ℕ) (t : Took Amount) → (links_c op f n t).next.ok ≡ true → t.next.ok ≡ true
  unfolding links_c
  more_ok s zero t h = h
  more_ok s (suc n) t h = go (op t.next).next.ok refl h (more_ok s n (onward t))
    where
      res : Bool → Took Amount
      res c = cond c (links_c op f n (onward t)) t

      go : (c : Bool) → (op t.next).next.ok ≡ c → (res c).next.ok ≡ true → ((links_c op f n (onward t)).next.ok ≡ true → (onward t).next.ok ≡ true) → t.next.ok ≡ true
      go true e k i = (ss t.next (s (op t.next).next (i k)).0).0
      go false e k i = k

  -- what is read from t on, whose value is v
  abbrev Spelled : ℕ → Took Amount → Result → Type 0
  Spelled n t v = (u : Result) × ((links_c op f n t).value ≡ amount_of u) × More S F v u t.next.rest (links_c op f n t).next.rest

  more_sound : Sound f F → (n : ℕ) (t : Took Amount) (v : Result) → t.value ≡ amount_of v → length t.next.rest ≤ n → (links_c op f n t).next.ok ≡ true → Spelled n t v
  unfolding links_c
  more_sound s zero t v p b h = (v, p, stops (nothing (op t.next).next.ok refl))
    where
      nothing : (c : Bool) → (op t.next).next.ok ≡ c → (x : Operator) (r : List ℕ) → S x t.next.rest r → ⊥
      nothing true e = absurd (omega (arith, tk t.next e, b))
      nothing false e = stop_here t.next h e
  more_sound s (suc n) t v p b h = go (op t.next).next.ok refl h (more_sound s n (onward t))
    where
      res : Bool → Took Amount
      res c = cond c (links_c op f n (onward t)) t

      go : (c : Bool) → (op t.next).next.ok ≡ c → (res c).next.ok ≡ true
          → ((v : Result) → (onward t).value ≡ amount_of v → length (onward t).next.rest ≤ n → (links_c op f n (onward t)).next.ok ≡ true → Spelled n (onward t) v)
          → (u : Result) × ((res c).value ≡ amount_of u) × More S F v u t.next.rest (res c).next.rest
      go true e k i =
          let x = ss t.next e in
          let y = s (op t.next).next (more_ok s n (onward t) k) in
          let q = joined_as (op t.next).value v y.1 t.value (f (op t.next).next).value p y.2 in
          let z = i (join (op t.next).value v y.1) q (omega (arith, b, tk t.next e, sh (op t.next).next)) k in
          (z.0, z.1, next x.1 y.3 z.2)
      go false e k i = (v, p, stops (stop_here t.next k e))

  more_complete : Complete f F → (n : ℕ) (v u : Result) (l r : List ℕ) → length l ≤ n → More S F v u l r
      → links_c op f n (record { value = amount_of v; next = at l false [] }) ≡ record { value = amount_of u; next = at r false [] }
  unfolding links_c
  more_complete c zero v u l r h (stops z) = refl
  more_complete c zero v u l r h (next {x = x} {l₁ = l₁} s t i) =
      absurd (omega (arith, h, tk (at l false []) (ap (λ (q : Took Operator). q.next.ok) (sc x l l₁ false [] s))))
  more_complete c (suc n) v u l r h (stops z) = rw (here-none l false [] z)
  more_complete c (suc n) v u l r h (next {x = x} {w = w} {l₁ = l₁} {l₂ = l₂} s t i) =
      let p = sc x l l₁ false [] s in
      let q = c w l₁ l₂ t in
      let a : length l₁ ≤ n = omega (arith, h, tk (at l false []) (ap (λ (y : Took Operator). y.next.ok) p), ap (λ (y : Took Operator). length y.next.rest) p) in
      let k : length l₂ ≤ n = omega (arith, a, sh (at l₁ false []), ap (λ (y : Took Amount). length y.next.rest) q) in
      rw (p, q, arithmetic_exact.joined x v w) (more_complete c n (join x v w) u l₂ r k i)

  pub chain_sound : Sound f F → Sound (chain_c op f) (Chain S F)
  unfolding chain_c
  chain_sound s r h =
      let n = length (f r).next.rest in
      let y = s r (more_ok s n (f r) h) in
      let z = more_sound s n (f r) y.1 y.2 (omega arith) h in
      (y.0, z.0, z.1, record { v = y.1; l₁ = (f r).next.rest; head = y.3; tail = z.2 })

  pub chain_complete : Complete f F → Complete (chain_c op f) (Chain S F)
  unfolding chain_c
  chain_complete c u l r t = rw (c t.v l t.l₁ t.head) (more_complete c (length t.l₁) t.v u t.l₁ r (omega arith) t.tail)

pub expr_sound : (f : Rest → Took Amount) (F : ResultText) → Shrinks f → Sound f F → Sound (expr_by f) (ExprOf F)
expr_sound f F sh s =
    chain_sound sum_c SumOperator sum_sound sum_complete sum_takes (term_by f) (term_shrinks f sh) (Chain ProductOperator F)
    (chain_sound product_c ProductOperator product_sound product_complete product_takes f sh F s)

pub expr_complete : (f : Rest → Took Amount) (F : ResultText) → Shrinks f → Complete f F → Complete (expr_by f) (ExprOf F)
expr_complete f F sh c =
    chain_complete sum_c SumOperator sum_sound sum_complete sum_takes (term_by f) (term_shrinks f sh) (Chain ProductOperator F)
    (chain_complete product_c ProductOperator product_sound product_complete product_takes f sh F c)

-- ---- numbers
-- the number read up to 2^63 - 1, or that it was over, is the number if it is in range
cut_ranged : (n : ℕ) → record { over = cond (leb n (2 ^ 63 - 1)) false true; minus = false; size = cond (leb n (2 ^ 63 - 1)) n 0 } ≡ ranged false n
unfolding ranged
cut_ranged n = go (leb n (2 ^ 63 - 1))
  where
    go : (b : Bool) → ◌≡◌ {A = Amount} (record { over = cond b false true; minus = false; size = cond b n 0 }) (cond b (record { over = false; minus = false; size = n }) (record { over = true; minus = false; size = 0 }))
    go true = refl
    go false = refl

pub plain_complete : Complete plain_c Plain
unfolding plain_c
plain_complete u l r t =
    let p = number_complete (2 ^ 63 - 1) t.number l r false [] t.spelled in
    rw (p.is, cut_ranged t.number, arithmetic_exact.number t.number, t.value)

pub plain_sound : Sound plain_c Plain
unfolding plain_c
plain_sound r h =
    let p = number_sound (2 ^ 63 - 1) (clean r) h in
    let q = number_complete (2 ^ 63 - 1) p.1 r.rest (plain_c r).next.rest false [] p.2 in
    let e : clean r ≡ at r.rest false [] = ok_at (clean r) p.0 in
    let v : (plain_c r).value ≡ ranged false p.1 =
    ap (λ (x : Rest). record { over = (number_c (2 ^ 63 - 1) x).next.over; minus = false; size = (number_c (2 ^ 63 - 1) x).value }) e
    ∙ ap (λ (x : Took ℕ). record { over = x.next.over; minus = false; size = x.value }) q.is
    ∙ cut_ranged p.1 in
    (p.0, result_of (pos p.1), v ∙ arithmetic_exact.number p.1, record { number = p.1; spelled = p.2; value = refl })

-- a number starts with no mark
number_first : (n m : ℕ) (l r s : List ℕ) → blank m ≡ false → (word_byte m || eqb m (byte "%")) ≡ false → NumberText n l r → Mark m l s → ⊥
number_first n m l r s d k t x =
    let w = whole_head t.bytes (number-whole t.bytes t.good) in
    let p : after_blanks l ≡ w.0 ∷ (w.1 ++ r) = word_at t.bytes l r (number-whole t.bytes t.good) t.spelled ∙ ap (λ (u : List ℕ). u ++ r) w.2 in
    let e = mark-none m w.0 l (w.1 ++ r) false [] p (other w.0 m w.3 k) in
    clash (ap (λ (q : Rest). q.ok) (mark_complete m l s false [] d x)) e

-- ---- factors
pub factor_sound : (d : ℕ) → Sound (factor_c d) (FactorText d)
unfolding factor_c
factor_sound zero r h = plain_sound r h
factor_sound (suc d) r h = go (mark_c (byte "(") r).ok refl (mark_c (byte "-") r).ok refl h (factor_sound d)
  where
    inner : Took Amount
    inner = expr_by (factor_c d) (mark_c (byte "(") r)

    same : Took Amount
    same = factor_c d (mark_c (byte "-") r)

    res : Bool → Bool → Took Amount
    res p m = cond p (record { value = inner.value; next = mark_c (byte ")") inner.next }) (cond m (record { value = negated same.value; next = same.next }) (plain_c r))

    go : (p : Bool) → (mark_c (byte "(") r).ok ≡ p → (m : Bool) → (mark_c (byte "-") r).ok ≡ m → (res p m).next.ok ≡ true → Sound (factor_c d) (FactorText d)
        → (r.ok ≡ true) × (u : Result) × ((res p m).value ≡ amount_of u) × FactorText (suc d) u r.rest (res p m).next.rest
    go true e m e' k ih =
        let z = mark_sound (byte ")") inner.next k in
        let y = expr_sound (factor_c d) (FactorText d) (factor_shrinks d) ih (mark_c (byte "(") r) z.0 in
        let x = mark_sound (byte "(") r e in
        (x.0, y.1, y.2, group x.1 y.3 z.1)
    go false e true e' k ih =
        let y = ih (mark_c (byte "-") r) k in
        let x = mark_sound (byte "-") r e' in
        (x.0, opposite y.1, ap negated y.2 ∙ arithmetic_exact.negated y.1, minus x.1 y.3)
    go false e false e' k ih = let y = plain_sound r k in (y.0, y.1, y.2, plain y.3)

pub factor_complete : (d : ℕ) → Complete (factor_c d) (FactorText d)
unfolding factor_c blank word_byte letter
factor_complete zero u l r t = plain_complete u l r t
factor_complete (suc d) u l r (group {l₁ = l₁} {l₂ = l₂} x e c) =
    rw (mark_complete (byte "(") l l₁ false [] refl x, expr_complete (factor_c d) (FactorText d) (factor_shrinks d) (factor_complete d) u l₁ l₂ e, mark_complete (byte ")") l₂ r false [] refl c)
factor_complete (suc d) u l r (minus {u = w} {l₁ = l₁} x t) =
    rw (mark-not (byte "(") l false [] (λ s k. mark_two (byte "-") (byte "(") l l₁ s refl refl refl x k), mark_complete (byte "-") l l₁ false [] refl x, factor_complete d w l₁ r t, arithmetic_exact.negated w)
factor_complete (suc d) u l r (plain t) =
    rw (mark-not (byte "(") l false [] (λ s k. number_first t.number (byte "(") l r s refl refl t.spelled k), mark-not (byte "-") l false [] (λ s k. number_first t.number (byte "-") l r s refl refl t.spelled k))
    (plain_complete u l r t)
