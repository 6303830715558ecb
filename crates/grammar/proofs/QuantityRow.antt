-- Where a number stands, a quantity is read as its row of tokens is: a factor of 16 levels and a chain. Values do not matter here, nor which operator binds closer.
-- Assumes nothing.
use Prim.Native.Nat.{ℕ, zero, suc, ◌-◌, ◌^◌, ◌≤◌, ◌<◌}
use native.Mathlib.Omega.{arith}
use mathlib.Core.Path.{◌≡◌, refl, sym, ap, ◌∙◌}
use mathlib.Core.List.{List, [], ◌∷◌}
use mathlib.Core.Bool.{Bool, true, false, not, ◌&&◌, ◌||◌, cond}
use lib.ListN.{length, get_or, drop}
use lib.Dec.{eqb, leb}
use lib.IntN.{pos}
use borrow.Author.Tests.{eqb-true}
use Rattle.tokens.specs.Text.{byte}
use Rattle.tokens.specs.Bytes.{letter, word_byte, run_len, after_blanks, token_len, token_of, after_token}
use Rattle.tokens.specs.Numbers.{is_number, value_of}
use Rattle.tokens.specs.Cursors.{Rest, Took, on, off, large, mark_here, mark_c, number_is, number_here, number_c}
use Rattle.laws.proofs.BoolLaws.{never, clash, or_left, or_right}
use Rattle.grammar.proofs.Lexing.{starts, number_sound}
use Rattle.expression.specs.declared.Amount.{Amount}
use Rattle.expression.specs.declared.Operator.{Operator}
use Rattle.expression.specs.declared.Operator.TheVariants as o
use Rattle.expression.specs.Amounts.{negated, apply}
use Rattle.expression.specs.Integers.{result_of}
use Rattle.expression.specs.Expressions.{clean, keeping, plain_c, sum_c, product_c, links_c, chain_c, term_by, expr_by, factor_c, fits_in, settled, expression_c, goes_on, quantity_c}
use Rattle.expression.proofs.ShrinkLaws.{mark_takes, factor_shrinks}
use Rattle.grammar.proofs.Expressions.{ok_at}
use Rattle.grammar.proofs.Quantities.{alone_at, quantity_is, exprs_complete, alone_expr}
use Rattle.grammar.proofs.Stops.{Stand, good, bad, Kind, Row, one, branch, factor, chain, signs, tok, rest, reads, branch_yes, branch_no, reads-one, reads-chain, reads-number, reads-factor}

-- ---- one token
abbrev pub stand : Rest → Stand
stand r = record { rest = r.rest; ok = r.ok }

abbrev pub run : Row → Stand → Stand
run g r = cond r.ok (reads g r.rest) r

abbrev pub first : Kind → List ℕ → Stand
first f b = cond (f.test (token_of b)) (good (after_token b)) (bad b)

abbrev pub sticky : Kind → Stand → Stand
sticky f r = cond r.ok (first f (after_blanks r.rest)) r

fold_by : (g : Row) (v : Bool) (x y : List ℕ) → run g (cond v (good x) (bad y)) ≡ cond v (reads g x) (bad y)
fold_by g true x y = refl
fold_by g false x y = refl

-- a token, and then g
pub fold_at : (f : Kind) (g : Row) (l : List ℕ) (b : Bool) → run g (sticky f (record { rest = l; ok = b })) ≡ run (one f g) (record { rest = l; ok = b })
fold_at f g l true = fold_by g (f.test (tok l)) (rest l) (after_blanks l) ∙ sym (reads-one l f g)
fold_at f g l false = refl

abbrev byte_test : ℕ → List ℕ → Bool
byte_test m w = eqb (get_or w 0 0) m

-- a mark that is no part of a longer token
module _ (m : ℕ) (z : eqb 0 m ≡ false) (w : starts m ≡ false) where
  mark_first : (r : Rest) (b : List ℕ) → stand (mark_here m r b) ≡ cond (byte_test m (token_of b)) (good (after_token b)) (bad b)
  unfolding token_of after_token token_len
  mark_first r [] = rw z
  mark_first r (x ∷ l) = go (eqb x m) refl
    where
      go : (v : Bool) → eqb x m ≡ v → stand (cond v (on r l) (off r (x ∷ l))) ≡ cond v (good (drop (cond (starts x) (run_len word_byte l) 0) l)) (bad (x ∷ l))
      go true e = let q : starts x ≡ false = ap starts (eqb-true x m e) ∙ w in rw q
      go false e = refl

  mark_stand : (r : Rest) → stand (mark_c m r) ≡ cond r.ok (cond (byte_test m (tok r.rest)) (good (rest r.rest)) (bad (after_blanks r.rest))) (stand r)
  unfolding mark_c
  mark_stand r = go r.ok
    where
      go : (v : Bool) → stand (cond v (mark_here m r (after_blanks r.rest)) r) ≡ cond v (cond (byte_test m (tok r.rest)) (good (rest r.rest)) (bad (after_blanks r.rest))) (stand r)
      go true = mark_first r (after_blanks r.rest)
      go false = refl

  -- where it is read, and where it is not
  mark_yes : (r : Rest) → (mark_c m r).ok ≡ true → (r.ok ≡ true) × (byte_test m (tok r.rest) ≡ true) × (stand (mark_c m r) ≡ good (rest r.rest))
  mark_yes r h = go r.ok refl (byte_test m (tok r.rest)) refl (ap (λ (s : Stand). s.ok) (sym (mark_stand r)) ∙ h)
    where
      go : (a : Bool) → r.ok ≡ a → (b : Bool) → byte_test m (tok r.rest) ≡ b → (cond a (cond b (good (rest r.rest)) (bad (after_blanks r.rest))) (stand r)).ok ≡ true
          → (a ≡ true) × (b ≡ true) × (stand (mark_c m r) ≡ good (rest r.rest))
      go true p true q k = (refl, refl, mark_stand r ∙ rw (p, q))
      go true p false q k = never k
      go false p b q k = never (sym p ∙ k)

  mark_no : (r : Rest) → r.ok ≡ true → (mark_c m r).ok ≡ false → byte_test m (tok r.rest) ≡ false
  mark_no r k h = go (byte_test m (tok r.rest)) refl (ap (λ (s : Stand). s.ok) (sym (mark_stand r)) ∙ h)
    where
      go : (b : Bool) → byte_test m (tok r.rest) ≡ b → (cond r.ok (cond b (good (rest r.rest)) (bad (after_blanks r.rest))) (stand r)).ok ≡ false → b ≡ false
      go true q j = never (sym j ∙ ap (λ (a : Bool). (cond a (good (rest r.rest)) (stand r)).ok) k)
      go false q j = refl

-- ---- chains, their values left out
unfoldable more_r : (Rest → Rest) → (Rest → Rest) → ℕ → Rest → Rest
more_r op f zero r = r
more_r op f (suc n) r = cond (op r).ok (more_r op f n (f (op r))) r

more_next : (op : Rest → Took Operator) (f : Rest → Took Amount) (n : ℕ) (t : Took Amount) → (links_c op f n t).next ≡ more_r (λ r. (op r).next) (λ r. (f r).next) n t.next
unfolding links_c more_r
more_next op f zero t = refl
more_next op f (suc n) t =
    go (op t.next).next.ok (more_next op f n (record { value = apply (op t.next).value t.value (f (op t.next).next).value; next = (f (op t.next).next).next }))
  where
    on_it : Took Amount
    on_it = links_c op f n (record { value = apply (op t.next).value t.value (f (op t.next).next).value; next = (f (op t.next).next).next })

    rests : Rest
    rests = more_r (λ r. (op r).next) (λ r. (f r).next) n (f (op t.next).next).next

    go : (b : Bool) → on_it.next ≡ rests → (cond b on_it t).next ≡ cond b rests t.next
    go true i = i
    go false i = refl

more_same : (op f g : Rest → Rest) → ((r : Rest) → f r ≡ g r) → (n : ℕ) (r : Rest) → more_r op f n r ≡ more_r op g n r
unfolding more_r
more_same op f g e zero r = refl
more_same op f g e (suc n) r = ap (λ (x : Rest). cond (op r).ok x r) (ap (more_r op f n) (e (op r)) ∙ more_same op f g e n (g (op r)))

module _ (op f : Rest → Rest) (tk : (r : Rest) → (op r).ok ≡ true → length (op r).rest < length r.rest) (sh : (r : Rest) → length (f r).rest ≤ length r.rest) where
  turns-R : (n m : ℕ) (r : Rest) → length r.rest ≤ n → length r.rest ≤ m → more_r op f n r ≡ more_r op f m r
  unfolding more_r
  turns-R zero zero r a b = refl
  turns-R zero (suc m) r a b = go (op r).ok refl
    where
      go : (c : Bool) → (op r).ok ≡ c → r ≡ cond c (more_r op f m (f (op r))) r
      go true e = absurd (omega (arith, tk r e, a))
      go false e = refl
  turns-R (suc n) zero r a b = go (op r).ok refl
    where
      go : (c : Bool) → (op r).ok ≡ c → cond c (more_r op f n (f (op r))) r ≡ r
      go true e = absurd (omega (arith, tk r e, b))
      go false e = refl
  turns-R (suc n) (suc m) r a b = go (op r).ok refl (turns-R n m (f (op r)))
    where
      go : (c : Bool) → (op r).ok ≡ c → (length (f (op r)).rest ≤ n → length (f (op r)).rest ≤ m → more_r op f n (f (op r)) ≡ more_r op f m (f (op r)))
          → cond c (more_r op f n (f (op r))) r ≡ cond c (more_r op f m (f (op r))) r
      go true e i = i (omega (arith, a, tk r e, sh (op r))) (omega (arith, b, tk r e, sh (op r)))
      go false e i = refl

  abbrev loop_r : Rest → Rest
  loop_r r = more_r op f (length r.rest) r

  more_step : (n : ℕ) (r : Rest) → (op r).ok ≡ true → more_r op f (suc n) r ≡ more_r op f n (f (op r))
  unfolding more_r
  more_step n r e = rw e

  more_stay : (n : ℕ) (r : Rest) → (op r).ok ≡ false → more_r op f n r ≡ r
  unfolding more_r
  more_stay zero r e = refl
  more_stay (suc n) r e = rw e

  loop_yes : (r : Rest) → (op r).ok ≡ true → loop_r r ≡ loop_r (f (op r))
  loop_yes r e =
      let n : ℕ = length r.rest - 1 in
      let z : length r.rest ≡ suc n = omega (arith, tk r e) in
      ap (λ (k : ℕ). more_r op f k r) z
      ∙ more_step n r e
      ∙ turns-R n (length (f (op r)).rest) (f (op r)) (omega (arith, tk r e, sh (op r))) (omega arith)

  loop_no : (r : Rest) → (op r).ok ≡ false → loop_r r ≡ r
  loop_no r e = more_stay (length r.rest) r e

  more_le : (n : ℕ) (r : Rest) → length (more_r op f n r).rest ≤ length r.rest
  unfolding more_r
  more_le zero r = omega arith
  more_le (suc n) r = go (op r).ok refl (more_le n (f (op r)))
    where
      go : (c : Bool) → (op r).ok ≡ c → length (more_r op f n (f (op r))).rest ≤ length (f (op r)).rest → length (cond c (more_r op f n (f (op r))) r).rest ≤ length r.rest
      go true e i = omega (arith, i, tk r e, sh (op r))
      go false e i = omega arith

-- ---- the kinds' tests
operator_test : (w : List ℕ) → signs.operator.test w ≡ (byte_test (byte "+") w || byte_test (byte "-") w || byte_test (byte "*") w)
unfolding signs
operator_test w = refl

opens-test : (w : List ℕ) → signs.opens.test w ≡ byte_test (byte "(") w
unfolding signs
opens-test w = refl

minus-test : (w : List ℕ) → signs.minus.test w ≡ byte_test (byte "-") w
unfolding signs
minus-test w = refl

closes-test : (w : List ℕ) → signs.closes.test w ≡ byte_test (byte ")") w
unfolding signs
closes-test w = refl

number-test : (w : List ℕ) → signs.number.test w ≡ is_number w
unfolding signs
number-test w = refl

-- the facts of a mark
dark_+ : (eqb 0 (byte "+") ≡ false) × (starts (byte "+") ≡ false)
unfolding word_byte letter
dark_+ = (refl, refl)

dark-- : (eqb 0 (byte "-") ≡ false) × (starts (byte "-") ≡ false)
unfolding word_byte letter
dark-- = (refl, refl)

dark_* : (eqb 0 (byte "*") ≡ false) × (starts (byte "*") ≡ false)
unfolding word_byte letter
dark_* = (refl, refl)

dark_open : (eqb 0 (byte "(") ≡ false) × (starts (byte "(") ≡ false)
unfolding word_byte letter
dark_open = (refl, refl)

dark_close : (eqb 0 (byte ")") ≡ false) × (starts (byte ")") ≡ false)
unfolding word_byte letter
dark_close = (refl, refl)

abbrev prod : Rest → Rest
prod r = mark_c (byte "*") r

abbrev sum : Rest → Rest
sum r = (sum_c r).next

prod_takes : (r : Rest) → (prod r).ok ≡ true → length (prod r).rest < length r.rest
prod_takes r e = mark_takes (byte "*") r e

-- a + or a -, read
sum_yes : (r : Rest) → (sum r).ok ≡ true → (r.ok ≡ true) × (signs.operator.test (tok r.rest) ≡ true) × (stand (sum r) ≡ good (rest r.rest)) × (length (sum r).rest < length r.rest)
unfolding sum_c
sum_yes r h = go (mark_c (byte "+") r).ok refl h
  where
    res : Bool → Took Operator
    res b = cond b (record { value = o.Plus; next = mark_c (byte "+") r }) (record { value = o.Minus; next = mark_c (byte "-") r })

    a : Bool
    a = byte_test (byte "+") (tok r.rest)

    m : Bool
    m = byte_test (byte "-") (tok r.rest)

    s : Bool
    s = byte_test (byte "*") (tok r.rest)

    go : (b : Bool) → (mark_c (byte "+") r).ok ≡ b → (res b).next.ok ≡ true
        → (r.ok ≡ true) × (signs.operator.test (tok r.rest) ≡ true) × (stand (res b).next ≡ good (rest r.rest)) × (length (res b).next.rest < length r.rest)
    go true e k =
        let y = mark_yes (byte "+") dark_+.0 dark_+.1 r k in
        (y.0, operator_test (tok r.rest) ∙ or_left (a || m) s (or_left a m y.1), y.2, mark_takes (byte "+") r k)
    go false e k =
        let y = mark_yes (byte "-") dark--.0 dark--.1 r k in
        (y.0, operator_test (tok r.rest) ∙ or_left (a || m) s (or_right a m y.1), y.2, mark_takes (byte "-") r k)

sum_no : (r : Rest) → (sum r).ok ≡ false → ((mark_c (byte "+") r).ok ≡ false) × ((mark_c (byte "-") r).ok ≡ false)
unfolding sum_c
sum_no r h = go (mark_c (byte "+") r).ok refl h
  where
    res : Bool → Took Operator
    res b = cond b (record { value = o.Plus; next = mark_c (byte "+") r }) (record { value = o.Minus; next = mark_c (byte "-") r })

    go : (b : Bool) → (mark_c (byte "+") r).ok ≡ b → (res b).next.ok ≡ false → (b ≡ false) × ((mark_c (byte "-") r).ok ≡ false)
    go true e k = absurd (clash e k)
    go false e k = (refl, k)

sum_takes : (r : Rest) → (sum r).ok ≡ true → length (sum r).rest < length r.rest
sum_takes r h = (sum_yes r h).3

prod_yes : (r : Rest) → (prod r).ok ≡ true → (r.ok ≡ true) × (signs.operator.test (tok r.rest) ≡ true) × (stand (prod r) ≡ good (rest r.rest))
prod_yes r k =
    let y = mark_yes (byte "*") dark_*.0 dark_*.1 r k in
    let w = tok r.rest in
    (y.0, operator_test w ∙ or_right (byte_test (byte "+") w || byte_test (byte "-") w) (byte_test (byte "*") w) y.1, y.2)

none-next : (r : Rest) → r.ok ≡ true → (prod r).ok ≡ false → (sum r).ok ≡ false → signs.operator.test (tok r.rest) ≡ false
none-next r k p q =
    let s = sum_no r q in
    let w = tok r.rest in
    operator_test w
    ∙ rw (mark_no (byte "+") dark_+.0 dark_+.1 r k s.0, mark_no (byte "-") dark--.0 dark--.1 r k s.1, mark_no (byte "*") dark_*.0 dark_*.1 r k p)

-- ---- a chain of terms of factors is read as its row
module _ (f : Rest → Rest) (d : ℕ) (by_Row : (g : Row) (r : Rest) → run g (stand (f r)) ≡ run (factor d g) (stand r)) (sh : (r : Rest) → length (f r).rest ≤ length r.rest) where
  abbrev prod_r : Rest → Rest
  prod_r r = loop_r prod f prod_takes sh r

  abbrev term_r : Rest → Rest
  term_r r = prod_r (f r)

  term_le : (r : Rest) → length (term_r r).rest ≤ length r.rest
  term_le r = omega (arith, more_le prod f prod_takes sh (length (f r).rest) (f r), sh r)

  abbrev sums_r : Rest → Rest
  sums_r r = loop_r sum term_r sum_takes term_le r

  -- past an operator
  past_one : (g : Row) (r e : Rest) → r.ok ≡ true → signs.operator.test (tok r.rest) ≡ true → stand e ≡ good (rest r.rest) → run (chain d g) (stand (f e)) ≡ run (chain d g) (stand r)
  past_one g r e k t p =
      by_Row (chain d g) e
      ∙ ap (run (factor d (chain d g))) p
      ∙ sym (ap (λ (b : Bool). cond b (reads (chain d g) r.rest) (stand r)) k ∙ reads-chain r.rest d g ∙ branch_yes signs.operator (factor d (chain d g)) g r.rest t)

  chain_step : (g : Row) (r : Rest) → ((e : Rest) → length e.rest < length r.rest → run g (stand (sums_r (prod_r e))) ≡ run (chain d g) (stand e)) → run g (stand (sums_r (prod_r r))) ≡ run (chain d g) (stand r)
  chain_step g r ih = go (prod r).ok refl (sum r).ok refl r.ok refl
    where
      go : (a : Bool) → (prod r).ok ≡ a → (b : Bool) → (sum r).ok ≡ b → (c : Bool) → r.ok ≡ c → run g (stand (sums_r (prod_r r))) ≡ run (chain d g) (stand r)
      go true p b q c u =
          let y = prod_yes r p in
          ap (λ (x : Rest). run g (stand (sums_r x))) (loop_yes prod f prod_takes sh r p)
          ∙ ih (f (prod r)) (omega (arith, prod_takes r p, sh (prod r)))
          ∙ past_one g r (prod r) y.0 y.1 y.2
      go false p true q c u =
          let y = sum_yes r q in
          ap (λ (x : Rest). run g (stand (sums_r x))) (loop_no prod f prod_takes sh r p)
          ∙ ap (λ (x : Rest). run g (stand x)) (loop_yes sum term_r sum_takes term_le r q)
          ∙ ih (f (sum r)) (omega (arith, sum_takes r q, sh (sum r)))
          ∙ past_one g r (sum r) y.0 y.1 y.2
      go false p false q true u =
          ap (λ (x : Rest). run g (stand (sums_r x))) (loop_no prod f prod_takes sh r p)
          ∙ ap (λ (x : Rest). run g (stand x)) (loop_no sum term_r sum_takes term_le r q)
          ∙ ap (λ (b : Bool). cond b (reads g r.rest) (stand r)) u
          ∙ sym (ap (λ (b : Bool). cond b (reads (chain d g) r.rest) (stand r)) u ∙ reads-chain r.rest d g ∙ branch_no signs.operator (factor d (chain d g)) g r.rest (none-next r u p q))
      go false p false q false u =
          ap (λ (x : Rest). run g (stand (sums_r x))) (loop_no prod f prod_takes sh r p)
          ∙ ap (λ (x : Rest). run g (stand x)) (loop_no sum term_r sum_takes term_le r q)
          ∙ ap (λ (b : Bool). cond b (reads g r.rest) (stand r)) u
          ∙ sym (ap (λ (b : Bool). cond b (reads (chain d g) r.rest) (stand r)) u)

  chain-all : (k : ℕ) (g : Row) (r : Rest) → length r.rest ≤ k → run g (stand (sums_r (prod_r r))) ≡ run (chain d g) (stand r)
  chain-all zero g r h = chain_step g r (λ e c. absurd (omega (arith, h, c)))
  chain-all (suc k) g r h = chain_step g r (λ e c. chain-all k g e (omega (arith, h, c)))

  chain_as : (g : Row) (r : Rest) → run g (stand (sums_r (term_r r))) ≡ run (factor d (chain d g)) (stand r)
  chain_as g r = chain-all (length (f r).rest) g (f r) (omega arith) ∙ by_Row (chain d g) r

-- ---- factors
abbrev next_of : ℕ → Rest → Rest
next_of d r = (factor_c d r).next

next_le : (d : ℕ) (r : Rest) → length (next_of d r).rest ≤ length r.rest
next_le d r = factor_shrinks d r

abbrev As : ℕ → Type 0
As d = (g : Row) (r : Rest) → run g (stand (next_of d r)) ≡ run (factor d g) (stand r)

-- an expression, by its factors
expr_as : (d : ℕ) → As d → (g : Row) (r : Rest) → run g (stand (expr_by (factor_c d) r).next) ≡ run (factor d (chain d g)) (stand r)
expr_as d a g r = ap (λ (x : Rest). run g (stand x)) is ∙ chain_as (next_of d) d a (next_le d) g r
  where
    term_is : (x : Rest) → (term_by (factor_c d) x).next ≡ term_r (next_of d) d a (next_le d) x
    term_is x = unfold chain_c product_c in (more_next product_c (factor_c d) (length (factor_c d x).next.rest) (factor_c d x))

    chained : (expr_by (factor_c d) r).next ≡ more_r sum (λ x. (term_by (factor_c d) x).next) (length (term_by (factor_c d) r).next.rest) (term_by (factor_c d) r).next
    chained = unfold chain_c in (more_next sum_c (term_by (factor_c d)) (length (term_by (factor_c d) r).next.rest) (term_by (factor_c d) r))

    is : (expr_by (factor_c d) r).next ≡ sums_r (next_of d) d a (next_le d) (term_r (next_of d) d a (next_le d) r)
    is =
        chained
        ∙ more_same sum (λ x. (term_by (factor_c d) x).next) (term_r (next_of d) d a (next_le d)) term_is (length (term_by (factor_c d) r).next.rest) (term_by (factor_c d) r).next
        ∙ ap (λ (x : Rest). more_r sum (term_r (next_of d) d a (next_le d)) (length x.rest) x) (term_is r)

-- a number
sized : (limit v : ℕ) (r : Rest) (b : List ℕ) → stand (number_is limit r b v).next ≡ good (after_token b)
sized limit v r b = go (leb v limit)
  where
    go : (c : Bool) → stand (cond {A = Took ℕ} c (record { value = v; next = on r (after_token b) }) (record { value = 0; next = large r b })).next ≡ good (after_token b)
    go true = refl
    go false = refl

number-here_stand : (limit : ℕ) (r : Rest) (b : List ℕ) → stand (number_here limit r b).next ≡ cond (is_number (token_of b)) (good (after_token b)) (bad b)
number-here_stand limit r b = go (is_number (token_of b))
  where
    go : (c : Bool) → stand (cond c (number_is limit r b (value_of (token_of b))) (record { value = 0; next = off r b })).next ≡ cond c (good (after_token b)) (bad b)
    go true = sized limit (value_of (token_of b)) r b
    go false = refl

number_stand : (limit : ℕ) (r : Rest) → stand (number_c limit r).next ≡ sticky signs.number (stand r)
unfolding number_c signs
number_stand limit r = go r.ok
  where
    go : (c : Bool) → stand (cond c (number_here limit r (after_blanks r.rest)) (record { value = 0; next = r })).next ≡ cond c (cond (is_number (token_of (after_blanks r.rest))) (good (after_token (after_blanks r.rest))) (bad (after_blanks r.rest))) (stand r)
    go true = number-here_stand limit r (after_blanks r.rest)
    go false = refl

plain_stand : (r : Rest) → stand (plain_c r).next ≡ sticky signs.number (stand r)
unfolding plain_c
plain_stand r = number_stand (2 ^ 63 - 1) (clean r)

plain_as : (g : Row) (r : Rest) → run g (stand (plain_c r).next) ≡ run (one signs.number g) (stand r)
plain_as g r = ap (run g) (plain_stand r) ∙ fold_at signs.number g r.rest r.ok

-- a parenthesis that closes
closes_as : (g : Row) (r : Rest) → run g (stand (mark_c (byte ")") r)) ≡ run (one signs.closes g) (stand r)
unfolding signs
closes_as g r = ap (run g) (mark_stand (byte ")") dark_close.0 dark_close.1 r) ∙ fold_at signs.closes g r.rest r.ok

pub factor_as : (d : ℕ) → As d
unfolding factor_c
factor_as zero g r = plain_as g r ∙ sym (row_number r.ok)
  where
    row_number : (b : Bool) → cond b (reads (factor zero g) r.rest) (stand r) ≡ cond b (reads (one signs.number g) r.rest) (stand r)
    row_number true = reads-number r.rest g
    row_number false = refl
factor_as (suc d) g r = go (mark_c (byte "(") r).ok refl (mark_c (byte "-") r).ok refl (factor_as d)
  where
    inner : Took Amount
    inner = expr_by (factor_c d) (mark_c (byte "(") r)

    same : Took Amount
    same = factor_c d (mark_c (byte "-") r)

    res : Bool → Bool → Took Amount
    res p m = cond p (record { value = inner.value; next = mark_c (byte ")") inner.next }) (cond m (record { value = negated same.value; next = same.next }) (plain_c r))

    deep : Row
    deep = factor d (chain d (one signs.closes g))

    tail : Row
    tail = branch signs.minus (factor d g) (one signs.number g)

    -- the row at what is left, where reading goes on
    row_is : r.ok ≡ true → run (factor (suc d) g) (stand r) ≡ reads (branch signs.opens deep tail) r.rest
    row_is k = ap (λ (b : Bool). cond b (reads (factor (suc d) g) r.rest) (stand r)) k ∙ reads-factor r.rest d g

    not_open : r.ok ≡ true → (mark_c (byte "(") r).ok ≡ false → reads (branch signs.opens deep tail) r.rest ≡ reads tail r.rest
    not_open k e = branch_no signs.opens deep tail r.rest (opens-test (tok r.rest) ∙ mark_no (byte "(") dark_open.0 dark_open.1 r k e)

    go : (p : Bool) → (mark_c (byte "(") r).ok ≡ p → (m : Bool) → (mark_c (byte "-") r).ok ≡ m → As d → run g (stand (res p m).next) ≡ run (factor (suc d) g) (stand r)
    go true e m e' ih =
        let y = mark_yes (byte "(") dark_open.0 dark_open.1 r e in
        closes_as g inner.next
        ∙ expr_as d ih (one signs.closes g) (mark_c (byte "(") r)
        ∙ ap (run deep) y.2
        ∙ sym (row_is y.0 ∙ branch_yes signs.opens deep tail r.rest (opens-test (tok r.rest) ∙ y.1))
    go false e true e' ih =
        let y = mark_yes (byte "-") dark--.0 dark--.1 r e' in
        ih g (mark_c (byte "-") r)
        ∙ ap (run (factor d g)) y.2
        ∙ sym (row_is y.0 ∙ not_open y.0 e ∙ branch_yes signs.minus (factor d g) (one signs.number g) r.rest (minus-test (tok r.rest) ∙ y.1))
    go false e false e' ih = plain_as g r ∙ sym (at-number r.ok refl)
      where
        at-number : (b : Bool) → r.ok ≡ b → run (factor (suc d) g) (stand r) ≡ run (one signs.number g) (stand r)
        at-number true k =
            row_is k ∙ not_open k e
            ∙ branch_no signs.minus (factor d g) (one signs.number g) r.rest (minus-test (tok r.rest) ∙ mark_no (byte "-") dark--.0 dark--.1 r k e')
            ∙ sym (ap (λ (b : Bool). cond b (reads (one signs.number g) r.rest) (stand r)) k)
        at-number false k =
            ap (λ (b : Bool). cond b (reads (factor (suc d) g) r.rest) (stand r)) k ∙ sym (ap (λ (b : Bool). cond b (reads (one signs.number g) r.rest) (stand r)) k)

-- ---- where a number stands
settled_stand : (limit : ℕ) (r : Rest) (l : List ℕ) (t : Took Amount) → stand (settled limit r l t).next ≡ stand t.next
settled_stand limit r l t = go t.next.ok refl (fits_in limit t.value)
  where
    res : Bool → Bool → Took ℕ
    res b c = cond b (cond c (record { value = t.value.size; next = keeping r t.next }) (record { value = 0; next = record { rest = t.next.rest; ok = true; over = true; far = cond r.over r.far l } })) (record { value = 0; next = keeping r t.next })

    go : (b : Bool) → t.next.ok ≡ b → (c : Bool) → stand (res b c).next ≡ stand t.next
    go true e true = refl
    go true e false = ap (λ (b : Bool). record { rest = t.next.rest; ok = b }) (sym e)
    go false e c = refl

alone_stand : (limit : ℕ) (r : Rest) → alone_at limit r ≡ true → stand (number_c limit r).next ≡ stand (expr_by (factor_c 16) (clean r)).next
alone_stand limit r e =
    let q = both (number_c limit r).next.ok (goes_on (number_c limit r).next.rest) e in
    let p = number_sound limit r q.0 in
    let x = exprs_complete (result_of (pos p.1)) r.rest (number_c limit r).next.rest (alone_expr p.1 r.rest (number_c limit r).next.rest p.2 q.1) in
    ap (λ (b : Bool). record { rest = (number_c limit r).next.rest; ok = b }) q.0
    ∙ sym (ap (λ (y : Rest). stand (expr_by (factor_c 16) y).next) (ok_at (clean r) p.0) ∙ ap (λ (y : Took Amount). stand y.next) x)
  where
    both : (a b : Bool) → (a && not b) ≡ true → (a ≡ true) × (b ≡ false)
    both true true k = never k
    both true false k = (refl, refl)
    both false b k = never k

quantity_stand : (limit : ℕ) (r : Rest) → stand (quantity_c limit r).next ≡ stand (expr_by (factor_c 16) (clean r)).next
quantity_stand limit r = go (alone_at limit r) refl
  where
    go : (b : Bool) → alone_at limit r ≡ b → stand (quantity_c limit r).next ≡ stand (expr_by (factor_c 16) (clean r)).next
    go true e = ap (λ (t : Took ℕ). stand t.next) (quantity_is limit r true e) ∙ alone_stand limit r e
    go false e = ap (λ (t : Took ℕ). stand t.next) (quantity_is limit r false e) ∙ (unfold expression_c in (settled_stand limit r (after_blanks r.rest) (expr_by (factor_c 16) (clean r))))

-- THE LAW: a quantity, and then g, is read as the row of a factor and a chain with 16 levels, and then g
pub quantity_row : (limit : ℕ) (g : Row) (r : Rest) → run g (stand (quantity_c limit r).next) ≡ run (factor 16 (chain 16 g)) (stand r)
quantity_row limit g r = ap (run g) (quantity_stand limit r) ∙ expr_as 16 (factor_as 16) g (clean r)
