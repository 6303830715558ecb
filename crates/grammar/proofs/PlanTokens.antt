-- A plan is a row of tokens: the readers of marks and names are readers of one token each, that of numbers and expressions one of a factor and a chain. Assumes nothing.
use Prim.Native.Nat.{ℕ, zero, suc}
use mathlib.Core.Path.{◌≡◌, refl, sym, ap, ◌∙◌}
use mathlib.Core.List.{List, [], ◌∷◌}
use mathlib.Core.Bool.{Bool, true, false, ◌&&◌, cond}
use lib.ListN.{length, get_or, drop}
use lib.Dec.{eqb}
use borrow.Author.Tests.{eq-eqb, eqb-true}
use Rattle.tokens.specs.declared.Name.{Name}
use Rattle.tokens.specs.Text.{byte}
use Rattle.tokens.specs.Bytes.{letter, word_byte, blank, run_len, after_blanks, token_len, token_of, after_token}
use Rattle.tokens.specs.Names.{is_name, packed, no_name}
use Rattle.tokens.specs.Cursors.{Rest, on, off, Took, mark_here, mark_c, end_c, name_c}
use Rattle.statement.specs.Forms.{Slot, name, number, in_brackets, address, operand, names}
use Rattle.grammar.proofs.Lexing.{starts}
use Rattle.grammar.proofs.Readers.{Sign, comma, opening, closing, plus, brace, unbrace, semicolon, code, Plan, ends, marked, named, numbered, either, runs, inside_plan, operand_plan, more_plan, slot_plan, more_plans, row_plan}
use Rattle.expression.specs.Expressions.{quantity_c}
use Rattle.grammar.proofs.Stops.{Stand, good, bad, Kind, Row, end, one, branch, factor, chain, signs, reads, Good, one_yes, branch_yes, branch_no, reads_end}
use Rattle.grammar.proofs.QuantityRow.{stand, run, first, sticky, fold_at, quantity_row}

-- ---- a reader of one token, and a row of them
tested : (v b : Bool) (x y : List ℕ) → (cond v (good x) (bad y)).ok ≡ b → v ≡ b
tested true b x y e = e
tested false b x y e = e

-- at a token of the kind one way, at any other the other
branch-at : (f : Kind) (g h : Row) (l : List ℕ) (k b : Bool) → (k ≡ true → (sticky f (record { rest = l; ok = k })).ok ≡ b)
    → run (cond b (one f g) h) (record { rest = l; ok = k }) ≡ run (branch f g h) (record { rest = l; ok = k })
branch-at f g h l false b e = refl
branch-at f g h l true b e = go b (tested (f.test (token_of (after_blanks l))) b (after_token (after_blanks l)) (after_blanks l) (e refl))
  where
    go : (v : Bool) → f.test (token_of (after_blanks l)) ≡ v → reads (cond v (one f g) h) l ≡ reads (branch f g h) l
    go true t = one_yes f g l t ∙ sym (branch_yes f g h l t)
    go false t = sym (branch_no f g h l t)

-- ---- marks and names
sign : (m : Sign) → (eqb 0 (code m) ≡ false) × (blank (code m) ≡ false) × (starts (code m) ≡ false)
unfolding blank word_byte letter
sign comma = (refl, refl, refl)
sign opening = (refl, refl, refl)
sign closing = (refl, refl, refl)
sign plus = (refl, refl, refl)
sign brace = (refl, refl, refl)
sign unbrace = (refl, refl, refl)
sign semicolon = (refl, refl, refl)

pub mark_kind : Sign → Kind
mark_kind m = record { test = λ w. eqb (get_or w 0 0) (code m); none = (sign m).0; wit = code m; fits = eq-eqb (code m) (code m) refl; dark = (sign m).1 }

mark_first : (m : Sign) (r : Rest) (b : List ℕ) → stand (mark_here (code m) r b) ≡ first (mark_kind m) b
unfolding mark_kind token_of after_token token_len
mark_first m r [] = rw (sign m).0
mark_first m r (x ∷ l) = go (eqb x (code m)) refl
  where
    go : (v : Bool) → eqb x (code m) ≡ v → stand (cond v (on r l) (off r (x ∷ l))) ≡ cond v (good (drop (cond (starts x) (run_len word_byte l) 0) l)) (bad (x ∷ l))
    go true e = let q : starts x ≡ false = ap starts (eqb-true x (code m) e) ∙ (sign m).2 in rw q
    go false e = refl

mark_token : (m : Sign) (r : Rest) → stand (mark_c (code m) r) ≡ sticky (mark_kind m) (stand r)
unfolding mark_c
mark_token m r = go r.ok
  where
    go : (v : Bool) → stand (cond v (mark_here (code m) r (after_blanks r.rest)) r) ≡ cond v (first (mark_kind m) (after_blanks r.rest)) (stand r)
    go true = mark_first m r (after_blanks r.rest)
    go false = refl

pub name_kind : Kind
unfolding is_name letter blank
name_kind = record { test = is_name; none = refl; wit = byte "a"; fits = refl; dark = refl }

name_token : (r : Rest) → stand (name_c r).next ≡ sticky name_kind (stand r)
unfolding name_c name_kind
name_token r = go r.ok (is_name (token_of b))
  where
    b : List ℕ
    b = after_blanks r.rest

    took : Bool → Bool → Took Name
    took k v = cond k (cond v (record { value = packed (token_of b); next = on r (after_token b) }) (record { value = no_name; next = off r b })) (record { value = no_name; next = r })

    go : (k v : Bool) → stand (took k v).next ≡ cond k (cond v (good (after_token b)) (bad b)) (stand r)
    go true true = refl
    go true false = refl
    go false v = refl

end_by : (l : List ℕ) (b c : Bool) → ◌≡◌ {A = Stand} (record { rest = l; ok = b && c }) (cond b (cond c (good l) (bad l)) (record { rest = l; ok = b }))
end_by l true true = refl
end_by l true false = refl
end_by l false c = refl

-- ---- a plan is a row of tokens
-- a reader of one token of a kind
abbrev Token : (Rest → Rest) → Kind → Type 0
Token x f = (r : Rest) → stand (x r) ≡ sticky f (stand r)

abbrev pub row_of : Plan → Row
row_of ends = one (mark_kind semicolon) end
row_of (marked m p) = one (mark_kind m) (row_of p)
row_of (named p) = one name_kind (row_of p)
row_of (numbered limit p) = factor 16 (chain 16 (row_of p))
row_of (either m p q) = branch (mark_kind m) (row_of p) (row_of q)

-- a token, and then g
then : (f : Kind) (x : Rest → Rest) → Token x f → (g : Row) (r : Rest) → run g (stand (x r)) ≡ run (one f g) (stand r)
then f x law g r = ap (run g) (law r) ∙ fold_at f g r.rest r.ok

end_row : (r : Rest) → stand (end_c r) ≡ run (one (mark_kind semicolon) end) (stand r)
unfolding end_c
end_row r = go ∙ then (mark_kind semicolon) (mark_c (byte ";")) (mark_token semicolon) end r
  where
    d : Rest
    d = mark_c (byte ";") r

    go : stand (record { rest = d.rest; ok = d.ok && eqb (length d.rest) 0; over = d.over; far = d.far }) ≡ run end (stand d)
    go = end_by d.rest d.ok (eqb (length d.rest) 0) ∙ ap (λ (x : Stand). cond d.ok x (stand d)) (sym (reads_end d.rest))

-- where reading goes on, the mark tells
told : (m : Sign) (r : Rest) (b : Bool) → (mark_c (code m) r).ok ≡ b → r.ok ≡ true → (sticky (mark_kind m) (stand r)).ok ≡ b
told m r b e h = sym (ap (λ (x : Stand). x.ok) (mark_token m r)) ∙ e

either-row : (m : Sign) (g h : Row) (x y r : Rest) (b : Bool) → (mark_c (code m) r).ok ≡ b → stand x ≡ run g (stand (mark_c (code m) r)) → stand y ≡ run h (stand r)
    → stand (cond b x y) ≡ run (branch (mark_kind m) g h) (stand r)
either-row m g h x y r true e p q =
    p ∙ (then (mark_kind m) (mark_c (code m)) (mark_token m) g r ∙ branch-at (mark_kind m) g h r.rest r.ok true (told m r true e))
either-row m g h x y r false e p q = q ∙ branch-at (mark_kind m) g h r.rest r.ok false (told m r false e)

pub plan_row : (p : Plan) (r : Rest) → stand (runs p r) ≡ run (row_of p) (stand r)
plan_row ends r = end_row r
plan_row (marked m p) r = plan_row p (mark_c (code m) r) ∙ then (mark_kind m) (mark_c (code m)) (mark_token m) (row_of p) r
plan_row (named p) r = plan_row p (name_c r).next ∙ then name_kind (λ x. (name_c x).next) name_token (row_of p) r
plan_row (numbered limit p) r = plan_row p (quantity_c limit r).next ∙ quantity_row limit (row_of p) r
plan_row (either m p q) r =
    let d = mark_c (code m) r in
    either-row m (row_of p) (row_of q) (runs p d) (runs q r) r d.ok refl (plan_row p d) (plan_row q r)

-- ---- at each choice the other way begins with another token
inside-good : (p : Plan) → Good (row_of p) → Good (row_of (inside_plan p))
unfolding signs after_blanks blank token_of token_len mark_kind
inside-good p h = (tt, refl, (tt, refl, h), h)

operand-good : (p : Plan) → Good (row_of p) → Good (row_of (operand_plan p))
unfolding after_blanks blank token_of token_len name_kind mark_kind
operand-good p h = (tt, refl, inside-good p h, h)

more_good : (k : ℕ) (p : Plan) → Good (row_of p) → Good (row_of (more_plan k p))
unfolding after_blanks blank token_of token_len mark_kind
more_good zero p h = h
more_good (suc k) p h = (tt, refl, more_good k p h, h)

-- an operand, before the comma of the next or the end: neither is an operator
number-good : (ks : List Slot) → Good (row_of (more_plans ks)) → Good (chain 16 (row_of (more_plans ks)))
unfolding signs after_blanks blank token_of token_len mark_kind
number-good [] h = (tt, refl, h)
number-good (k ∷ ks) h = (tt, refl, h)

slot-good : (k : Slot) (ks : List Slot) → Good (row_of (more_plans ks)) → Good (row_of (slot_plan k (more_plans ks)))
slot-good name ks h = h
slot-good (number limit) ks h = number-good ks h
slot-good in_brackets ks h = h
slot-good address ks h = inside-good (more_plans ks) h
slot-good operand ks h = operand-good (more_plans ks) h
slot-good names ks h = more_good 127 (more_plans ks) h

more_row-good : (ks : List Slot) → Good (row_of (more_plans ks))
more_row-good [] = tt
more_row-good (k ∷ ks) = slot-good k ks (more_row-good ks)

pub row-good : (ks : List Slot) → Good (row_of (row_plan ks))
row-good [] = tt
row-good (k ∷ ks) = slot-good k ks (more_row-good ks)
