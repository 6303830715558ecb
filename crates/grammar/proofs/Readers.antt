-- Operands are read token by token: a plan says which tokens come, in their order, and where the next mark chooses the way. Each operand's reader does
-- what its plan says, so what holds of the readers of tokens, and of a choice, holds of every row of operands. Assumes nothing.
use Prim.Native.Nat.{ℕ, zero, suc}
use mathlib.Core.Path.{◌≡◌, refl, ◌∙◌}
use mathlib.Core.List.{List, [], ◌∷◌}
use mathlib.Core.Bool.{Bool, true, false, cond}
use lib.Dec.{eqb}
use Rattle.tokens.specs.Text.{byte}
use Rattle.tokens.specs.declared.Name.{Name}
use Rattle.tokens.specs.Bytes.{after_blanks, token_of, after_token}
use Rattle.tokens.specs.Names.{is_name, packed, no_name}
use Rattle.tokens.specs.Cursors.{Rest, on, off, Took, mark_here, mark_c, end_c, name_c}
use Rattle.expression.specs.Expressions.{quantity_c}
use Rattle.statement.specs.declared.Operand.TheVariants as operand
use Rattle.statement.specs.Forms.{Slot, name, number, in_brackets, address, operand, names, max_offset}
use Rattle.statement.specs.Reading.{in_brackets_c, offset_c, inside_c, address_c, operand_c, more_c, names_c, slot_c, more_row_c, row_c}

-- ---- plans
pub data Sign : Type 0 where
  comma : Sign
  opening : Sign
  closing : Sign
  plus : Sign
  brace : Sign
  unbrace : Sign
  semicolon : Sign

abbrev pub code : Sign → ℕ
code comma = byte ","
code opening = byte "["
code closing = byte "]"
code plus = byte "+"
code brace = byte "{"
code unbrace = byte "}"
code semicolon = byte ";"

-- the end; a mark, a name or a number up to a limit, and what follows it; after a mark one thing, else, at any other token, another
pub data Plan : Type 0 where
  ends : Plan
  marked : Sign → Plan → Plan
  named : Plan → Plan
  numbered : ℕ → Plan → Plan
  either : Sign → Plan → Plan → Plan

abbrev pub runs : Plan → Rest → Rest
runs ends r = end_c r
runs (marked m p) r = runs p (mark_c (code m) r)
runs (named p) r = runs p (name_c r).next
runs (numbered limit p) r = runs p (quantity_c limit r).next
runs (either m p q) r = cond (mark_c (code m) r).ok (runs p (mark_c (code m) r)) (runs q r)

-- ---- an operand, and then p
abbrev pub offset_plan : Plan → Plan
offset_plan p = either plus (numbered max_offset p) p

abbrev pub inside_plan : Plan → Plan
inside_plan p = named (offset_plan (marked closing p))

abbrev pub operand_plan : Plan → Plan
operand_plan p = either opening (inside_plan p) (named p)

abbrev pub more_plan : ℕ → Plan → Plan
more_plan zero p = marked unbrace p
more_plan (suc k) p = either comma (named (more_plan k p)) (marked unbrace p)

abbrev pub slot_plan : Slot → Plan → Plan
slot_plan name p = named p
slot_plan (number limit) p = numbered limit p
slot_plan in_brackets p = marked opening (named (marked closing p))
slot_plan address p = marked opening (inside_plan p)
slot_plan operand p = operand_plan p
slot_plan names p = marked brace (named (more_plan 127 p))

-- a comma before each operand, and the end; the same, with none before the first
abbrev pub more_plans : List Slot → Plan
more_plans [] = ends
more_plans (k ∷ ks) = marked comma (slot_plan k (more_plans ks))

abbrev pub row_plan : List Slot → Plan
row_plan [] = ends
row_plan (k ∷ ks) = slot_plan k (more_plans ks)

-- ---- each operand is read as its plan says
runs_cond : {A : Type 0} (p : Plan) (b : Bool) (x y : Took A) → runs p (cond b x y).next ≡ cond b (runs p x.next) (runs p y.next)
runs_cond p true x y = refl
runs_cond p false x y = refl

offset_runs : (p : Plan) (r : Rest) → runs p (offset_c r).next ≡ runs (offset_plan p) r
unfolding offset_c
offset_runs p r = let d = mark_c (byte "+") r in runs_cond p d.ok (quantity_c max_offset d) (record { value = 0; next = r })

inside_runs : (p : Plan) (r : Rest) → runs p (inside_c r).next ≡ runs (inside_plan p) r
unfolding inside_c
inside_runs p r = offset_runs (marked closing p) (name_c r).next

operand_runs : (p : Plan) (r : Rest) → runs p (operand_c r).next ≡ runs (operand_plan p) r
unfolding operand_c
operand_runs p r =
    let d = mark_c (byte "[") r in
    let a = inside_c d in
    let n = name_c r in
    runs_cond p d.ok (record { value = operand.Address a.value; next = a.next }) (record { value = operand.Descriptor n.value; next = n.next })
    ∙ rw (inside_runs p d)

more_runs : (k : ℕ) (p : Plan) (r : Rest) → runs p (more_c k r).next ≡ runs (more_plan k p) r
unfolding more_c
more_runs zero p r = refl
more_runs (suc k) p r =
    let d = mark_c (byte ",") r in
    let n = name_c d in
    let m = more_c k n.next in
    runs_cond p d.ok (record { value = n.value ∷ m.value; next = m.next }) (record { value = []; next = mark_c (byte "}") r }) ∙ rw (more_runs k p n.next)

slot_runs : (k : Slot) (p : Plan) (r : Rest) → runs p (slot_c k r).next ≡ runs (slot_plan k p) r
slot_runs name p r = refl
slot_runs (number limit) p r = refl
slot_runs in_brackets p r = unfold in_brackets_c in refl
slot_runs address p r = unfold address_c in (inside_runs p (mark_c (byte "[") r))
slot_runs operand p r = operand_runs p r
slot_runs names p r = unfold names_c in (more_runs 127 p (name_c (mark_c (byte "{") r)).next)

more_row_runs : (ks : List Slot) (r : Rest) → (more_row_c ks r).next ≡ runs (more_plans ks) r
unfolding more_row_c
more_row_runs [] r = refl
more_row_runs (k ∷ ks) r = more_row_runs ks (slot_c k (mark_c (byte ",") r)).next ∙ slot_runs k (more_plans ks) (mark_c (byte ",") r)

pub row_runs : (ks : List Slot) (r : Rest) → (row_c ks r).next ≡ runs (row_plan ks) r
unfolding row_c
row_runs [] r = refl
row_runs (k ∷ ks) r = more_row_runs ks (slot_c k r).next ∙ slot_runs k (more_plans ks) r

-- ---- what was too large stays so: marks and names keep it as it is
pub record Kept (r x : Rest) : Type 0 where
  pub over : x.over ≡ r.over
  pub far : x.far ≡ r.far

pub mark-kept : (m : ℕ) (r : Rest) → Kept r (mark_c m r)
unfolding mark_c
mark-kept m r = go r.ok (after_blanks r.rest)
  where
    at_byte : (b : Bool) (x : ℕ) (l : List ℕ) → Kept r (cond b (on r l) (off r (x ∷ l)))
    at_byte true x l = record { over = refl; far = refl }
    at_byte false x l = record { over = refl; far = refl }

    go : (k : Bool) (l : List ℕ) → Kept r (cond k (mark_here m r l) r)
    go true [] = record { over = refl; far = refl }
    go true (x ∷ l) = at_byte (eqb x m) x l
    go false l = record { over = refl; far = refl }

pub name-kept : (r : Rest) → Kept r (name_c r).next
unfolding name_c
name-kept r = go r.ok (is_name (token_of b))
  where
    b : List ℕ
    b = after_blanks r.rest

    took : Bool → Bool → Took Name
    took k v = cond k (cond v (record { value = packed (token_of b); next = on r (after_token b) }) (record { value = no_name; next = off r b })) (record { value = no_name; next = r })

    go : (k v : Bool) → Kept r (took k v).next
    go true true = record { over = refl; far = refl }
    go true false = record { over = refl; far = refl }
    go false v = record { over = refl; far = refl }
