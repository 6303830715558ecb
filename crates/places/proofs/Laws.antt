-- Laws of commas, operands and columns, in the words of the code. Assumes nothing.
use Prim.Native.Nat.{ℕ, zero, suc, ◌+◌, ◌-◌, ◌<◌, ◌≤◌}
use native.Mathlib.Omega.{arith}
use mathlib.Core.Path.{◌≡◌, refl, sym, ◌∙◌}
use mathlib.Core.List.{List, [], ◌∷◌}
use mathlib.Core.Bool.{Bool, true, false, cond, not, ◌&&◌}
use lib.ListN.{length, take, drop, length-drop}
use lib.Seq.{take_all}
use lib.Dec.{eqb}
use borrow.Author.Tests.{eq-eqb, ne_eqb}
use Rattle.tokens.specs.Text.{byte}
use Rattle.tokens.specs.Bytes.{after_blanks}
use Rattle.statement.specs.declared.Position.TheVariants.{Token, Name, Operand}
use Rattle.statement.specs.Reading.{Reading, read_of}
use Rattle.statement.proofs.Stops.{stop_le}
use Rattle.statement.specs.Positions.{within, after_comma, after_commas, after_bracket, operand_place, name_place, stop_in, statement_column, byte_column}

-- ---- commas
-- by the byte at the head: the comma, another byte, or none
comma_law : (inside b : Bool) (x : ℕ) (l : List ℕ) → (eqb x (byte ",") && not inside) ≡ b → after_comma inside (x ∷ l) ≡ cond b l (after_comma (within inside x) l)
unfolding after_comma
comma_law inside b x l e = rw e

pub comma_here : (inside : Bool) (x : ℕ) (s l : List ℕ) → s ≡ x ∷ l → (eqb x (byte ",") && not inside) ≡ true → l ≡ after_comma inside s
comma_here inside x s l e t = sym (rw e (comma_law inside true x l t))

pub comma_next : (inside : Bool) (x : ℕ) (s l : List ℕ) → s ≡ x ∷ l → (eqb x (byte ",") && not inside) ≡ false → after_comma (within inside x) l ≡ after_comma inside s
comma_next inside x s l e t = sym (rw e (comma_law inside false x l t))

pub comma_none : (inside : Bool) (s : List ℕ) → length s ≡ 0 → s ≡ after_comma inside s
unfolding after_comma
comma_none inside [] e = refl
comma_none inside (x ∷ l) e = absurd (omega (arith, e))

commas_nil : (n : ℕ) → after_commas n [] ≡ []
unfolding after_commas after_comma
commas_nil zero = refl
commas_nil (suc n) = commas_nil n

-- one comma fewer is left, no byte is left, or no comma
pub commas_next : (l m : List ℕ) (n k : ℕ) → k < n → m ≡ after_comma false l → after_commas (n - (k + 1)) m ≡ after_commas (n - k) l
unfolding after_commas
commas_next l m n k h e = let z : n - k ≡ suc (n - (k + 1)) = omega arith in rw (z, e)

pub commas_empty : (l : List ℕ) (n : ℕ) → length l ≡ 0 → l ≡ after_commas n l
commas_empty [] n e = sym (commas_nil n)
commas_empty (x ∷ l) n e = absurd (omega (arith, e))

pub commas_done : (l : List ℕ) (n : ℕ) → n ≡ 0 → l ≡ after_commas n l
unfolding after_commas
commas_done l n e = rw e

-- ---- parts
-- a bracket at the head, another byte, or none
pub bracket_open : (s l : List ℕ) (x : ℕ) → s ≡ x ∷ l → x ≡ byte "[" → after_blanks l ≡ after_bracket s
bracket_open s l x e t = rw (e, eq-eqb _ _ t)

pub bracket_other : (s l : List ℕ) (x : ℕ) → s ≡ x ∷ l → (x ≡ byte "[" → ⊥) → s ≡ after_bracket s
bracket_other s l x e t = rw (e, ne_eqb _ _ t)

pub bracket_none : (s : List ℕ) → length s ≡ 0 → s ≡ after_bracket s
bracket_none [] e = refl
bracket_none (x ∷ l) e = absurd (omega (arith, e))

-- the rest of a slice from a place on
pub rest_from : (s : List ℕ) (n k : ℕ) → n ≡ k → take (length s - n) (drop n s) ≡ drop k s
rest_from s n k e = rw e (take_all (length s - k) (drop k s) (omega (arith, length-drop k s)))

-- ---- columns
-- a place within the text is its own
own_place : (s : List ℕ) (p : ℕ) → p ≤ length s → length s - length (drop p s) ≡ p
own_place s p h = omega (arith, length-drop p s)

module _ (s : List ℕ) (p c : ℕ) (is : c ≡ statement_column + (length s - length (drop p s))) where
  column_own : p ≤ length s → c ≡ statement_column + p
  column_own h = is ∙ rw (own_place s p h)

  pub token_column : (r : Reading) → r ≡ read_of s → p ≡ stop_in r → c ≡ byte_column s Token
  unfolding byte_column
  token_column r e h = column_own (rw (h, e) (stop_le s)) ∙ rw (h, e)

  pub name_column : (index : ℕ) → p ≡ name_place s index → c ≡ byte_column s (Name index)
  unfolding byte_column name_place
  name_column index h = column_own (omega (arith, h)) ∙ rw h

  pub operand_column : (index : ℕ) → p ≡ operand_place s index → c ≡ byte_column s (Operand index)
  unfolding byte_column operand_place
  operand_column index h = column_own (omega (arith, h)) ∙ rw h
