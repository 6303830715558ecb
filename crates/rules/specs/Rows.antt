-- Rules that say where they are broken: a row has its number, what its column points at, and its tests, each of an operand, in the order of the text. A row
-- is kept if all its tests are; else it is broken at the leftmost that is not. Assumes nothing.
use Rattle.std.specs.Prelude.{ℕ, Bool, false, cond, List, [], ◌∷◌, ◌++◌}
use Rattle.std.proofs.Math.Option.{Option, none, some}
use Rattle.laws.specs.Tests.{all}
use Rattle.laws.specs.Rules.{Rule, rule}
use Rattle.statement.specs.declared.Position.{Position}
use Rattle.statement.specs.declared.Position.TheVariants as position

-- ---- what a column points at
-- the line's first byte, where its warp stands; the token that no form has there, or the number that is out of range; the opcode; the name of an operand; an operand's first byte, be it
-- a number's or the bracket of an address
pub data Sort : Type 0 where
  at_start : Sort
  at_token : Sort
  at_opcode : Sort
  at_name : Sort
  at_operand : Sort

-- with the operand, counted from 0
abbrev pub pointed : Sort → ℕ → Position
pointed at_start i = position.Start
pointed at_token i = position.Token
pointed at_opcode i = position.Opcode
pointed at_name i = position.Name i
pointed at_operand i = position.Operand i

-- ---- tests
-- a test of an operand, true where it is kept
pub data Test : Type 0 where
  test : (operand : ℕ) → (kept : Bool) → Test

-- whether each is kept; and whether all are
abbrev pub outcomes : List Test → List Bool
outcomes [] = []
outcomes (test i b ∷ l) = b ∷ outcomes l

abbrev pub kept : List Test → Bool
kept l = all (outcomes l)

-- the operand of the first that is broken
abbrev pub leftmost : List Test → ℕ
leftmost [] = 0
leftmost (test i b ∷ l) = cond b (leftmost l) i

-- one test of an operand; one of the statement as a whole, for rows that point at no operand; and one that is broken
abbrev pub one : ℕ → Bool → List Test
one i b = test i b ∷ []

abbrev pub whole : Bool → List Test
whole b = one 0 b

abbrev pub broken : List Test
broken = whole false

-- the tests that views ask for
abbrev pub asked : List (Option (List Test)) → List Test
asked [] = []
asked (none ∷ l) = asked l
asked (some tests ∷ l) = tests ++ asked l

-- ---- rows
-- its number, what its column points at, and its tests
pub data Row : Type 0 where
  row : (number : ℕ) → Sort → List Test → Row

-- the rules of rows
abbrev pub rules_of : List Row → List Rule
rules_of [] = []
rules_of (row number sort tests ∷ rs) = rule number (kept tests) ∷ rules_of rs

-- where the first row that is broken is broken
abbrev pub first_position : List Row → Position
first_position [] = position.Start
first_position (row number sort tests ∷ rs) = cond (kept tests) (first_position rs) (pointed sort (leftmost tests))
