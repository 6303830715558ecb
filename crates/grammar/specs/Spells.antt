-- The grammar, declared: which texts spell a statement. `Xs v l r` says that l starts with a spelling of v, and that r is what follows it.
-- A number alone has any size here, and an expression out of range or below 0 stands as its place's limit plus 1; `sized` says which are in range. Assumes nothing.
use Rattle.tokens.specs.Text.{byte}
use Rattle.std.specs.Prelude.{ℕ, zero, suc, ◌≤◌, ◌≡◌, List, [], ◌∷◌, ◌++◌, Bool, true, ◌&&◌, length, leb, pos, negsuc}
use Rattle.std.proofs.Math.Option.{none, some}
use Rattle.tokens.specs.declared.Name.{Name}
use Rattle.tokens.specs.Bytes.{word_byte, opcode_byte, run_len}
use Rattle.tokens.specs.Names.{is_name, packed}
use Rattle.tokens.specs.Numbers.{is_number, value_of}
use Rattle.expression.specs.declared.Operator.{Operator}
use Rattle.expression.specs.declared.Operator.TheVariants as o
use Rattle.expression.specs.Integers.{Result, result_of, join, opposite}
use Rattle.statement.specs.declared.Address.{Address}
use Rattle.statement.specs.declared.Operand.{Operand}
use Rattle.statement.specs.declared.Operand.TheVariants as operand
use Rattle.statement.specs.declared.Statement.{Statement}
use Rattle.statement.specs.declared.Opcode.{Opcode}
use Rattle.statement.specs.Forms.{word, Slot, name, number, in_brackets, address, operand, names, Value, Values, max_offset, row, Whole, make}
use Rattle.statement.specs.Canonical.{opcode_of, values_of}

abbrev pub spaces : ℕ → List ℕ
spaces zero = []
spaces (suc n) = byte " " ∷ spaces n

-- ---- tokens
-- spaces, and the byte m
pub record Mark (m : ℕ) (l r : List ℕ) : Type 0 where
  pub blanks : ℕ
  pub parts : l ≡ spaces blanks ++ (m ∷ r)

-- spaces, and the bytes w, where a run of word bytes ends
pub record Word (w l r : List ℕ) : Type 0 where
  pub blanks : ℕ
  pub parts : l ≡ spaces blanks ++ (w ++ r)
  pub ends : run_len word_byte r ≡ 0

pub record NameText (n : Name) (l r : List ℕ) : Type 0 where
  pub bytes : List ℕ
  pub spelled : Word bytes l r
  pub good : is_name bytes ≡ true
  pub value : packed bytes ≡ n

pub record NumberText (v : ℕ) (l r : List ℕ) : Type 0 where
  pub bytes : List ℕ
  pub spelled : Word bytes l r
  pub good : is_number bytes ≡ true
  pub value : value_of bytes ≡ v

-- ---- expressions
-- l starts with a spelling of this result, and r is what follows
abbrev pub ResultText : Type 1
ResultText = Result → List ℕ → List ℕ → Type 0

-- l starts with a spelling of this operator
abbrev pub OperatorText : Type 1
OperatorText = Operator → List ℕ → List ℕ → Type 0

-- + or -
pub data SumOperator : Operator → List ℕ → List ℕ → Type 0 where
  added : {l r : List ℕ} → Mark (byte "+") l r → SumOperator o.Plus l r
  taken : {l r : List ℕ} → Mark (byte "-") l r → SumOperator o.Minus l r

-- *
pub data ProductOperator : Operator → List ℕ → List ℕ → Type 0 where
  times : {l r : List ℕ} → Mark (byte "*") l r → ProductOperator o.Times l r

-- no such operator follows
abbrev pub Without : OperatorText → List ℕ → Type 0
Without S l = (x : Operator) (r : List ℕ) → S x l r → ⊥

-- v, and each that follows behind an operator, joined from left to right, give u
pub data More (S : OperatorText) (F : ResultText) : Result → Result → List ℕ → List ℕ → Type 0 where
  stops : {v : Result} {l : List ℕ} → Without S l → More S F v v l l
  next : {x : Operator} {v w u : Result} {l l₁ l₂ r : List ℕ} → S x l l₁ → F w l₁ l₂ → More S F (join x v w) u l₂ r → More S F v u l r

-- a first one, and more
pub record Chain (S : OperatorText) (F : ResultText) (u : Result) (l r : List ℕ) : Type 0 where
  pub v : Result
  pub l₁ : List ℕ
  pub head : F v l l₁
  pub tail : More S F v u l₁ r

-- a term is factors joined by *, an expression terms joined by + and -
abbrev pub TermOf : ResultText → ResultText
TermOf F = Chain ProductOperator F

abbrev pub ExprOf : ResultText → ResultText
ExprOf F = Chain SumOperator (TermOf F)

-- a number in an expression
pub record Plain (u : Result) (l r : List ℕ) : Type 0 where
  pub number : ℕ
  pub spelled : NumberText number l r
  pub value : result_of (pos number) ≡ u

-- ( expression ), - factor, or a number; what is nested in the first two has one level less
pub data Nested (E F : ResultText) : Result → List ℕ → List ℕ → Type 0 where
  group : {u : Result} {l l₁ l₂ r : List ℕ} → Mark (byte "(") l l₁ → E u l₁ l₂ → Mark (byte ")") l₂ r → Nested E F u l r
  minus : {u : Result} {l l₁ r : List ℕ} → Mark (byte "-") l l₁ → F u l₁ r → Nested E F (opposite u) l r
  plain : {u : Result} {l r : List ℕ} → Plain u l r → Nested E F u l r

-- a factor with so many levels left
abbrev pub FactorText : ℕ → ResultText
FactorText zero = Plain
FactorText (suc d) = Nested (ExprOf (FactorText d)) (FactorText d)

-- an expression, of 16 levels at most
abbrev pub ExprText : ResultText
ExprText = ExprOf (FactorText 16)

-- ---- where a number up to a limit stands
-- the number of an expression in a place of this limit; out of range or below 0 it is the limit plus 1, which does not fit there
abbrev pub number_for : ℕ → Result → ℕ
number_for limit (some (pos n)) = n
number_for limit (some (negsuc n)) = suc limit
number_for limit none = suc limit

-- a number alone, or an expression, where a number up to this limit may stand
pub data QuantityText (limit : ℕ) : ℕ → List ℕ → List ℕ → Type 0 where
  -- a number alone, of any size
  alone : {v : ℕ} {l r : List ℕ} → NumberText v l r → Without SumOperator r → Without ProductOperator r → QuantityText limit v l r
  -- an expression that is more than a number
  composed : {u : Result} {l r : List ℕ} → ExprText u l r → ((n : ℕ) → NumberText n l r → ⊥) → QuantityText limit (number_for limit u) l r

-- ---- operands
pub record BracketText (n : Name) (l r : List ℕ) : Type 0 where
  pub l₁ : List ℕ
  pub l₂ : List ℕ
  pub opens : Mark (byte "[") l l₁
  pub inner : NameText n l₁ l₂
  pub closes : Mark (byte "]") l₂ r

-- nothing, for 0; or + and what stands where a number may
pub data OffsetText : ℕ → List ℕ → List ℕ → Type 0 where
  bare : {l : List ℕ} → OffsetText 0 l l
  plus : {v : ℕ} {l l₁ r : List ℕ} → Mark (byte "+") l l₁ → QuantityText max_offset v l₁ r → OffsetText v l r

pub record AddressText (a : Address) (l r : List ℕ) : Type 0 where
  pub l₁ : List ℕ
  pub l₂ : List ℕ
  pub l₃ : List ℕ
  pub opens : Mark (byte "[") l l₁
  pub base : NameText a.base l₁ l₂
  pub offset : OffsetText a.offset l₂ l₃
  pub closes : Mark (byte "]") l₃ r

pub data OperandText : Operand → List ℕ → List ℕ → Type 0 where
  by_name : {n : Name} {l r : List ℕ} → NameText n l r → OperandText (operand.Descriptor n) l r
  by_address : {a : Address} {l r : List ℕ} → AddressText a l r → OperandText (operand.Address a) l r

-- a comma before each name, and the brace
pub data MoreNames : List Name → List ℕ → List ℕ → Type 0 where
  closes : {l r : List ℕ} → Mark (byte "}") l r → MoreNames [] l r
  comma : {n : Name} {ns : List Name} {l l₁ l₂ r : List ℕ} → Mark (byte ",") l l₁ → NameText n l₁ l₂ → MoreNames ns l₂ r → MoreNames (n ∷ ns) l r

-- 1 to 128 names
pub data NamesText : List Name → List ℕ → List ℕ → Type 0 where
  opens : {n : Name} {ns : List Name} {l l₁ l₂ r : List ℕ} → length ns ≤ 127 → Mark (byte "{") l l₁ → NameText n l₁ l₂ → MoreNames ns l₂ r → NamesText (n ∷ ns) l r

abbrev pub SlotText : (k : Slot) → Value k → List ℕ → List ℕ → Type 0
SlotText name v = NameText v
SlotText (number limit) v = QuantityText limit v
SlotText in_brackets v = BracketText v
SlotText address v = AddressText v
SlotText operand v = OperandText v
SlotText names v = NamesText v

-- a comma before each operand, and the semicolon, with nothing after it
abbrev pub MoreRow : (ks : List Slot) → Values ks → List ℕ → Type 0
MoreRow [] v l = Mark (byte ";") l []
MoreRow (k ∷ ks) v l = (l₁ : List ℕ) × (l₂ : List ℕ) × Mark (byte ",") l l₁ × SlotText k v.0 l₁ l₂ × MoreRow ks v.1 l₂

abbrev pub RowText : (ks : List Slot) → Values ks → List ℕ → Type 0
RowText [] v l = Mark (byte ";") l []
RowText (k ∷ ks) v l = (l₁ : List ℕ) × SlotText k v.0 l l₁ × MoreRow ks v.1 l₁

-- ---- statements
-- the text is one of the spellings of the statement: an opcode's word, where the run of opcode bytes ends, and its operands
pub record Spells (whole : Whole) (text : List ℕ) : Type 0 where
  pub opcode : Opcode
  pub values : Values (row opcode)
  pub rest : List ℕ
  pub parts : text ≡ word opcode ++ rest
  pub ends : run_len opcode_byte rest ≡ 0
  pub operands : RowText (row opcode) values rest
  pub made : make opcode values ≡ whole

-- ---- each number and expression is in range, as the slots of the row say
abbrev pub sized_operand : Operand → Bool
sized_operand (operand.Descriptor n) = true
sized_operand (operand.Address a) = leb a.offset max_offset

abbrev pub sized_slot : (k : Slot) → Value k → Bool
sized_slot name v = true
sized_slot (number limit) v = leb v limit
sized_slot in_brackets v = true
sized_slot address v = leb v.offset max_offset
sized_slot operand v = sized_operand v
sized_slot names v = true

abbrev pub sized_row : (ks : List Slot) → Values ks → Bool
sized_row [] v = true
sized_row (k ∷ ks) v = sized_slot k v.0 && sized_row ks v.1

-- of a statement (its registers have no numbers)
unfoldable pub sized : Statement → Bool
sized t = sized_row (row (opcode_of t)) (values_of t [])
