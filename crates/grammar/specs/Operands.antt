-- Where the operands of a statement stand in its text, in every text that spells it. The spelling has each operand's own bytes: the first operand's after the
-- opcode, each other's after its comma. `Placed` says that the places which a column is counted from are those of these bytes. Assumes nothing.
use Rattle.std.specs.Prelude.{ℕ, suc, ◌<◌, ◌≤◌, ◌≡◌, List, [], ◌∷◌, true, cond, length, drop, get_or}
use Rattle.std.proofs.Math.Option.{Option, none, some}
use Rattle.tokens.specs.Text.{byte}
use Rattle.tokens.specs.declared.Name.{Name}
use Rattle.tokens.specs.Bytes.{after_blanks, token_of}
use Rattle.tokens.specs.Names.{is_name, packed}
use Rattle.tokens.specs.Numbers.{is_number, value_of}
use Rattle.statement.specs.declared.Operand.{Operand}
use Rattle.statement.specs.declared.Operand.TheVariants as operand
use Rattle.statement.specs.Forms.{Slot, name, number, in_brackets, address, operand, names, Value, Values, row, Whole}
use Rattle.statement.specs.Canonical.{opcode_of, values_of}
use Rattle.statement.specs.Positions.{operand_place, name_place, names_of}
use Rattle.grammar.specs.Spells.{NumberText, QuantityText, OffsetText, bare, plus, OperandText, by_name, by_address, SlotText, MoreRow, RowText, Spells, sized_slot}

-- ---- the operands of a spelling
-- one of them: its slot and value, and that `from` starts with its spelling
pub record Part : Type 0 where
  pub slot : Slot
  pub value : Value slot
  pub from : List ℕ
  pub rest : List ℕ
  pub spelled : SlotText slot value from rest

abbrev pub more_parts : (ks : List Slot) (v : Values ks) (l : List ℕ) → MoreRow ks v l → List Part
more_parts [] v l t = []
more_parts (k ∷ ks) v l t = record { slot = k; value = v.0; from = t.0; rest = t.1; spelled = t.3 } ∷ more_parts ks v.1 t.1 t.4

abbrev pub row_parts : (ks : List Slot) (v : Values ks) (l : List ℕ) → RowText ks v l → List Part
row_parts [] v l t = []
row_parts (k ∷ ks) v l t = record { slot = k; value = v.0; from = l; rest = t.0; spelled = t.1 } ∷ more_parts ks v.1 t.0 t.2

-- in the order of the text
abbrev pub parts_of : {w : Whole} {text : List ℕ} → Spells w text → List Part
parts_of s = row_parts (row s.opcode) s.values s.rest s.operands

-- where the name of an operand starts: after the bracket, if one opens it; of one without a name, where the operand does
abbrev pub operand_name_from : {v : Operand} {l r : List ℕ} → OperandText v l r → List ℕ
operand_name_from {l = l} (by_name t) = l
operand_name_from (by_address t) = t.l₁

abbrev pub name_in : (k : Slot) (v : Value k) (l r : List ℕ) → SlotText k v l r → List ℕ
name_in name v l r t = l
name_in (number limit) v l r t = l
name_in in_brackets v l r t = t.l₁
name_in address v l r t = t.l₁
name_in operand v l r t = operand_name_from t
name_in names v l r t = l

-- where the number or the expression of an operand starts, spaces before it and all; none for an operand without one
abbrev pub offset_from : {v : ℕ} {l r : List ℕ} → OffsetText v l r → Option (List ℕ)
offset_from bare = none
offset_from (plus {l₁ = l₁} m t) = some l₁

abbrev pub operand_number_from : {v : Operand} {l r : List ℕ} → OperandText v l r → Option (List ℕ)
operand_number_from (by_name t) = none
operand_number_from (by_address t) = offset_from t.offset

abbrev pub number_from : (k : Slot) (v : Value k) (l r : List ℕ) → SlotText k v l r → Option (List ℕ)
number_from name v l r t = none
number_from (number limit) v l r t = some l
number_from in_brackets v l r t = none
number_from address v l r t = offset_from t.offset
number_from operand v l r t = operand_number_from t
number_from names v l r t = none

-- that of the first operand whose number is out of range
abbrev pub first_over : List Part → Option (List ℕ)
first_over [] = none
first_over (p ∷ ps) = cond (sized_slot p.slot p.value) (first_over ps) (number_from p.slot p.value p.from p.rest p.spelled)

-- ---- what stands at a place
-- the token there is this name, this number
abbrev pub NameAt : Name → List ℕ → Type 0
NameAt n l = (is_name (token_of l) ≡ true) × (packed (token_of l) ≡ n)

abbrev pub NumberAt : ℕ → List ℕ → Type 0
NumberAt v l = (is_number (token_of l) ≡ true) × (value_of (token_of l) ≡ v)

-- there starts a number or an expression of this value
abbrev pub QuantityAt : ℕ → ℕ → List ℕ → Type 0
QuantityAt limit v here = (l : List ℕ) × (r : List ℕ) × QuantityText limit v l r × (after_blanks l ≡ here)

-- the token there is this mark
abbrev pub MarkAt : ℕ → List ℕ → Type 0
MarkAt m l = token_of l ≡ m ∷ []

-- at an operand's place, and at that of its name
abbrev pub OperandShows : Operand → (here inner : List ℕ) → Type 0
OperandShows (operand.Descriptor n) here inner = (here ≡ inner) × NameAt n inner
OperandShows (operand.Address a) here inner = MarkAt (byte "[") here × NameAt a.base inner

abbrev pub Shows : (k : Slot) → Value k → (here inner : List ℕ) → Type 0
Shows name v here inner = (here ≡ inner) × NameAt v inner
Shows (number limit) v here inner = QuantityAt limit v here
Shows in_brackets v here inner = MarkAt (byte "[") here × NameAt v inner
Shows address v here inner = MarkAt (byte "[") here × NameAt v.base inner
Shows operand v here inner = OperandShows v here inner
Shows names v here inner = MarkAt (byte "{") here

-- ---- the claim
-- of operand i of a text, by its spelling
pub record Placed (text : List ℕ) (i : ℕ) (p : Part) : Type 0 where
  -- At its place, which is in the text, stands the first byte of its spelling that is no space,
  pub inside : operand_place text i < length text
  pub from : drop (operand_place text i) text ≡ after_blanks p.from
  -- at the place of its name the first byte of its name,
  pub name_inside : name_place text i < length text
  pub named : drop (name_place text i) text ≡ after_blanks (name_in p.slot p.value p.from p.rest p.spelled)
  -- and what stands at both is what its slot and its value say.
  pub shows : Shows p.slot p.value (drop (operand_place text i) text) (drop (name_place text i) text)
  -- Where it is a number alone, the token there is that number.
  pub numeral : (n : ℕ) → NumberText n p.from p.rest → NumberAt n (drop (operand_place text i) text)

-- of each of them, the first of which is operand i
abbrev pub AllPlaced : List ℕ → ℕ → List Part → Type 0
AllPlaced text i [] = Unit {0}
AllPlaced text i (p ∷ ps) = Placed text i p × AllPlaced text (suc i) ps

-- at the place of each operand, the first of which is operand i, and at that of its name, stands what these slots and values say
abbrev pub AllShown : List ℕ → ℕ → (ks : List Slot) → Values ks → Type 0
AllShown text i [] v = Unit {0}
AllShown text i (k ∷ ks) v = Shows k v.0 (drop (operand_place text i) text) (drop (name_place text i) text) × AllShown text (suc i) ks v.1

-- of a text, of whatever statement it spells, and however
pub record OperandsPlaced (text : List ℕ) : Type 0 where
  -- Each operand of its spelling is placed,
  pub each : (w : Whole) (s : Spells w text) → AllPlaced text 0 (parts_of s)
  -- so at each place stands that operand of the statement.
  pub shown : (w : Whole) → Spells w text → AllShown text 0 (row (opcode_of w.statement)) (values_of w.statement w.registers)
  -- Where an operand of the statement has a name, the token at the place of the name is that name.
  pub named : (w : Whole) → Spells w text → (i : ℕ) (n : Name) → get_or (names_of w.statement) i none ≡ some n → NameAt n (drop (name_place text i) text)
  -- Places rise along the text, a name's is in its operand: so of several operands, or names of operands, the leftmost is that of the lowest index.
  pub rising : (w : Whole) (s : Spells w text) (i j : ℕ) → i < j → j < length (parts_of s) → (operand_place text i ≤ name_place text i) × (name_place text i < operand_place text j)
