-- Where the parts of a statement stand. A position is what is pointed at, as the opcode or an operand's name; its place is how many bytes of the statement's text
-- stand before it; its column is counted in its line, from 1. `OperandsPlaced` of crate grammar ties places to the spellings. Assumes nothing.
use Rattle.std.specs.Prelude.{ℕ, zero, suc, ◌+◌, ◌-◌, List, [], ◌∷◌, Bool, true, false, not, ◌&&◌, ◌||◌, cond, length, drop, eqb, Ok, Err}
use Rattle.std.proofs.Math.Option.{Option, none, some}
use Rattle.tokens.specs.Text.{byte}
use Rattle.tokens.specs.Bytes.{after_blanks}
use Rattle.statement.specs.declared.Position.{Position}
use Rattle.statement.specs.declared.Position.TheVariants as position
use Rattle.tokens.specs.declared.Name.{Name}
use Rattle.statement.specs.declared.Operand.{Operand}
use Rattle.statement.specs.declared.Operand.TheVariants as operands
use Rattle.statement.specs.declared.Mma.{Mma}
use Rattle.statement.specs.declared.Statement.{Statement}
use Rattle.statement.specs.Forms.{Slot, name, number, in_brackets, address, operand, names, Value, Values, row}
use Rattle.statement.specs.Reading.{Reading, misread_place, opcode_len, read_of}
use Rattle.statement.specs.Canonical.{sparse, opcode_of, values_of}

-- ---- operands in a text
-- after a byte we are inside braces: an opening one was met, or we were and it closes none
abbrev pub within : Bool → ℕ → Bool
within inside x = eqb x (byte "{") || (inside && not (eqb x (byte "}")))

-- what is left after the first comma outside of braces
unfoldable pub after_comma : (inside : Bool) → List ℕ → List ℕ
after_comma inside [] = []
after_comma inside (x ∷ l) = cond (eqb x (byte ",") && not inside) l (after_comma (within inside x) l)

-- after so many of them
unfoldable pub after_commas : ℕ → List ℕ → List ℕ
after_commas zero l = l
after_commas (suc n) l = after_commas n (after_comma false l)

-- a text from the first byte of operand i on: commas part the operands, spaces may stand before each
unfoldable pub operand_from : List ℕ → ℕ → List ℕ
operand_from text i = after_blanks (after_commas i (drop (opcode_len text) text))

-- what follows a bracket that opens, and the spaces after it
abbrev pub after_bracket : List ℕ → List ℕ
after_bracket [] = []
after_bracket (x ∷ l) = cond (eqb x (byte "[")) (after_blanks l) (x ∷ l)

-- a text from the name of operand i on, inside the bracket where it has one
unfoldable pub name_from : List ℕ → ℕ → List ℕ
name_from text i = after_bracket (operand_from text i)

-- their places, from 0
unfoldable pub operand_place : List ℕ → ℕ → ℕ
operand_place text i = length text - length (operand_from text i)

unfoldable pub name_place : List ℕ → ℕ → ℕ
name_place text i = length text - length (name_from text i)

-- ---- operands of a statement
-- it is always an address: an operand may be a name
abbrev pub is_address : Slot → Bool
is_address name = false
is_address (number limit) = false
is_address in_brackets = false
is_address address = true
is_address operand = false
is_address names = false

-- how many operands stand before the first address of a row
abbrev pub before_address : List Slot → ℕ
before_address [] = 0
before_address (k ∷ ks) = cond (is_address k) 0 (suc (before_address ks))

-- which operand the address of a ld or st is
abbrev pub address_at : Statement → ℕ
address_at t = before_address (row (opcode_of t))

-- which operand idesc is: the metadata stands before it
abbrev pub idesc_at : Mma → ℕ
idesc_at m = cond (sparse m.metadata) 4 3

-- the name of a descriptor or of an address
abbrev pub operand_name : Operand → Name
operand_name (operands.Descriptor n) = n
operand_name (operands.Address a) = a.base

abbrev pub slot_name : (k : Slot) → Value k → Option Name
slot_name name v = some v
slot_name (number limit) v = none
slot_name in_brackets v = some v
slot_name address v = some v.base
slot_name operand v = some (operand_name v)
slot_name names v = none

abbrev pub row_names : (ks : List Slot) → Values ks → List (Option Name)
row_names [] v = []
row_names (k ∷ ks) v = slot_name k v.0 ∷ row_names ks v.1

-- the names of its operands, in the order of the text: none for a number and for a list
abbrev pub names_of : Statement → List (Option Name)
names_of t = row_names (row (opcode_of t)) (values_of t [])

-- ---- columns
-- the place of the token that no form has there, or of the number that is out of range; 0 for a text that reads
abbrev pub stop_in : Reading → ℕ
stop_in (Ok t) = 0
stop_in (Err m) = misread_place m

-- a line has its warp in column 1, a tab in 2, and its statement from 3 on
abbrev pub start_column : ℕ
start_column = 1

abbrev pub statement_column : ℕ
statement_column = 3

-- the column of a position in the line of a statement's text
unfoldable pub byte_column : List ℕ → Position → ℕ
byte_column text position.Start = start_column
byte_column text position.Token = statement_column + stop_in (read_of text)
byte_column text position.Opcode = statement_column
byte_column text (position.Name i) = statement_column + name_place text i
byte_column text (position.Operand i) = statement_column + operand_place text i
