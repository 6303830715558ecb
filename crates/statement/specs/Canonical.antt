-- The canonical text of a statement: from the same rows, one space after the opcode and after each comma, decimals, no +0. Assumes nothing.
use Rattle.tokens.specs.Text.{bytes}
use Rattle.std.specs.Prelude.{ℕ, List, [], ◌∷◌, ◌++◌, Bool, true, false, ◌&&◌, cond, length, ltb, leb, eqb, Some, None}
use Rattle.tokens.specs.declared.Name.{Name}
use Rattle.tokens.specs.Names.{name_bytes, name_given}
use Rattle.tokens.specs.Numbers.{decimal}
use Rattle.statement.specs.declared.Address.{Address}
use Rattle.statement.specs.declared.Operand.{Operand}
use Rattle.statement.specs.declared.Operand.TheVariants as operand
use Rattle.statement.specs.declared.Mma.{Mma}
use Rattle.statement.specs.declared.Statement.{Statement}
use Rattle.statement.specs.declared.Statement.TheVariants as s
use Rattle.statement.specs.declared.Opcode.{Opcode}
use Rattle.statement.specs.declared.Opcode.TheVariants.{Mov32, Mov64, Alloc, Dealloc, Relinquish, Load, Store, WaitLoad, WaitStore, FenceBefore, FenceAfter, Multiply, Exit}
use Rattle.statement.specs.Views.{access_of, of}
use Rattle.statement.specs.Forms.{Metadata, word, Slot, name, number, in_brackets, address, operand, names, Value, Values, max_offset, row}

-- ---- a statement's opcode and operands
abbrev pub sparse : Metadata → Bool
sparse None = false
sparse (Some a) = true

abbrev pub opcode_of : Statement → Opcode
opcode_of (s.Mov32 n v) = Mov32
opcode_of (s.Mov64 n v) = Mov64
opcode_of (s.Alloc n v) = Alloc false
opcode_of (s.Dealloc n v) = Dealloc
opcode_of s.Relinquish = Relinquish
opcode_of (s.Load a) = Load a.shape a.num
opcode_of (s.Store a) = Store a.shape a.num
opcode_of s.WaitLoad = WaitLoad
opcode_of s.WaitStore = WaitStore
opcode_of s.FenceBefore = FenceBefore
opcode_of s.FenceAfter = FenceAfter
opcode_of (s.Multiply m) = Multiply m.ws (sparse m.metadata) m.kind
opcode_of s.Exit = Exit

abbrev pub mma_values : (m : Mma) (e : Metadata) → Values (row (Multiply m.ws (sparse e) m.kind))
mma_values m None = (m.d, (m.a, (m.b, (m.idesc, (m.predicate, tt)))))
mma_values m (Some e) = (m.d, (m.a, (m.b, (e, (m.idesc, (m.predicate, tt))))))

abbrev pub values_of : (t : Statement) → List Name → Values (row (opcode_of t))
values_of (s.Mov32 n v) regs = (n, (v, tt))
values_of (s.Mov64 n v) regs = (n, (v, tt))
values_of (s.Alloc n v) regs = (n, (v, tt))
values_of (s.Dealloc n v) regs = (n, (v, tt))
values_of s.Relinquish regs = tt
values_of (s.Load a) regs = (regs, (a.address, tt))
values_of (s.Store a) regs = (a.address, (regs, tt))
values_of s.WaitLoad regs = tt
values_of s.WaitStore regs = tt
values_of s.FenceBefore regs = tt
values_of s.FenceAfter regs = tt
values_of (s.Multiply m) regs = mma_values m m.metadata
values_of s.Exit regs = tt

-- ---- texts
abbrev pub offset_text : ℕ → List ℕ
offset_text v = cond (eqb v 0) [] (bytes "+" ++ decimal v)

unfoldable pub address_text : Address → List ℕ
address_text a = bytes "[" ++ (name_bytes a.base ++ (offset_text a.offset ++ bytes "]"))

unfoldable pub operand_text : Operand → List ℕ
operand_text (operand.Descriptor n) = name_bytes n
operand_text (operand.Address a) = address_text a

-- a comma and a space before each name, and the brace
unfoldable pub more_names_text : List Name → List ℕ
more_names_text [] = bytes "}"
more_names_text (n ∷ ns) = bytes ", " ++ (name_bytes n ++ more_names_text ns)

unfoldable pub names_text : List Name → List ℕ
names_text [] = bytes "{}"
names_text (n ∷ ns) = bytes "{" ++ (name_bytes n ++ more_names_text ns)

abbrev pub slot_text : (k : Slot) → Value k → List ℕ
slot_text name v = name_bytes v
slot_text (number limit) v = decimal v
slot_text in_brackets v = bytes "[" ++ (name_bytes v ++ bytes "]")
slot_text address v = address_text v
slot_text operand v = operand_text v
slot_text names v = names_text v

unfoldable pub more_row_text : (ks : List Slot) → Values ks → List ℕ
more_row_text [] v = bytes ";"
more_row_text (k ∷ ks) v = bytes ", " ++ (slot_text k v.0 ++ more_row_text ks v.1)

unfoldable pub row_text : (ks : List Slot) → Values ks → List ℕ
row_text [] v = bytes ";"
row_text (k ∷ ks) v = bytes " " ++ (slot_text k v.0 ++ more_row_text ks v.1)

-- the canonical text
unfoldable pub text_of : Statement → List Name → List ℕ
text_of t regs = word (opcode_of t) ++ row_text (row (opcode_of t)) (values_of t regs)

-- room for any: `short` of crate grammar
abbrev pub longest_written : ℕ
longest_written = 2560

-- ---- values such as reading gives
abbrev pub all_names : List Name → Bool
all_names [] = true
all_names (n ∷ ns) = name_given n && all_names ns

abbrev pub address_given : Address → Bool
address_given a = name_given a.base && leb a.offset max_offset

abbrev pub operand_given : Operand → Bool
operand_given (operand.Descriptor n) = name_given n
operand_given (operand.Address a) = address_given a

abbrev pub slot_given : (k : Slot) → Value k → Bool
slot_given name v = name_given v
slot_given (number limit) v = leb v limit
slot_given in_brackets v = name_given v
slot_given address v = address_given v
slot_given operand v = operand_given v
slot_given names v = (ltb 0 (length v) && leb (length v) 128) && all_names v

unfoldable pub row_given : (ks : List Slot) → Values ks → Bool
row_given [] v = true
row_given (k ∷ ks) v = slot_given k v.0 && row_given ks v.1

-- the count in the statement is that of the names beside it
abbrev pub count_of : Statement → ℕ
count_of t = of (access_of t) (λ a. a.registers) 0

-- a statement and names of registers such as reading gives
unfoldable pub given : Statement → List Name → Bool
given t regs = eqb (count_of t) (length regs) && row_given (row (opcode_of t)) (values_of t regs)
