-- How a statement is read: the opcode, its row of operands, the answer. Assumes nothing.
use Rattle.tokens.specs.Text.{byte}
use Rattle.std.specs.Prelude.{ℕ, zero, suc, ◌-◌, List, [], ◌∷◌, Bool, true, false, ◌&&◌, cond, length, take, drop, leb, Option, Some, None, Result, Ok, Err}
use Rattle.tokens.specs.declared.Name.{Name}
use Rattle.tokens.specs.Bytes.{opcode_byte, run_len}
use Rattle.tokens.specs.Cursors.{Rest, off, Took, mark_c, end_c, name_c}
use Rattle.expression.specs.Expressions.{quantity_c}
use Rattle.statement.specs.declared.Address.{Address}
use Rattle.statement.specs.declared.Operand.{Operand}
use Rattle.statement.specs.declared.Operand.TheVariants as operand
use Rattle.statement.specs.declared.Statement.{Statement}
use Rattle.statement.specs.declared.Statement.TheVariants as s
use Rattle.statement.specs.declared.Opcode.{Opcode}
use Rattle.statement.specs.declared.Misread.{Misread}
use Rattle.statement.specs.declared.Misread.TheVariants.{NoForm, TooLarge}
use Rattle.reasons.specs.declared.Reason.{Reason}
use Rattle.reasons.specs.declared.Reason.TheVariants as reason
use Rattle.reasons.specs.Reasons.{number as number_of}
use Rattle.statement.specs.Forms.{Slot, name, number, in_brackets, address, operand, names, Value, Values, max_offset, row, Whole, plain, make}
use Rattle.statement.specs.Opcodes.{recognise}

-- ---- operands
-- [ name ]
unfoldable pub in_brackets_c : Rest → Took Name
in_brackets_c r = let n = name_c (mark_c (byte "[") r) in record { value = n.value; next = mark_c (byte "]") n.next }

-- + and a number or an expression, or nothing, which is 0
unfoldable pub offset_c : Rest → Took ℕ
offset_c r = let d = mark_c (byte "+") r in cond d.ok (quantity_c max_offset d) (record { value = 0; next = r })

-- name ] or name + and a number or an expression ]
unfoldable pub inside_c : Rest → Took Address
inside_c r =
    let n = name_c r in
    let v = offset_c n.next in
    record { value = record { base = n.value; offset = v.value }; next = mark_c (byte "]") v.next }

unfoldable pub address_c : Rest → Took Address
address_c r = inside_c (mark_c (byte "[") r)

-- an address where a bracket opens, else a descriptor's name
unfoldable pub operand_c : Rest → Took Operand
operand_c r =
    let d = mark_c (byte "[") r in
    let a = inside_c d in
    let n = name_c r in
    cond d.ok (record { value = operand.Address a.value; next = a.next }) (record { value = operand.Descriptor n.value; next = n.next })

-- after a name: a comma and a name, up to k times, and the brace
unfoldable pub more_c : ℕ → Rest → Took (List Name)
more_c zero r = record { value = []; next = mark_c (byte "}") r }
more_c (suc k) r =
    let d = mark_c (byte ",") r in
    let n = name_c d in
    let m = more_c k n.next in
    cond d.ok (record { value = n.value ∷ m.value; next = m.next }) (record { value = []; next = mark_c (byte "}") r })

-- { 1 to 128 names }
unfoldable pub names_c : Rest → Took (List Name)
names_c r =
    let n = name_c (mark_c (byte "{") r) in
    let m = more_c 127 n.next in
    record { value = n.value ∷ m.value; next = m.next }

abbrev pub slot_c : (k : Slot) → Rest → Took (Value k)
slot_c name r = name_c r
slot_c (number limit) r = quantity_c limit r
slot_c in_brackets r = in_brackets_c r
slot_c address r = address_c r
slot_c operand r = operand_c r
slot_c names r = names_c r

-- a comma and an operand for each slot, and the end
unfoldable pub more_row_c : (ks : List Slot) → Rest → Took (Values ks)
more_row_c [] r = record { value = tt; next = end_c r }
more_row_c (k ∷ ks) r =
    let v = slot_c k (mark_c (byte ",") r) in
    let m = more_row_c ks v.next in
    record { value = (v.value, m.value); next = m.next }

-- an operand for each slot, which commas part, and the end
unfoldable pub row_c : (ks : List Slot) → Rest → Took (Values ks)
row_c [] r = record { value = tt; next = end_c r }
row_c (k ∷ ks) r =
    let v = slot_c k r in
    let m = more_row_c ks v.next in
    record { value = (v.value, m.value); next = m.next }

-- ---- the answer
-- a statement, or why a text is none
abbrev pub Reading : Type 0
Reading = Result Statement Misread

-- the reason that a text is refused for: no form, or a number out of range
abbrev pub misread_reason : Misread → Reason
misread_reason (NoForm at) = reason.Form
misread_reason (TooLarge at) = reason.Number

-- where that was seen
abbrev pub misread_place : Misread → ℕ
misread_place (NoForm at) = at
misread_place (TooLarge at) = at

-- the most bytes of a text that reads
abbrev pub longest_text : ℕ
longest_text = 4096

-- no form where reading stopped, or else past the end of a longer text, before out of range; each with its position in text
unfoldable pub answer_of : List ℕ → Rest → Statement → Reading
answer_of text r t =
    cond r.ok
    (cond (leb (length text) longest_text) (cond r.over (Err (TooLarge (length text - length r.far))) (Ok t)) (Err (NoForm (length text))))
    (Err (NoForm (length text - length r.rest)))

-- the operands of an opcode, read from r on
unfoldable pub operands_c : Opcode → Rest → Took Whole
operands_c o r = let t = row_c (row o) r in record { value = make o t.value; next = t.next }

abbrev pub start : List ℕ → Rest
start l = record { rest = l; ok = true; over = false; far = l }

abbrev pub whole_by : List ℕ → List ℕ → Option Opcode → Took Whole
whole_by text rest (Some o) = operands_c o (start rest)
whole_by text rest None = record { value = plain s.Exit; next = off (start text) text }

abbrev pub opcode_len : List ℕ → ℕ
opcode_len text = run_len opcode_byte text

-- the statement that a text is, and where its reading ended
unfoldable pub whole_c : List ℕ → Took Whole
whole_c text = whole_by text (drop (opcode_len text) text) (recognise (take (opcode_len text) text))

-- what a text reads as
unfoldable pub read_of : List ℕ → Reading
read_of text = answer_of text (whole_c text).next (whole_c text).value.statement

-- the number of an answer
abbrev pub reason_of : Reading → ℕ
reason_of (Ok t) = 0
reason_of (Err m) = number_of (misread_reason m)

-- reading ended well, with every number in range
abbrev pub fine : Rest → Bool
fine r = cond r.ok (cond r.over false true) false

-- the names of the registers of a text that reads; none for another
unfoldable pub registers_of : List ℕ → List Name
registers_of text = cond (leb (length text) longest_text && fine (whole_c text).next) (whole_c text).value.registers []

-- ---- views of what the functions return
-- how many there are
abbrev pub tally : Took (List Name) → Took ℕ
tally r = record { value = length r.value; next = r.next }

-- the answer for what was read of a text
abbrev pub told : List ℕ → Took Whole → Reading
told text t = answer_of text t.next t.value.statement
