-- A given statement's text has at most 2,560 bytes: 128 names of 16 bytes with two before each, an address, and a word. Assumes nothing.
use Prim.Native.Nat.{ℕ, ◌+◌, ◌*◌, ◌≤◌}
use native.Mathlib.Omega.{arith}
use mathlib.Core.Path.{◌≡◌, refl}
use mathlib.Core.List.{List, [], ◌∷◌, ◌++◌}
use mathlib.Core.Bool.{true, ◌&&◌}
use lib.ListN.{length, length-append}
use lib.Dec.{ltb, leb, eqb}
use borrow.Author.Tests.{leb-true}
use Rattle.laws.proofs.BoolLaws.{and_l, and_r}
use Rattle.tokens.specs.declared.Name.{Name}
use Rattle.tokens.specs.Text.{bytes}
use Rattle.tokens.specs.Names.{name_bytes}
use Rattle.tokens.specs.Numbers.{decimal}
use Rattle.tokens.proofs.Lengths.{cond-le, name_short, decimal_short}
use Rattle.statement.specs.declared.Address.{Address}
use Rattle.statement.specs.declared.Operand.{Operand}
use Rattle.statement.specs.declared.Statement.{Statement}
use Rattle.statement.specs.declared.Opcode.{Opcode}
use Rattle.statement.specs.Forms.{word, Slot, name, number, in_brackets, address, operand, names, Value, Values, row}
use Rattle.statement.specs.Opcodes.{opcodes}
use Rattle.statement.proofs.Every.{every}
use Rattle.statement.specs.Canonical.{opcode_of, values_of, count_of, offset_text, address_text, operand_text, more_names_text, names_text, slot_text, slot_given, more_row_text, row_text, row_given, all_names, text_of, longest_written, given}
use Rattle.statement.specs.declared.Operand.TheVariants as o

-- ---- operands
offset_short : (v : ℕ) → length (offset_text v) ≤ 21
offset_short v = cond-le (eqb v 0) [] (bytes "+" ++ decimal v) 21 (omega arith) (omega (arith, decimal_short v))

address_short : (a : Address) → length (address_text a) ≤ 39
unfolding address_text
address_short a =
    let x = name_bytes a.base in
    let y = offset_text a.offset in
    omega (arith, length-append x (y ++ bytes "]"), length-append y (bytes "]"), name_short a.base, offset_short a.offset)

operand_short : (x : Operand) → length (operand_text x) ≤ 39
unfolding operand_text
operand_short (o.Descriptor n) = omega (arith, name_short n)
operand_short (o.Address a) = address_short a

more_names_short : (ns : List Name) → length (more_names_text ns) ≤ 18 * length ns + 1
unfolding more_names_text
more_names_short [] = omega arith
more_names_short (n ∷ ns) = omega (arith, length-append (name_bytes n) (more_names_text ns), name_short n, more_names_short ns)

names_short : (ns : List Name) → length (names_text ns) ≤ 18 * length ns + 2
unfolding names_text
names_short [] = omega arith
names_short (n ∷ ns) = omega (arith, length-append (name_bytes n) (more_names_text ns), name_short n, more_names_short ns)

pub names_few : (ns : List Name) → slot_given names ns ≡ true → length ns ≤ 128
names_few ns e = let n = length ns in leb-true n 128 (and_r (ltb 0 n) (leb n 128) (and_l (ltb 0 n && leb n 128) (all_names ns) e))

-- the most bytes that an operand has
abbrev most : Slot → ℕ
most name = 16
most (number limit) = 20
most in_brackets = 18
most address = 39
most operand = 39
most names = 2306

slot_short : (k : Slot) (v : Value k) → slot_given k v ≡ true → length (slot_text k v) ≤ most k
slot_short name v e = name_short v
slot_short (number limit) v e = decimal_short v
slot_short in_brackets v e = omega (arith, length-append (name_bytes v) (bytes "]"), name_short v)
slot_short address v e = address_short v
slot_short operand v e = operand_short v
slot_short names v e = omega (arith, names_short v, names_few v e)

-- ---- rows
abbrev most_row : List Slot → ℕ
most_row [] = 1
most_row (k ∷ ks) = 2 + most k + most_row ks

more_short : (ks : List Slot) (v : Values ks) → row_given ks v ≡ true → length (more_row_text ks v) ≤ most_row ks
unfolding row_given more_row_text
more_short [] v e = omega arith
more_short (k ∷ ks) v e =
    omega (arith, length-append (slot_text k v.0) (more_row_text ks v.1), slot_short k v.0 (and_l (slot_given k v.0) (row_given ks v.1) e), more_short ks v.1 (and_r (slot_given k v.0) (row_given ks v.1) e))

row_short : (ks : List Slot) (v : Values ks) → row_given ks v ≡ true → length (row_text ks v) ≤ most_row ks
unfolding row_given row_text
row_short [] v e = omega arith
row_short (k ∷ ks) v e =
    omega (arith, length-append (slot_text k v.0) (more_row_text ks v.1), slot_short k v.0 (and_l (slot_given k v.0) (row_given ks v.1) e), more_short ks v.1 (and_r (slot_given k v.0) (row_given ks v.1) e))

-- ---- of each opcode
row_most : (p : Opcode) → most_row (row p) ≤ 2400
row_most p = leb-true (most_row (row p)) 2400 (every (λ o. leb (most_row (row o)) 2400) (λ o. true) (unfold opcodes in refl) p)

word_short : (p : Opcode) → length (word p) ≤ 64
word_short p = leb-true (length (word p)) 64 (every (λ o. leb (length (word o)) 64) (λ o. true) (unfold word opcodes in refl) p)

pub text_short : (t : Statement) (regs : List Name) → given t regs ≡ true → length (text_of t regs) ≤ longest_written
unfolding text_of given
text_short t regs e =
    let p = opcode_of t in
    let v = values_of t regs in
    omega (arith, length-append (word p) (row_text (row p) v), word_short p, row_most p, row_short (row p) v (and_r (eqb (count_of t) (length regs)) (row_given (row p) v) e))
