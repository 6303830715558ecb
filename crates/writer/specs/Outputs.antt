-- Writing, step by step. Assumes nothing.
use Rattle.std.specs.Prelude.{ℕ, List, [], ◌∷◌, ◌++◌, Bool, true, ◌&&◌, ◌||◌, cond, length, leb, eqb, Option, Result, Ok, Err}
use Rattle.std.proofs.lemmas.List.Edits.{sets}
use Rattle.tokens.specs.declared.Name.{Name}
use Rattle.tokens.specs.Names.{is_name}
use Rattle.statement.specs.declared.Statement.{Statement}
use Rattle.statement.specs.declared.Opcode.{Opcode}
use Rattle.reasons.specs.declared.Reason.{Reason}
use Rattle.reasons.specs.declared.Reason.TheVariants.{Room}
use Rattle.tokens.specs.Text.{bytes}
use Rattle.statement.specs.Forms.{word, Slot, names, Values, row}
use Rattle.pieces.specs.Texts.{added}
use Rattle.statement.specs.Canonical.{slot_text, slot_given, row_text, row_given, text_of, longest_written, given}

-- how many bytes a text may have: enough for any statement
abbrev pub capacity : ℕ
capacity = longest_written

-- the text after the bytes w, if they are given and there is room; what is refused stays so
abbrev pub add_c : List ℕ → Bool → Option (List ℕ) → Option (List ℕ)
add_c w b t = added capacity w b t

-- as many names as are asked for, and names such as reading gives
abbrev pub names_given : ℕ → List Name → Bool
names_given n ns = eqb n (length ns) && slot_given names ns

-- a comma and an operand for each slot
abbrev pub more_c : (ks : List Slot) → Values ks → Option (List ℕ) → Option (List ℕ)
more_c [] v o = o
more_c (k ∷ ks) v o = more_c ks v.1 (add_c (slot_text k v.0) (slot_given k v.0) (add_c (bytes ", ") true o))

-- two operands and the semicolon
abbrev pub pair_text : List ℕ → List ℕ → List ℕ
pair_text x y = x ++ (bytes ", " ++ (y ++ bytes ";"))

-- an opcode's word and its operands; `b`: what more has to hold
abbrev pub form_c : (o : Opcode) → Values (row o) → Bool → Option (List ℕ) → Option (List ℕ)
form_c o v b s = add_c (word o ++ row_text (row o) v) (b && row_given (row o) v) s

-- the two halves of a packed name, without the zeros that lead: a full first one or no second one, and a name's bytes
unfoldable pub halves_given : List ℕ → List ℕ → Bool
halves_given x y = (eqb (length x) 8 || eqb (length y) 0) && is_name (x ++ y)

-- ---- what the writer answers, and what the room holds then
unfoldable pub written_of : ℕ → Statement → List Name → Result ℕ Reason
written_of n t regs = cond (given t regs && leb (length (text_of t regs)) n) (Ok (length (text_of t regs))) (Err Room)

unfoldable pub left_by : List ℕ → Statement → List Name → List ℕ
left_by old t regs = cond (given t regs && leb (length (text_of t regs)) (length old)) (sets old 0 (text_of t regs)) old
