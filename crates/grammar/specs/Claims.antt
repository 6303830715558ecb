-- What is shown of reading and writing: a record for each theorem, a field for each sentence of it, and last, in `Theorems`, of which texts and statements each is shown. Assumes nothing.
use Rattle.std.specs.Prelude.{ℕ, ◌<◌, ◌≤◌, ◌≡◌, ◌↔◌, List, ◌++◌, true, false, length, take, drop, Ok, Err}
use Rattle.std.proofs.Math.Option.{some}
use Rattle.tokens.specs.declared.Name.{Name}
use Rattle.tokens.specs.Bytes.{word_byte, run_len, after_blanks, token_of, after_token}
use Rattle.tokens.specs.Names.{is_name, packed}
use Rattle.tokens.specs.Numbers.{decimal}
use Rattle.statement.specs.declared.Statement.{Statement}
use Rattle.statement.specs.declared.Opcode.{Opcode}
use Rattle.statement.specs.declared.Misread.TheVariants.{NoForm, TooLarge}
use Rattle.statement.specs.declared.Num.{Num}
use Rattle.tokens.specs.Text.{bytes}
use Rattle.statement.specs.Forms.{num_text, word, Whole}
use Rattle.statement.specs.Cells.{times}
use Rattle.statement.specs.Reading.{opcode_len, read_of, reason_of, registers_of}
use Rattle.grammar.specs.Spells.{Spells, sized}
use Rattle.grammar.specs.Operands.{parts_of, first_over, OperandsPlaced}
use Rattle.statement.specs.Canonical.{text_of, given}

-- ---- reading is exact
pub record Exact (text : List ℕ) : Type 0 where
  -- A text reads as a statement, with the names of its registers, if and only if it spells it, its numbers are in range and it has at most 4,096 bytes.
  pub got : (w : Whole) → ((read_of text ≡ Ok w.statement) × (registers_of text ≡ w.registers)) ↔ (Spells w text × (sized w.statement ≡ true) × (length text ≤ 4096))
  -- Reason 4 is given if and only if it spells a statement with a number or an expression out of range, in at most 4,096 bytes.
  pub four : (reason_of (read_of text) ≡ 4) ↔ ((w : Whole) × Spells w text × (sized w.statement ≡ false) × (length text ≤ 4096))
  -- Reason 3 is given if and only if it spells no statement in at most 4,096 bytes.
  pub three : (reason_of (read_of text) ≡ 3) ↔ (length text ≤ 4096 → (w : Whole) → Spells w text → ⊥)
  -- There is no other reason.
  pub else : (reason_of (read_of text) ≡ 0 → ⊥) → (reason_of (read_of text) ≡ 4 → ⊥) → reason_of (read_of text) ≡ 3
  -- No text has two readings.
  pub one : (v w : Whole) → Spells v text → Spells w text → v ≡ w

-- a text reads as a statement with the names of its registers
abbrev pub Reads : List ℕ → Statement → List Name → Type 0
Reads text t regs = (read_of text ≡ Ok t) × (registers_of text ≡ regs)

-- ---- what is written reads back the same: of a statement that can be written
pub record Trip (t : Statement) (regs : List Name) : Type 0 where
  -- Its canonical text spells it,
  pub spells : Spells (record { statement = t; registers = regs }) (text_of t regs)
  -- has at most 2,560 bytes,
  pub short : length (text_of t regs) ≤ 2560
  -- reads as that statement with those registers,
  pub back : Reads (text_of t regs) t regs
  -- and is no other statement's.
  pub apart : (u : Statement) (rest : List Name) → given u rest ≡ true → text_of u rest ≡ text_of t regs → (u ≡ t) × (rest ≡ regs)

-- ---- whatever reads can be written: of a statement and the names of registers
pub record Writable (t : Statement) (regs : List Name) : Type 0 where
  -- It can be written if and only if some text reads as it.
  pub exactly : (given t regs ≡ true) ↔ ((text : List ℕ) × Reads text t regs)

-- ---- canonical texts: of a text that reads as t
pub record Canonical (text : List ℕ) (t : Statement) : Type 0 where
  -- Its canonical text reads as the same statement with the same registers,
  pub same : Reads (text_of t (registers_of text)) t (registers_of text)
  -- and the canonical text of that is itself.
  pub again : (u : Statement) → read_of (text_of t (registers_of text)) ≡ Ok u → text_of u (registers_of (text_of t (registers_of text))) ≡ text_of t (registers_of text)

-- ---- places
-- l is what is left of s after some tokens, and bytes that start none, such as spaces
pub data After : List ℕ → List ℕ → Type 0 where
  here : {l : List ℕ} → After l l
  past : {s l : List ℕ} → After (after_token s) l → After s l

-- the place is that of the first token, or byte that starts none, or end, at which no statement can go on
pub record Stops (text : List ℕ) (place : ℕ) : Type 0 where
  pub inside : place ≤ length text
  -- No token before it goes on past it.
  pub reached : After (drop (opcode_len text) text) (drop place text)
  -- What stands before it can be completed, the last token before it as it is,
  pub more : List ℕ
  pub ends : run_len word_byte more ≡ 0
  pub goes : (w : Whole) × Spells w (take place text ++ more)
  -- and no text of a statement has this token there.
  pub stuck : (t : List ℕ) → token_of t ≡ token_of (drop place text) → (w : Whole) → Spells w (take place text ++ t) → ⊥

-- of a text that spells no statement
pub record Place (text : List ℕ) (place : ℕ) : Type 0 where
  -- Where its first word is no opcode's, the place is 0,
  pub first : ((o : Opcode) → take (opcode_len text) text ≡ word o → ⊥) → place ≡ 0
  -- and else that of the first token at which no statement can go on.
  pub later : (o : Opcode) → take (opcode_len text) text ≡ word o → Stops text place

-- of a text that reason 4 is given for
pub record Over (text : List ℕ) (place : ℕ) : Type 0 where
  -- It spells a statement,
  pub whole : Whole
  pub spelled : Spells whole text
  pub inside : place < length text
  -- and in whatever spelling of it, at the place starts, past its spaces, the first number or expression that is out of range.
  pub starts : (w : Whole) (s : Spells w text) → (from : List ℕ) × (first_over (parts_of s) ≡ some from) × (drop place text ≡ after_blanks from)

-- There is one such place at most, of each of the two.
pub record One (text : List ℕ) : Type 0 where
  pub place : (a b : ℕ) → Stops text a → Stops text b → a ≡ b
  pub over : (a b : ℕ) → Over text a → Over text b → a ≡ b

-- ---- the theorems
pub record Theorems : Type 0 where
  pub exact : (text : List ℕ) → Exact text
  pub trip : (t : Statement) (regs : List Name) → given t regs ≡ true → Trip t regs
  pub writable : (t : Statement) (regs : List Name) → Writable t regs
  pub canonical : (text : List ℕ) (t : Statement) → read_of text ≡ Ok t → Canonical text t
  -- The place of reason 3 in a text of any length that spells no statement,
  pub three : (text : List ℕ) (place : ℕ) → ((w : Whole) → Spells w text → ⊥) → read_of text ≡ Err (NoForm place) → Place text place
  -- and in one that spells one in over 4,096 bytes: its end.
  pub long : (text : List ℕ) (w : Whole) → Spells w text → 4096 < length text → read_of text ≡ Err (NoForm (length text))
  pub four : (text : List ℕ) (place : ℕ) → read_of text ≡ Err (TooLarge place) → Over text place
  pub one : (text : List ℕ) → One text
  -- The places of operands and of their names, which columns are counted from, are those of the spelling, wherever spaces stand.
  pub operands : (text : List ℕ) → OperandsPlaced text
  -- Names that are held as equal numbers have the same bytes: so two statements are equal exactly when forms, numbers and the bytes of names are.
  pub names : (v w : List ℕ) → is_name v ≡ true → is_name w ≡ true → packed v ≡ packed w → v ≡ w
  -- NUM is spelled as `.x` and the decimal of the N that it stands for.
  pub nums : (n : Num) → num_text n ≡ bytes ".x" ++ decimal (times n)
