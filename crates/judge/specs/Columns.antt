-- The columns of a sheet, of any bytes: what stands in its line at the column of each position. A column is a byte's number in its line, from 1.
-- proofs/ColumnsProved.antt proves it. Assumes nothing.
use Rattle.std.specs.Prelude.{ℕ, suc, ◌+◌, ◌-◌, ◌≡◌, List, get_or, drop, Ok, Err}
use Rattle.lines.specs.Sheet.{text_of, warp_of, after, fault, laid, content_after}
use Rattle.statement.specs.declared.Statement.{Statement}
use Rattle.statement.specs.declared.Misread.TheVariants.{NoForm, TooLarge}
use Rattle.statement.specs.declared.Position.{Position}
use Rattle.statement.specs.declared.Position.TheVariants as position
use Rattle.statement.specs.Forms.{row}
use Rattle.statement.specs.Reading.{read_of, registers_of}
use Rattle.statement.specs.Canonical.{opcode_of, values_of}
use Rattle.statement.specs.Positions.{operand_place, name_place}
use Rattle.grammar.specs.Operands.{AllShown}
use Rattle.grammar.specs.Claims.{Place, Over}
use Rattle.judge.specs.Judged.{byte_columns}

-- the bytes of a line, line 1 counted as 0
abbrev pub line_text : List ℕ → ℕ → List ℕ
line_text s k = text_of (after k s)

-- a line from a column on
abbrev pub from_column : List ℕ → ℕ → List ℕ
from_column line column = drop (column - 1) line

-- of a line after the first, whose content is a warp and the text of a statement
pub record LineColumns (s : List ℕ) (k warp : ℕ) (text : List ℕ) : Type 0 where
  -- It starts in column 1, where its warp stands, and its statement, with the opcode, in column 3.
  pub start : byte_columns s (suc k) position.Start ≡ 1
  pub mark : warp_of (get_or (line_text s (suc k)) 0 0) ≡ warp
  pub opcode : byte_columns s (suc k) position.Opcode ≡ 3
  pub statement : from_column (line_text s (suc k)) 3 ≡ text
  -- The column of reason 3 is the place at which no statement can go on, counted from there;
  pub three : (place : ℕ) → read_of text ≡ Err (NoForm place) → (byte_columns s (suc k) position.Token ≡ place + 3) × Place text place
  -- that of reason 4 is the place of the first number out of range.
  pub four : (place : ℕ) → read_of text ≡ Err (TooLarge place) → (byte_columns s (suc k) position.Token ≡ place + 3) × Over text place
  -- From the column of an operand on, the line is the text from the operand on,
  pub operand : (i : ℕ) → from_column (line_text s (suc k)) (byte_columns s (suc k) (position.Operand i)) ≡ drop (operand_place text i) text
  -- from that of its name on, the text from the name on,
  pub name : (i : ℕ) → from_column (line_text s (suc k)) (byte_columns s (suc k) (position.Name i)) ≡ drop (name_place text i) text
  -- and of a text that reads, there stand the operands and the names of its statement.
  pub shown : (t : Statement) → read_of text ≡ Ok t → AllShown text 0 (row (opcode_of t)) (values_of t (registers_of text))

pub record ColumnsExact (s : List ℕ) : Type 0 where
  -- Line 1 has column 1 alone,
  pub header : (p : Position) → byte_columns s 0 p ≡ 1
  -- and so has a line whose layout is wrong.
  pub wrong : (k : ℕ) (p : Position) → content_after (suc k) s ≡ fault → byte_columns s (suc k) p ≡ 1
  -- Every other line has the columns of its statement.
  pub laid_out : (k warp : ℕ) (text : List ℕ) → content_after (suc k) s ≡ laid warp text → LineColumns s k warp text
