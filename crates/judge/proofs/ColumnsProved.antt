-- The columns of a sheet are right: a laid line is its mark, a tab and its statement, so a place in the statement is two bytes further on in the line, and what
-- stands at the place crate grammar says. Assumes nothing.
use Rattle.std.specs.Prelude.{Ok, Err}
use Prim.Native.Nat.{ℕ, suc, ◌+◌, ◌-◌, ◌≤◌}
use native.Mathlib.Omega.{arith}
use mathlib.Core.Path.{◌≡◌, refl, sym, ap, ◌∙◌}
use mathlib.Core.List.{List, ◌∷◌}
use lib.ListN.{length, drop, get_or}
use Rattle.tokens.specs.Text.{tab}
use Rattle.lines.specs.Sheet.{after, Content, fault, laid, content_after, warp_of}
use Rattle.lines.specs.Written.{Written}
use Rattle.lines.proofs.SheetTheorems.{read_written}
use Rattle.statement.specs.declared.Statement.{Statement}
use Rattle.statement.specs.declared.Misread.TheVariants.{NoForm}
use Rattle.statement.specs.declared.Position.{Position}
use Rattle.statement.specs.declared.Position.TheVariants as position
use Rattle.statement.specs.Forms.{row, Whole}
use Rattle.statement.specs.Reading.{read_of, reason_of, registers_of}
use Rattle.statement.specs.Canonical.{opcode_of, values_of}
use Rattle.statement.specs.Positions.{stop_in, operand_place, name_place, byte_column}
use Rattle.grammar.specs.Spells.{Spells}
use Rattle.grammar.specs.Operands.{AllShown}
use Rattle.grammar.proofs.Theorems.{theorems}
use Rattle.progress.specs.Going.{column_in}
use Rattle.judge.specs.Judged.{byte_columns}
use Rattle.judge.specs.Columns.{line_text, from_column, LineColumns, ColumnsExact}

-- a column by what its line is
column_is : (s : List ℕ) (k : ℕ) (c : Content) (p : Position) → content_after (suc k) s ≡ c → byte_columns s (suc k) p ≡ column_in c p
unfolding byte_columns
column_is s k c p e = ap (λ (x : Content). column_in x p) e

-- a place in the statement is two bytes further on in the line
from_place : (mark n column : ℕ) (line text : List ℕ) → line ≡ mark ∷ (tab ∷ text) → column ≡ 3 + n → from_column line column ≡ drop n text
from_place mark n column line text l e = let z : column - 1 ≡ suc (suc n) = omega (arith, e) in rw (z, l)

module _ (s : List ℕ) (k warp : ℕ) (text : List ℕ) (e : content_after (suc k) s ≡ laid warp text) where
  written : Written (after (suc k) s) warp text
  written = read_written (after (suc k) s) warp text e

  -- a line of at most 2,048 bytes has no text of over 4,096
  short : length text ≤ 4096
  short = omega (arith, ap length written.line, written.short)

  start : byte_columns s (suc k) position.Start ≡ 1
  unfolding byte_column
  start = column_is s k (laid warp text) position.Start e

  opcode : byte_columns s (suc k) position.Opcode ≡ 3
  unfolding byte_column
  opcode = column_is s k (laid warp text) position.Opcode e

  token : byte_columns s (suc k) position.Token ≡ 3 + stop_in (read_of text)
  unfolding byte_column
  token = column_is s k (laid warp text) position.Token e

  operand : (i : ℕ) → byte_columns s (suc k) (position.Operand i) ≡ 3 + operand_place text i
  unfolding byte_column
  operand i = column_is s k (laid warp text) (position.Operand i) e

  name : (i : ℕ) → byte_columns s (suc k) (position.Name i) ≡ 3 + name_place text i
  unfolding byte_column
  name i = column_is s k (laid warp text) (position.Name i) e

  from : (n column : ℕ) → column ≡ 3 + n → from_column (line_text s (suc k)) column ≡ drop n text
  from n column z = from_place written.mark n column (line_text s (suc k)) text written.line z

  -- a text that has no form spells nothing: it is not too long
  spells-none : (place : ℕ) → read_of text ≡ Err (NoForm place) → (w : Whole) → Spells w text → ⊥
  spells-none place r = (theorems.exact text).three.0 (ap reason_of r) short

  shown : (t : Statement) → read_of text ≡ Ok t → AllShown text 0 (row (opcode_of t)) (values_of t (registers_of text))
  shown t r =
      let w : Whole = record { statement = t; registers = registers_of text } in
      (theorems.operands text).shown w (((theorems.exact text).got w).0 (r, refl)).0

  line_columns : LineColumns s k warp text
  line_columns =
      record {
        start = start;
        mark = ap (λ (l : List ℕ). warp_of (get_or l 0 0)) written.line ∙ sym written.names;
        opcode = opcode;
        statement = from 0 3 refl;
        three = λ place r. (omega (arith, token, ap stop_in r), theorems.three text place (spells-none place r) r);
        four = λ place r. (omega (arith, token, ap stop_in r), theorems.four text place r);
        operand = λ i. from (operand_place text i) _ (operand i);
        name = λ i. from (name_place text i) _ (name i);
        shown = shown;
      }

pub columns_exact : (s : List ℕ) → ColumnsExact s
unfolding byte_columns
columns_exact s = record { header = λ p. refl; wrong = λ k p e. column_is s k fault p e; laid_out = λ k warp text e. line_columns s k warp text e }
