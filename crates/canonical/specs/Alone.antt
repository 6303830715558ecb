-- What is answered of a statement's text by itself. Assumes nothing.
use Rattle.std.specs.Prelude.{Result, ℕ, ◌+◌, cond, List, Ok, Err}
use Rattle.tokens.specs.declared.Name.{Name}
use Rattle.reasons.specs.declared.Reason.{Reason}
use Rattle.reasons.specs.Reasons.{number}
use Rattle.statement.specs.Reading.{Reading, misread_reason, misread_place, reason_of}
use Rattle.statement.specs.Cells.{counted}
use Rattle.writer.specs.Outputs.{written_of, left_by}
use Rattle.canonical.specs.declared.Refusal.{Refusal}

-- the reason of a text from what it reads as: 3 or 4, then 5
abbrev pub alone_reason : Reading → ℕ
alone_reason (Ok t) = cond (counted t) 0 5
alone_reason (Err m) = reason_of (Err m)

-- its column, from 1 at the first byte: that of the token that no form has there, of the number that is out of range, or of the opcode; 0 where the reason is 0
abbrev pub alone_column : Reading → ℕ
alone_column (Ok t) = cond (counted t) 0 1
alone_column (Err m) = misread_place m + 1

pub record Alone : Type 0 where
  pub reason : ℕ
  pub column : ℕ

abbrev pub alone_of : Reading → Alone
alone_of r = record { reason = alone_reason r; column = alone_column r }

-- what an answer says: the number of its reason and the column, 0 and 0 where nothing is refused
abbrev pub alone_in : {A : Type 0} → Result A Refusal → Alone
alone_in (Ok _) = record { reason = 0; column = 0 }
alone_in (Err f) = record { reason = number f.reason; column = f.column }

-- the answer to writing what a text reads as, with its registers' names, into a room of that length
abbrev pub rewritten : ℕ → Reading → List Name → Result ℕ Reason
rewritten room (Ok t) regs = written_of room t regs
rewritten room (Err m) regs = Err (misread_reason m)

-- what the room holds then
abbrev pub left_of : List ℕ → Reading → List Name → List ℕ
left_of old (Ok t) regs = left_by old t regs
left_of old (Err m) regs = old
