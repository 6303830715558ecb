-- The opcode at the head of a text: the table's, of the run of opcode bytes there. Assumes nothing.
use Rattle.std.specs.Prelude.{ℕ, List, take, drop, Option, Some, None}
use Rattle.statement.specs.declared.Opcode.{Opcode}
use Rattle.statement.specs.Opcodes.{recognise}
use Rattle.statement.specs.Reading.{opcode_len}
use Rattle.opcode.specs.declared.Head.{Head}

-- an opcode, and what follows it
pub record Parted : Type 0 where
  pub found : Option Opcode
  pub rest : List ℕ

-- what a function returns of a text: nothing is passed where it finds no opcode
abbrev pub head_seen : List ℕ → Option Head → Parted
head_seen s (Some h) = record { found = Some h.opcode; rest = drop h.end s }
head_seen s None = record { found = None; rest = s }

-- what the table found, and what follows it: nothing is passed where it found none
abbrev pub head_by : List ℕ → Option Opcode → Parted
head_by s (Some o) = record { found = Some o; rest = drop (opcode_len s) s }
head_by s None = record { found = None; rest = s }

-- the opcode that the run of opcode bytes at the head of a text is
unfoldable pub head_of : List ℕ → Parted
head_of s = head_by s (recognise (take (opcode_len s) s))
