-- Worked examples: texts with the reason and the column of each by itself. Assumes nothing.
use Rattle.std.specs.Prelude.{ℕ, List, [], ◌∷◌}
use Prim.Native.String.{String}
use Rattle.laws.specs.Worked.{Gives}
use Rattle.tokens.specs.Text.{bytes}
use Rattle.statement.specs.Reading.{read_of}
use Rattle.canonical.specs.Alone.{alone_reason, alone_column}

abbrev pub judged : String → ℕ × ℕ
judged text = (alone_reason (read_of (bytes text)), alone_column (read_of (bytes text)))

abbrev pub columns : List (String × (ℕ × ℕ))
columns =
    -- good
    ("exit;", (0, 0))
    ∷ ("tcgen05.ld.sync.aligned.32x32b.x2.b32 {r, s}, [t];", (0, 0))
    -- no opcode, or one that no form has
    ∷ ("", (3, 1))
    ∷ (" exit;", (3, 1))
    ∷ ("exits;", (3, 1))
    -- the token at which no form can go on, or the end
    ∷ ("exit", (3, 5))
    ∷ ("exit; ", (3, 6))
    ∷ ("mov.b32 i 7;", (3, 11))
    ∷ ("mov.b32 i, 019;", (3, 12))
    -- a number that is out of range
    ∷ ("mov.b32 i,  4294967296;", (4, 13))
    ∷ ("mov.b32 i, 040000000000U;", (4, 12))
    ∷ ("tcgen05.ld.sync.aligned.32x32b.x1.b32 {r}, [t+4294967296];", (4, 47))
    -- no form before out of range
    ∷ ("mov.b32 i, 4294967296", (3, 22))
    -- the opcode where the registers are miscounted, or N is over the largest
    ∷ ("tcgen05.ld.sync.aligned.32x32b.x1.b32 {r, s}, [t];", (5, 1))
    ∷ ("tcgen05.st.sync.aligned.16x256b.x64.b32 [t], {r};", (5, 1))
    ∷ []

-- THE CLAIM. The definitions give what the table says.
pub record Worked : Type 0 where
  pub alone : Gives judged columns
