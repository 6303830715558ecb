-- The bytes of a quoted text. Assumes nothing.
use Rattle.std.specs.Prelude.{ℕ, List, [], ◌∷◌}
use Prim.Native.Char.{Char, code}
use Prim.Native.String.{String, [] as []ᵗ, ◌∷◌ as ◌∷ᵗ◌}

-- the byte of one character
abbrev pub byte : Char → ℕ
byte c = code c

-- the bytes between two parts of a line, and after a line
abbrev pub tab : ℕ
tab = byte "\t"

abbrev pub lf : ℕ
lf = byte "\n"

abbrev pub bytes : String → List ℕ
bytes []ᵗ = []
bytes (c ∷ᵗ s) = code c ∷ bytes s
