-- A cursor's places in a text. Assumes nothing.
use Rattle.std.specs.Prelude.{ℕ, ◌≤◌, List, length}
use Rattle.tokens.specs.declared.Cursor.{Cursor}

-- both places are in the text or at its end, so that what is seen of the cursor tells it (`cursor_told`)
abbrev pub within : List ℕ → Cursor → Type 0
within s k = (k.at ≤ length s) × (k.far ≤ length s)
