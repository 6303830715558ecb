-- The fields of a line of the report. Assumes nothing.
use Rattle.std.specs.Prelude.{ℕ, ◌*◌, List, [], ◌∷◌, ◌++◌}
use Rattle.tokens.specs.Numbers.{decimal}

-- room for a number of 20 digits and the byte after it, and for a line of five of them
abbrev pub field_room : ℕ
field_room = 21

abbrev pub line_room : ℕ
line_room = 5 * field_room

-- a number in decimal and a byte after it
unfoldable pub field_text : ℕ → ℕ → List ℕ
field_text v mark = decimal v ++ mark ∷ []
