-- The printed report: a first line of five numbers, then a row for each alloc. Assumes nothing.
use Rattle.std.specs.Prelude.{cond, ℕ, ◌+◌, ◌*◌, List, [], ◌∷◌, ◌++◌, length, leb, eqb}
use Rattle.std.proofs.lemmas.List.Edits.{sets}
use Rattle.tokens.specs.declared.Name.{Name}
use Rattle.tokens.specs.Text.{tab, lf}
use Rattle.tokens.specs.Names.{name_bytes}
use Rattle.tokens.specs.Numbers.{decimal}

-- numbers in decimal: a tab between two, an LF after the last
unfoldable pub numbers_text : List ℕ → List ℕ
numbers_text [] = []
numbers_text (v ∷ []) = decimal v ++ lf ∷ []
numbers_text (v ∷ (w ∷ l)) = decimal v ++ tab ∷ numbers_text (w ∷ l)

-- the first line: reason, line, column in it, columns held and peak
unfoldable pub head_text : ℕ → ℕ → ℕ → ℕ → ℕ → List ℕ
head_text reason line column held peak = numbers_text (reason ∷ line ∷ column ∷ held ∷ peak ∷ [])

-- the row of an alloc: its name, its start and its columns
unfoldable pub row_text : Name → ℕ → ℕ → List ℕ
row_text name start columns = name_bytes name ++ tab ∷ numbers_text (start ∷ columns ∷ [])

-- an alloc as it is reported
pub record Reported : Type 0 where
  pub name : Name
  pub start : ℕ
  pub columns : ℕ

unfoldable pub rows_text : List Reported → List ℕ
rows_text [] = []
rows_text (a ∷ l) = row_text a.name a.start a.columns ++ rows_text l

-- the whole report: the first line, and on a pass a row for each alloc in order
unfoldable pub report_text : ℕ → ℕ → ℕ → ℕ → ℕ → List Reported → List ℕ
report_text reason line column held peak allocs = head_text reason line column held peak ++ cond (eqb reason 0) (rows_text allocs) []

-- a buffer after a text was put from a place on: unchanged where there is no room for all of it
unfoldable pub put_text : List ℕ → ℕ → List ℕ → List ℕ
put_text room at text = cond (leb (at + length text) (length room)) (sets room at text) room

-- the place after the text, in a buffer of n bytes: the same place where there is no room
unfoldable pub put_end : ℕ → ℕ → List ℕ → ℕ
put_end n at text = cond (leb (at + length text) n) (at + length text) at

-- enough for the report of any sheet (`report_fits` of crate printed): a row of 25 bytes for each line but the first, and 16 more
abbrev pub report_room : ℕ
report_room = 16 + 4095 * 25
