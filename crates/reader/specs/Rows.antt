-- Rows that several forms share. Assumes nothing.
use Rattle.tokens.specs.Text.{byte}
use Rattle.std.specs.Prelude.{ℕ, List, [], ◌∷◌, Bool, cond, Some, None}
use Rattle.tokens.specs.declared.Name.{Name}
use Rattle.tokens.specs.Cursors.{Rest, seen, Took, mark_c, name_c, number_c}
use Rattle.statement.specs.Forms.{Metadata, name, number, in_brackets, Values, max_offset}
use Rattle.statement.specs.Reading.{in_brackets_c, address_c, row_c}
use Rattle.tokens.specs.declared.Read.{Read}

-- a name, in brackets or not
abbrev pub named_c : Bool → Rest → Took Name
named_c b r = cond b (in_brackets_c r) (name_c r)

-- a name, in brackets or not, a number up to a limit, and the end
abbrev pub pair_c : Bool → (limit : ℕ) → Rest → Took (Values (name ∷ number limit ∷ []))
pair_c b limit r = cond b (row_c (in_brackets ∷ number limit ∷ []) r) (row_c (name ∷ number limit ∷ []) r)

abbrev pub pair_seen : List ℕ → (limit : ℕ) → Read (Name × ℕ) → Took (Values (name ∷ number limit ∷ []))
pair_seen s limit p = record { value = (p.value.0, (p.value.1, tt)); next = seen s p.next }

-- + and a number, whatever follows it, or nothing, which is 0
unfoldable pub plain_offset_c : Rest → Took ℕ
plain_offset_c r = let d = mark_c (byte "+") r in cond d.ok (number_c max_offset d) (record { value = 0; next = r })

-- the metadata's address after a comma, for a sparse a alone
unfoldable pub metadata_c : Bool → Rest → Took Metadata
metadata_c sp r =
    let a = address_c (mark_c (byte ",") r) in
    cond sp (record { value = Some a.value; next = a.next }) (record { value = None; next = r })
