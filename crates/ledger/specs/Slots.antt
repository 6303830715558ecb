-- The slots of the ledger: the allocation that starts at column 32 * i stands in slot i, with its name and its columns. Assumes nothing.
use Rattle.std.specs.Prelude.{ℕ, ◌+◌, ◌*◌, ◌/◌, max, Bool, false, ◌&&◌, cond, List, leb, ltb, eqb, get_or, Option, Some, None, position, sum_by}
use Rattle.rules.specs.Counting.{least}
use Rattle.tokens.specs.declared.Name.{Name}
use Rattle.tokens.specs.Names.{same_name}
use Rattle.ledger.specs.declared.Holding.{Holding}

-- the slots of a ledger
abbrev pub Slots : Type 0
Slots = List (Option Holding)

-- slot i
abbrev pub slot_i : Slots → ℕ → Option Holding
slot_i slots i = get_or slots i None

-- the slot has an allocation of this name
abbrev pub is_of : Name → Option Holding → Bool
is_of name (Some h) = same_name h.name name
is_of name None = false

-- the slot of a name, if a live allocation has it
abbrev pub slot_of : Slots → Name → Option ℕ
slot_of slots name = position (is_of name) slots

-- the allocation of slot j shares a column with those from start on, as many as requested
abbrev pub meets : (start requested j : ℕ) → Option Holding → Bool
meets start requested j (Some h) = ltb (j * 32) (start + requested) && ltb start (j * 32 + h.columns)
meets start requested j None = false

unfoldable pub meets_at : Slots → (start requested j : ℕ) → Bool
meets_at slots start requested j = meets start requested j (slot_i slots j)

-- the columns requested, from slot i on, are below 512, and no allocation has one of them
unfoldable pub fits_at : Slots → ℕ → ℕ → Bool
fits_at slots requested i = leb (i * 32 + requested) 512 && eqb (least (meets_at slots (i * 32) requested) 16) 16

-- the lowest slot from which the columns requested are free; 16 where there is none
unfoldable pub place_of : Slots → ℕ → ℕ
place_of slots requested = least (fits_at slots requested) 16

-- a slot, if it is one of the 16
abbrev pub in_slots : ℕ → Option ℕ
in_slots i = cond (ltb i 16) (Some i) None

-- the next slot that may be free, once slot i has been looked at: past its allocation, if it has one
abbrev pub past_of : ℕ → ℕ → Option Holding → ℕ
past_of start i (Some h) = max start (i + (h.columns + 31) / 32)
past_of start i None = start

-- the columns of the allocation of a slot; and of all of them
abbrev pub columns_held : Option Holding → ℕ
columns_held (Some h) = h.columns
columns_held None = 0

abbrev pub total : Slots → ℕ
total slots = sum_by columns_held slots
