-- What each method of the ledger answers, and the next ledger (docs/FORMAT.md, 'Booking'). Assumes nothing.
use Rattle.std.specs.Prelude.{ℕ, ◌*◌, Bool, true, false, not, cond, List, [], ◌∷◌, ltb, eqb, set, replicate, Option, Some, None, is_some, option_map, option_and_then, Result, Ok, Err}
use Rattle.reasons.specs.declared.Reason.{Reason}
use Rattle.reasons.specs.Reasons.{answered}
use Rattle.laws.specs.Rules.{Rule, rule, first_broken}
use Rattle.request.specs.Request.{legal}
use Rattle.tokens.specs.declared.Name.{Name}
use Rattle.ledger.specs.declared.Ledger.{Ledger}
use Rattle.ledger.specs.declared.Booked.{Booked}
use Rattle.ledger.specs.declared.Span.{Span}
use Rattle.ledger.specs.Slots.{Slots, slot_i, slot_of, place_of}

-- no allocation, no warp fixed, not relinquished
abbrev pub empty : Ledger
empty = record { slots = replicate 16 None; warp = None; relinquished = false }

-- the slot of the live allocation of a name, if it has one; and the slot from which the columns requested are free, 16 for none
abbrev pub slot : Ledger → Name → Option ℕ
slot l name = slot_of l.slots name

abbrev pub place : Ledger → ℕ → ℕ
place l requested = place_of l.slots requested

-- what is found: the start and the columns of the allocation of slot i, and of a name, if it has one
abbrev pub span_at : Slots → ℕ → Option Span
span_at slots i = option_map (λ h. record { start = i * 32; columns = h.columns }) (slot_i slots i)

unfoldable pub found : Ledger → Name → Option Span
found l name = option_and_then (span_at l.slots) (slot l name)

-- the columns of what is found; 0 where nothing is
abbrev pub columns_in : Option Span → ℕ
columns_in (Some span) = span.columns
columns_in None = 0

-- the name has a live allocation; and its columns
abbrev pub is_live : Ledger → Name → Bool
is_live l name = is_some (found l name)

abbrev pub columns_of : Ledger → Name → ℕ
columns_of l name = columns_in (found l name)

-- no warp is fixed yet, or it is this one
abbrev pub is_own : Option ℕ → ℕ → Bool
is_own (Some own) warp = eqb own warp
is_own None warp = true

abbrev pub may_book : Ledger → ℕ → Bool
may_book l warp = is_own l.warp warp

-- what each method asks, in order
abbrev pub alloc_rules : Ledger → Name → ℕ → ℕ → List Rule
alloc_rules l name warp requested =
    rule 6 (not (is_live l name)) ∷ rule 8 (may_book l warp) ∷ rule 9 (legal requested) ∷ rule 10 (not l.relinquished) ∷ rule 11 (ltb (place l requested) 16) ∷ []

abbrev pub release_rules : Ledger → Name → ℕ → ℕ → List Rule
release_rules l name warp released = rule 6 (is_live l name) ∷ rule 8 (may_book l warp) ∷ rule 9 (eqb (columns_of l name) released) ∷ []

abbrev pub relinquish_rules : Ledger → ℕ → List Rule
relinquish_rules l warp = rule 8 (may_book l warp) ∷ []

-- a slot emptied, if there is one
abbrev pub emptied : Slots → Option ℕ → Slots
emptied slots (Some i) = set slots i None
emptied slots None = slots

-- the next ledger where no rule is broken: the allocation in its slot and the warp fixed; the slot empty; the warp fixed and no more allocs
abbrev pub with_allocation : Ledger → ℕ → Name → ℕ → ℕ → Ledger
with_allocation l i name warp requested =
    record { slots = set l.slots i (Some (record { name = name; columns = requested })); warp = Some warp; relinquished = l.relinquished }

abbrev pub without_allocation : Ledger → Option ℕ → Ledger
without_allocation l at = record { slots = emptied l.slots at; warp = l.warp; relinquished = l.relinquished }

abbrev pub after_relinquish : Ledger → ℕ → Ledger
after_relinquish l warp = record { slots = l.slots; warp = Some warp; relinquished = true }

-- what a booking answers: the next ledger, the reason or 0, and the start of an alloc that is accepted
pub record Booking : Type 0 where
  pub next : Ledger
  pub reason : ℕ
  pub start : ℕ

-- the start, 0 where it is refused
abbrev pub started : Result ℕ Reason → ℕ
started (Ok start) = start
started (Err _) = 0

-- the answer of the code, so told
abbrev pub booking : Booked → Booking
booking b = record { next = b.next; reason = answered b.start; start = started b.start }

-- the same ledger, with a reason
abbrev pub unchanged : Ledger → ℕ → Booking
unchanged l reason = record { next = l; reason = reason; start = 0 }

-- the next ledger with its start where no rule is broken, else the same ledger with the number of the first that is
abbrev pub booked : Ledger → ℕ → ℕ → Ledger → Booking
booked l reason start next = cond (eqb reason 0) (record { next = next; reason = 0; start = start }) (unchanged l reason)

unfoldable pub alloc_of : Ledger → Name → ℕ → ℕ → Booking
alloc_of l name warp requested =
    booked l (first_broken (alloc_rules l name warp requested)) (place l requested * 32) (with_allocation l (place l requested) name warp requested)

unfoldable pub release_of : Ledger → Name → ℕ → ℕ → Booking
release_of l name warp released = booked l (first_broken (release_rules l name warp released)) 0 (without_allocation l (slot l name))

unfoldable pub relinquish_of : Ledger → ℕ → Booking
relinquish_of l warp = booked l (first_broken (relinquish_rules l warp)) 0 (after_relinquish l warp)
