-- The words show the marks of the rules: bit i is for the allocation of slot i of the ledger. proofs/ShowLaws.antt shows that each function then goes on as the rules
-- say, and that bookings of the ledger leave it so. Assumes nothing.
use Rattle.std.specs.Prelude.{ℕ, ◌/◌, ◌<◌, ◌≡◌, true, false, List, ◌∷◌, length, Some}
use Rattle.laws.specs.Lists.{Among}
use Rattle.tokens.specs.declared.Name.{Name}
use Rattle.statement.specs.declared.Transfer.{Transfer}
use Rattle.rules.specs.State.{Allocation, Mark, is_live, is_busy, after_wait, after_release}
use Rattle.ledger.specs.declared.Ledger.{Ledger}
use Rattle.ledger.specs.declared.Span.{Span}
use Rattle.ledger.specs.Booking.{found}
use Rattle.ledger.specs.Shows.{Live, Taken, name_at, HoldsIn, Stays}
use Rattle.outstanding.specs.declared.Outstanding.{Outstanding}
use Rattle.outstanding.specs.Words.{marked, begun, waited, busy_on}

-- the mark of slot i, by a warp, of a load or a store
abbrev pub mark_at : Ledger → Transfer → (w i : ℕ) → Mark
mark_at l x w i = record { name = name_at l i; warp = w; transfer = x }

pub record ShowsIn (o : Outstanding) (l : Ledger) (marks : List Mark) : Type 0 where
  pub size : length o.words ≡ 8
  -- each mark has its bit in the slot of its name, and each bit is a mark on the allocation of its slot
  pub down : (m : Mark) → Among m marks → (m.warp < 4) × ((i : ℕ) × (i < 16) × HoldsIn l i m.name × (marked o m.transfer m.warp i ≡ true))
  pub up : (x : Transfer) (w i : ℕ) → w < 4 → i < 16 → marked o x w i ≡ true → Taken l i × Among (mark_at l x w i) marks

-- ---- the claim: what words that show some marks tell of them
pub record TellsIn (o : Outstanding) (l : Ledger) (marks : List Mark) : Type 0 where
  -- whether anything is outstanding on a live allocation
  pub busy : (live : List Allocation) → Live l live → (n : Name) → is_live n live ≡ true → busy_on o l n ≡ is_busy n marks
  -- what a load or store on a live allocation, a wait, and a dealloc of an allocation on which nothing is outstanding leave
  pub begins : (live : List Allocation) → Live l live → (n : Name) (s : Span) → found l n ≡ Some s → (x : Transfer) (w : ℕ) → w < 4
      → ShowsIn (begun o x w (s.start / 32)) l (record { name = n; warp = w; transfer = x } ∷ marks)
  pub waits : (x : Transfer) (w : ℕ) → w < 4 → ShowsIn (waited o x w) l (after_wait w x marks)
  pub releases : (n : Name) → is_busy n marks ≡ false → after_release n marks ≡ marks
  -- a booking changes nothing, if it leaves every slot as it was on which something is outstanding
  pub stays : (next : Ledger) → ((i : ℕ) → i < 16 → Taken l i → is_busy (name_at l i) marks ≡ true → Stays l next i) → ShowsIn o next marks
