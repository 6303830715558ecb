-- A ledger shows a state of the rules: its slots are the live allocations, and it has the state's warp and permit. proofs/ShowLaws.antt shows that
-- every method then answers and goes on as the rules say. Assumes nothing.
use Rattle.std.specs.Prelude.{ℕ, ◌*◌, ◌/◌, ◌<◌, ◌≡◌, Bool, true, cond, List, [], ◌∷◌, eqb, length, Option, Some, None, is_some, option_map}
use Rattle.std.proofs.Math.Option as maybe
use Rattle.laws.specs.Lists.{Among}
use Rattle.laws.specs.Rules.{first_broken}
use Rattle.tokens.specs.declared.Name.{Name}
use Rattle.tokens.specs.Names.{no_name}
use Rattle.statement.specs.declared.Statement.TheVariants.{Alloc, Dealloc, Relinquish}
use Rattle.statement.specs.Views as act
use Rattle.rules.specs.State as rules
use Rattle.rules.specs.State.{State, Allocation, lowest}
use Rattle.rules.specs.Reasons.{open_rules}
use Rattle.rules.specs.Sheet.{effect, start_list}
use Rattle.rules.specs.Claims.{Unique}
use Rattle.ledger.specs.declared.Holding.{Holding}
use Rattle.ledger.specs.declared.Ledger.{Ledger}
use Rattle.ledger.specs.declared.Span.{Span}
use Rattle.ledger.specs.Slots.{slot_i, total}
use Rattle.ledger.specs.Booking.{alloc_of, release_of, relinquish_of, found, columns_in}

-- the allocation of slot i, if it has one
abbrev pub allocation : ℕ → Holding → Allocation
allocation i h = record { name = h.name; start = i * 32; columns = h.columns }

abbrev pub slot_at : Ledger → ℕ → Option Allocation
slot_at l i = option_map (allocation i) (slot_i l.slots i)

-- the allocations of the slots are the live ones
pub record Live (l : Ledger) (live : List Allocation) : Type 0 where
  pub size : length l.slots ≡ 16
  pub down : (a : Allocation) → Among a live → (i : ℕ) × (i < 16) × (slot_at l i ≡ Some a) × (0 < a.columns)
  pub up : (i : ℕ) (a : Allocation) → i < 16 → slot_at l i ≡ Some a → Among a live
  pub unique : Unique live
  -- the columns of the slots are those of the allocations: what is stored agrees with what is summed over the lines
  pub sum : total l.slots ≡ rules.total live

-- the warp that is fixed, if any
abbrev pub fixed_warp : Option ℕ → maybe.Option ℕ
fixed_warp (Some warp) = maybe.some warp
fixed_warp None = maybe.none

abbrev pub warp_of : Ledger → maybe.Option ℕ
warp_of l = fixed_warp l.warp

pub record Shows (l : Ledger) (s : State) : Type 0 where
  pub slots : Live l s.live
  pub warp : warp_of l ≡ s.warp
  pub relinquished : l.relinquished ≡ s.relinquished

-- ---- the claims
-- the columns of what a slot has, 0 for nothing
abbrev pub size_of : Option Allocation → ℕ
size_of (Some a) = a.columns
size_of None = 0

-- slot i has an allocation, its columns not 0; and its name, if it has
abbrev pub Taken : Ledger → ℕ → Type 0
Taken l i = 0 < size_of (slot_at l i)

abbrev pub name_of : Option Allocation → Name
name_of (Some a) = a.name
name_of None = no_name

abbrev pub name_at : Ledger → ℕ → Name
name_at l i = name_of (slot_at l i)

-- slot i has a live allocation of that name
pub record HoldsIn (l : Ledger) (i : ℕ) (n : Name) : Type 0 where
  pub taken : Taken l i
  pub name : name_at l i ≡ n

-- what a ledger tells of a name: it is live where an allocation is found, which has its columns
pub record FindsIn (l : Ledger) (all : List Allocation) : Type 0 where
  pub live : (n : Name) → is_some (found l n) ≡ rules.is_live n all
  pub size : (n : Name) → columns_in (found l n) ≡ rules.columns_of n all
  -- at least one
  pub held : (n : Name) (s : Span) → found l n ≡ Some s → 0 < s.columns
  -- where it starts is the one slot that has the name
  pub own : (n : Name) (s : Span) → found l n ≡ Some s → (s.start / 32 < 16) × HoldsIn l (s.start / 32) n
  pub sole : (n : Name) (i : ℕ) → i < 16 → HoldsIn l i n → (s : Span) × (found l n ≡ Some s) × (i ≡ s.start / 32)

-- the ledger's reason of a dealloc; where it has none, 18 if something is outstanding
abbrev pub or_busy : ℕ → Bool → ℕ
or_busy reason busy = cond (eqb reason 0) (cond busy 18 0) reason

-- slot i is in the next ledger as it was
abbrev pub Stays : Ledger → Ledger → ℕ → Type 0
Stays l next i = slot_at next i ≡ slot_at l i

-- what the methods of a ledger that shows a state tell of it
pub record Tells (l : Ledger) (s : State) : Type 0 where
  -- the reason of each method is that of the line; of an alloc, if the name is not bound to a value; of a dealloc, if nothing is outstanding
  pub alloc : (n : Name) (held w k : ℕ) → first_broken (open_rules lowest s held w (Alloc n k)) ≡ cond (rules.is_bound n s.values) 6 (alloc_of l n w k).reason
  pub release : (n : Name) (held w k : ℕ) → first_broken (open_rules lowest s held w (Dealloc n k)) ≡ or_busy (release_of l n w k).reason (rules.is_busy n s.outstanding)
  pub relinquish : (held w : ℕ) → first_broken (open_rules lowest s held w Relinquish) ≡ (relinquish_of l w).reason
  -- and the next ledger of a method that accepts shows what the line does
  pub allocated : (n : Name) (w k : ℕ) → (alloc_of l n w k).reason ≡ 0 → Shows (alloc_of l n w k).next (effect lowest s w (act.requests n k))
  pub started : (n : Name) (w k : ℕ) → (alloc_of l n w k).reason ≡ 0 → start_list (lowest s.live k) ≡ (alloc_of l n w k).start ∷ []
  pub released : (n : Name) (w k : ℕ) → (release_of l n w k).reason ≡ 0 → Shows (release_of l n w k).next (effect lowest s w (act.releases n k))
  pub release_live : (n : Name) (w k : ℕ) → (release_of l n w k).reason ≡ 0 → rules.is_live n s.live ≡ true
  pub relinquished : (w : ℕ) → (relinquish_of l w).reason ≡ 0 → Shows (relinquish_of l w).next (effect lowest s w act.relinquishes)
  -- the slots that it does not book stay as they were: an alloc takes an empty one, a dealloc that of the name, relinquish none
  pub alloc_stays : (n : Name) (w k i : ℕ) → (alloc_of l n w k).reason ≡ 0 → Taken l i → Stays l (alloc_of l n w k).next i
  pub release_stays : (n : Name) (w k i : ℕ) → (release_of l n w k).reason ≡ 0 → (name_at l i ≡ n → ⊥) → Stays l (release_of l n w k).next i
  pub relinquish_stays : (w i : ℕ) → (relinquish_of l w).reason ≡ 0 → Stays l (relinquish_of l w).next i
  -- only an alloc has a start
  pub release_start : (n : Name) (w k : ℕ) → (release_of l n w k).start ≡ 0
  pub relinquish_start : (w : ℕ) → (relinquish_of l w).start ≡ 0
