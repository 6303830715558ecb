-- The run: what statements do to an empty memory of 512 columns under a list of starts. It shares with the rules the typed statement and its views,
-- when names are the same and the table of cells alone (and plain counting). Assumes nothing.
use Rattle.std.specs.Prelude.{ℕ, zero, suc, ◌+◌, ◌*◌, ◌/◌, ◌%◌, ◌^◌, max, Bool, true, false, not, ◌&&◌, ◌||◌, cond, List, [], ◌∷◌, ◌++◌, leb, ltb, eqb, Some, None}
use Rattle.std.proofs.Math.Option.{Option, none, some}
use Rattle.laws.specs.Tests.{is_some}
use Rattle.tokens.specs.declared.Name.{Name}
use Rattle.tokens.specs.Names.{same_name}
use Rattle.statement.specs.Forms.{Metadata}
use Rattle.statement.specs.declared.Address.{Address}
use Rattle.statement.specs.declared.Operand.{Operand}
use Rattle.statement.specs.declared.Operand.TheVariants as operand
use Rattle.statement.specs.declared.Transfer.{Transfer}
use Rattle.statement.specs.Views as act
use Rattle.statement.specs.Views.{Act, Turn, same_transfer, request_in, release_in, access_in, mma_in, exit_in, for, when, holds, of}
use Rattle.statement.specs.Cells.{lanes_for, columns_for}
use Rattle.rules.specs.Counting.{count, every}

-- ---- what it keeps
-- a live holding
pub record Holding : Type 0 where
  pub name : Name
  pub start : ℕ
  pub length : ℕ

-- a number moved to a name
pub record Note : Type 0 where
  pub name : Name
  pub number : ℕ

-- whether a load, or a store, by a warp on the holding of a name was not waited for
abbrev pub Pending : Type 0
Pending = Name → (warp : ℕ) → Transfer → Bool

-- it goes on; it stopped at that line of the sheet; it reached its exit; the lines ended without one
pub data Phase : Type 0 where
  going : Phase
  stopped_at : ℕ → Phase
  exited : Phase
  ended : Phase

-- the holdings; the numbers, the last moved first; what was not waited for; columns asked for and given back so far, the requests met, and the phase
pub record Run : Type 0 where
  pub live : List Holding
  pub notes : List Note
  pub pending : Pending
  pub asked : ℕ
  pub returned : ℕ
  pub requests : ℕ
  pub phase : Phase

-- all empty at first
abbrev pub empty : Run
empty = record { live = []; notes = []; pending = λ n w x. false; asked = 0; returned = 0; requests = 0; phase = going }

-- ---- columns
-- the column is one of the holding's
unfoldable pub within : Holding → ℕ → Bool
within h c = leb h.start c && ltb c (h.start + h.length)

-- a column in a live holding is held, any other free
unfoldable pub held : List Holding → ℕ → Bool
held [] c = false
held (h ∷ l) c = within h c || held l c

-- the columns held, counted one by one
unfoldable pub held_columns : List Holding → ℕ
held_columns l = count (held l) 512

-- a start may be used: a multiple of 32, and the columns asked for, from there on, are below 512 and free
unfoldable pub usable : List Holding → ℕ → ℕ → Bool
usable l columns start = eqb (start % 32) 0 && every (λ c. ltb c 512 && not (held l c)) start columns

-- the start that a list has for the request of that index, if it is so long
unfoldable pub start_at : List ℕ → ℕ → Option ℕ
start_at [] k = none
start_at (s ∷ l) zero = some s
start_at (s ∷ l) (suc k) = start_at l k

-- a request without a start cannot be done
unfoldable pub may_use : List Holding → ℕ → Option ℕ → Bool
may_use l columns none = false
may_use l columns (some start) = usable l columns start

-- ---- holdings by name
-- some holding passes a test
unfoldable pub has : (Holding → Bool) → List Holding → Bool
has p [] = false
has p (h ∷ l) = p h || has p l

-- without the first that passes
unfoldable pub without : (Holding → Bool) → List Holding → List Holding
without p [] = []
without p (h ∷ l) = cond (p h) l (h ∷ without p l)

unfoldable pub has_name : Name → Holding → Bool
has_name n h = same_name h.name n

unfoldable pub has_both : Name → ℕ → Holding → Bool
has_both n columns h = same_name h.name n && eqb h.length columns

-- the number last moved to a name
unfoldable pub number_of : Name → List Note → Option ℕ
number_of n [] = none
number_of n (v ∷ l) = cond (same_name v.name n) (some v.number) (number_of n l)

-- ---- accesses
-- a booked access: its name, the first lane and how many, the first column from the start of the name's holding and how many
pub record Region : Type 0 where
  pub name : Name
  pub lane : ℕ
  pub lanes : ℕ
  pub column : ℕ
  pub columns : ℕ

-- that many lanes and columns from an address on: the quotient of its offset by 65,536 is the lane, the remainder the column
abbrev pub region : Address → ℕ → ℕ → Region
region a lanes columns = record { name = a.base; lane = a.offset / 65536; lanes = lanes; column = a.offset % 65536; columns = columns }

-- N stands in bits 17 to 22 of the number under idesc, divided by 8
unfoldable pub n_of : ℕ → ℕ
n_of number = number / 2 ^ 17 % 64 * 8

abbrev pub or_zero : Option ℕ → ℕ
or_zero none = 0
or_zero (some v) = v

abbrev pub operand_regions : Operand → List Region
operand_regions (operand.Descriptor n) = []
operand_regions (operand.Address a) = region a 128 8 ∷ []

abbrev pub metadata_regions : Metadata → List Region
metadata_regions None = []
metadata_regions (Some a) = region a 128 2 ∷ []

-- what a statement books by the numbers moved so far: a ld or st its own cells; an mma all 128 lanes, and N columns at d, 8 at a, 2 at the metadata
unfoldable pub booked_by : List Note → Act → List Region
booked_by v t =
    of (access_in t) (λ a. region a.address (lanes_for a.shape) (columns_for a.shape a.num) ∷ [])
    (of (mma_in t) (λ m. region m.d 128 (n_of (or_zero (number_of m.idesc v))) ∷ (operand_regions m.a ++ metadata_regions m.metadata)) [])

-- the access lies below lane 128, and in the holding, which has its name
unfoldable pub lies : Region → Holding → Bool
lies r h = same_name h.name r.name && (leb (r.lane + r.lanes) 128 && leb (h.start + r.column + r.columns) (h.start + h.length))

unfoldable pub all_lie : List Region → List Holding → Bool
all_lie [] l = true
all_lie (r ∷ rs) l = has (lies r) l && all_lie rs l

-- the number that a statement needs was moved: that under idesc
unfoldable pub known : List Note → Act → Bool
known v t = of (mma_in t) (λ m. is_some (number_of m.idesc v)) true

-- ---- loads and stores
-- one by a warp on the holding of a name
unfoldable pub begun : Name → ℕ → Transfer → Pending → Pending
begun m v y p n w x = (same_name m n && (eqb v w && same_transfer y x)) || p n w x

-- a warp waits for its loads, or its stores, whatever their holdings
unfoldable pub waited_for : ℕ → Transfer → Pending → Pending
waited_for v y p n w x = not (eqb v w && same_transfer y x) && p n w x

-- the holding of a name is gone, and with it what was noted of it
unfoldable pub forgotten : Name → Pending → Pending
forgotten m p n w x = not (same_name m n) && p n w x

-- ---- a line
-- whether a statement can be done: an alloc of a name that is not live, at a start that may be used; a dealloc of a holding of that name and
-- length; an exit where nothing is held; and of any, that the number which it needs was moved and each access that it books lies in the holding that it names
unfoldable pub able : List ℕ → Run → Act → Bool
able starts r t = holds
    (for (request_in t) (λ q. not (has (has_name q.name) r.live) && may_use r.live q.columns (start_at starts r.requests))
    ∷ for (release_in t) (λ q. has (has_both q.name q.columns) r.live)
    ∷ when (exit_in t) (eqb (held_columns r.live) 0)
    ∷ some (known r.notes t && all_lie (booked_by r.notes t) r.live)
    ∷ [])

abbrev pub noted : Run → Name → ℕ → Run
noted r n x = record {
  live = r.live;
  notes = record { name = n; number = x } ∷ r.notes;
  pending = r.pending;
  asked = r.asked;
  returned = r.returned;
  requests = r.requests;
  phase = going;
}

abbrev pub pending_is : Pending → Run → Run
pending_is p r = record { live = r.live; notes = r.notes; pending = p; asked = r.asked; returned = r.returned; requests = r.requests; phase = r.phase }

abbrev pub in_phase : Phase → Run → Run
in_phase p r = record { live = r.live; notes = r.notes; pending = r.pending; asked = r.asked; returned = r.returned; requests = r.requests; phase = p }

-- a statement of a warp done; loads, stores and waits are noted and stop nothing
unfoldable pub done : List ℕ → Run → (warp : ℕ) → Act → Run
done starts r w (act.binds n width v) = noted r n v
done starts r w (act.requests n v) =
    record {
      live = record { name = n; start = or_zero (start_at starts r.requests); length = v } ∷ r.live;
      notes = r.notes;
      pending = r.pending;
      asked = r.asked + v;
      returned = r.returned;
      requests = suc r.requests;
      phase = going;
    }
done starts r w (act.releases n v) =
    record {
      live = without (has_both n v) r.live;
      notes = r.notes;
      pending = forgotten n r.pending;
      asked = r.asked;
      returned = r.returned + v;
      requests = r.requests;
      phase = going;
    }
done starts r w act.relinquishes = r
done starts r w (act.accesses x a) = pending_is (begun a.address.base w x r.pending) r
done starts r w (act.waits x) = pending_is (waited_for w x r.pending) r
done starts r w (act.multiplies m) = r
done starts r w act.exits = in_phase exited r
done starts r w act.nothing = r

-- a line that cannot be done stops the run and changes nothing; a run that is not going stays as it is
unfoldable pub go : Phase → List ℕ → Run → ℕ → Turn → Run
go going starts r line x = cond (able starts r x.act) (done starts r x.warp x.act) (in_phase (stopped_at line) r)
go (stopped_at l) starts r line x = r
go exited starts r line x = r
go ended starts r line x = r

-- ---- the run
-- after the first k turns; turn k is line k + 2 of the sheet
unfoldable pub after : List ℕ → (ℕ → Turn) → ℕ → Run
after starts turns zero = empty
after starts turns (suc k) = go (after starts turns k).phase starts (after starts turns k) (k + 2) (turns k)

-- how a run ends: one that is still going after the last line ended without exit
unfoldable pub finish : Phase → Phase
finish going = ended
finish (stopped_at l) = stopped_at l
finish exited = exited
finish ended = ended

unfoldable pub outcome : List ℕ → (ℕ → Turn) → ℕ → Phase
outcome starts turns size = finish (after starts turns size).phase

-- the most held after any of the first k turns
unfoldable pub peak_of : List ℕ → (ℕ → Turn) → ℕ → ℕ
peak_of starts turns zero = 0
peak_of starts turns (suc k) = max (peak_of starts turns k) (held_columns (after starts turns (suc k)).live)
