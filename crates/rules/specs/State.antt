-- What the rules remember of a sheet from line to line (docs/FORMAT.md, 'Booking'), and the placing of a request. Assumes nothing.
use Rattle.std.specs.Prelude.{ℕ, ◌+◌, ◌*◌, Bool, true, false, not, ◌&&◌, ◌||◌, cond, List, [], ◌∷◌, leb, ltb, eqb}
use Rattle.std.proofs.Math.Option.{Option, none, some}
use Rattle.tokens.specs.declared.Name.{Name}
use Rattle.tokens.specs.Names.{same_name}
use Rattle.statement.specs.declared.Transfer.{Transfer}
use Rattle.statement.specs.Views.{same_transfer}
use Rattle.rules.specs.Counting.{every, least}

-- ---- allocations
-- a live allocation: a holding
pub record Allocation : Type 0 where
  pub name : Name
  pub start : ℕ
  pub columns : ℕ

-- an allocation of that name is live
unfoldable pub is_live : Name → List Allocation → Bool
is_live n [] = false
is_live n (a ∷ l) = same_name a.name n || is_live n l

-- its columns; 0 where there is none
unfoldable pub columns_of : Name → List Allocation → ℕ
columns_of n [] = 0
columns_of n (a ∷ l) = cond (same_name a.name n) a.columns (columns_of n l)

-- without the allocation of that name
unfoldable pub without : Name → List Allocation → List Allocation
without n [] = []
without n (a ∷ l) = cond (same_name a.name n) l (a ∷ without n l)

-- the columns of all of them
unfoldable pub total : List Allocation → ℕ
total [] = 0
total (a ∷ l) = a.columns + total l

-- ---- placing
-- the column is one of the allocation's
unfoldable pub covers : Allocation → ℕ → Bool
covers a c = leb a.start c && ltb c (a.start + a.columns)

-- the column is in no live allocation
unfoldable pub is_free : List Allocation → ℕ → Bool
is_free [] c = true
is_free (a ∷ l) c = not (covers a c) && is_free l c

-- that many columns are free from a start on, all of them below 512
unfoldable pub free_from : List Allocation → ℕ → ℕ → Bool
free_from l columns start = leb (start + columns) 512 && every (is_free l) start columns

-- a placing gives a request for columns its start, if there is one
abbrev pub Placer : Type 0
Placer = List Allocation → ℕ → Option ℕ

-- the lowest number of 32s after which that many columns are free; 16 where there is none
unfoldable pub slot : List Allocation → ℕ → ℕ
slot l columns = least (λ i. free_from l columns (i * 32)) 16

-- our placing: the lowest start, a multiple of 32, from which that many columns are free
unfoldable pub lowest : Placer
lowest l columns = cond (ltb (slot l columns) 16) (some (slot l columns * 32)) none

-- ---- values
-- a name bound by `mov`, at a width of 32 or 64
pub record Binding : Type 0 where
  pub name : Name
  pub width : ℕ
  pub number : ℕ

unfoldable pub is_bound : Name → List Binding → Bool
is_bound n [] = false
is_bound n (b ∷ l) = same_name b.name n || is_bound n l

-- the width of a name's value; 0 where it has none
unfoldable pub width_of : Name → List Binding → ℕ
width_of n [] = 0
width_of n (b ∷ l) = cond (same_name b.name n) b.width (width_of n l)

-- the number of a name's value; 0 where it has none
unfoldable pub number_of : Name → List Binding → ℕ
number_of n [] = 0
number_of n (b ∷ l) = cond (same_name b.name n) b.number (number_of n l)

-- a name bound again keeps its place in the table; a new one comes last
unfoldable pub bind : Binding → List Binding → List Binding
bind b [] = b ∷ []
bind b (c ∷ l) = cond (same_name c.name b.name) (b ∷ l) (c ∷ bind b l)

-- ---- loads and stores that are not waited for
-- one that is outstanding: on the allocation of a name, by a warp, a load or a store
pub record Mark : Type 0 where
  pub name : Name
  pub warp : ℕ
  pub transfer : Transfer

-- it is by that warp, and of that sort
unfoldable pub is_by : ℕ → Transfer → Mark → Bool
is_by w x m = eqb m.warp w && same_transfer m.transfer x

-- whether a load, or a store, by a warp is outstanding on the allocation of a name
unfoldable pub is_marked : Name → ℕ → Transfer → List Mark → Bool
is_marked n w x [] = false
is_marked n w x (m ∷ l) = (same_name m.name n && is_by w x m) || is_marked n w x l

-- whether any is
unfoldable pub is_busy : Name → List Mark → Bool
is_busy n [] = false
is_busy n (m ∷ l) = same_name m.name n || is_busy n l

-- a wait takes out that warp's, of its sort, on all allocations
unfoldable pub after_wait : ℕ → Transfer → List Mark → List Mark
after_wait w x [] = []
after_wait w x (m ∷ l) = cond (is_by w x m) (after_wait w x l) (m ∷ after_wait w x l)

-- a dealloc takes out those on its allocation, of every warp
unfoldable pub after_release : Name → List Mark → List Mark
after_release n [] = []
after_release n (m ∷ l) = cond (same_name m.name n) (after_release n l) (m ∷ after_release n l)

-- ---- the state
pub record State : Type 0 where
  pub live : List Allocation
  pub values : List Binding
  -- the warp that the first accepted alloc or relinquish fixed
  pub warp : Option ℕ
  pub relinquished : Bool
  pub exited : Bool
  -- the loads and stores that are not waited for
  pub outstanding : List Mark

-- before the first statement
abbrev pub opened : State
opened = record { live = []; values = []; warp = none; relinquished = false; exited = false; outstanding = [] }
