-- What a statement is to the rules: its act, with the warp a turn; each view names the acts that it is of, and is none for the others. Assumes nothing.
use Rattle.std.specs.Prelude.{ℕ, Bool, true, false, ◌&&◌, List, [], ◌∷◌}
use Rattle.std.proofs.Math.Option.{Option, none, some}
use Rattle.tokens.specs.declared.Name.{Name}
use Rattle.statement.specs.declared.Mma.{Mma}
use Rattle.statement.specs.declared.Access.{Access}
use Rattle.statement.specs.declared.Transfer.{Transfer}
use Rattle.statement.specs.declared.Transfer.TheVariants as transfer
use Rattle.statement.specs.declared.Statement.{Statement}
use Rattle.statement.specs.declared.Statement.TheVariants.{Mov32, Mov64, Alloc, Dealloc, Relinquish, Load, Store, WaitLoad, WaitStore, FenceBefore, FenceAfter, Multiply, Exit}

-- columns of a name
pub record Ask : Type 0 where
  pub name : Name
  pub columns : ℕ

-- what a statement does, as far as the rules look
pub data Act : Type 0 where
  binds : (name : Name) → (width number : ℕ) → Act
  requests : (name : Name) → (columns : ℕ) → Act
  releases : (name : Name) → (columns : ℕ) → Act
  relinquishes : Act
  accesses : Transfer → Access → Act
  waits : Transfer → Act
  multiplies : Mma → Act
  exits : Act
  nothing : Act

abbrev pub act_of : Statement → Act
act_of (Mov32 n v) = binds n 32 v
act_of (Mov64 n v) = binds n 64 v
act_of (Alloc n v) = requests n v
act_of (Dealloc n v) = releases n v
act_of Relinquish = relinquishes
act_of (Load a) = accesses transfer.Load a
act_of (Store a) = accesses transfer.Store a
act_of WaitLoad = waits transfer.Load
act_of WaitStore = waits transfer.Store
act_of FenceBefore = nothing
act_of FenceAfter = nothing
act_of (Multiply m) = multiplies m
act_of Exit = exits

-- an act, with its warp
pub record Turn : Type 0 where
  pub warp : ℕ
  pub act : Act

-- both are loads, or both stores
abbrev pub same_transfer : Transfer → Transfer → Bool
same_transfer transfer.Load transfer.Load = true
same_transfer transfer.Load transfer.Store = false
same_transfer transfer.Store transfer.Load = false
same_transfer transfer.Store transfer.Store = true

-- the columns that it asks for, or gives back; its access; its mma; the name that it binds
abbrev pub request_in : Act → Option Ask
request_in (binds n w v) = none
request_in (requests n v) = some (record { name = n; columns = v })
request_in (releases n v) = none
request_in relinquishes = none
request_in (accesses x a) = none
request_in (waits x) = none
request_in (multiplies m) = none
request_in exits = none
request_in nothing = none

abbrev pub release_in : Act → Option Ask
release_in (binds n w v) = none
release_in (requests n v) = none
release_in (releases n v) = some (record { name = n; columns = v })
release_in relinquishes = none
release_in (accesses x a) = none
release_in (waits x) = none
release_in (multiplies m) = none
release_in exits = none
release_in nothing = none

abbrev pub access_in : Act → Option Access
access_in (binds n w v) = none
access_in (requests n v) = none
access_in (releases n v) = none
access_in relinquishes = none
access_in (accesses x a) = some a
access_in (waits x) = none
access_in (multiplies m) = none
access_in exits = none
access_in nothing = none

abbrev pub mma_in : Act → Option Mma
mma_in (binds n w v) = none
mma_in (requests n v) = none
mma_in (releases n v) = none
mma_in relinquishes = none
mma_in (accesses x a) = none
mma_in (waits x) = none
mma_in (multiplies m) = some m
mma_in exits = none
mma_in nothing = none

abbrev pub bound_in : Act → Option Name
bound_in (binds n w v) = some n
bound_in (requests n v) = none
bound_in (releases n v) = none
bound_in relinquishes = none
bound_in (accesses x a) = none
bound_in (waits x) = none
bound_in (multiplies m) = none
bound_in exits = none
bound_in nothing = none

-- it ends the sheet
abbrev pub exit_in : Act → Bool
exit_in (binds n w v) = false
exit_in (requests n v) = false
exit_in (releases n v) = false
exit_in relinquishes = false
exit_in (accesses x a) = false
exit_in (waits x) = false
exit_in (multiplies m) = false
exit_in exits = true
exit_in nothing = false

-- it is an alloc, dealloc or relinquish: one warp does these
abbrev pub booking_in : Act → Bool
booking_in (binds n w v) = false
booking_in (requests n v) = true
booking_in (releases n v) = true
booking_in relinquishes = true
booking_in (accesses x a) = false
booking_in (waits x) = false
booking_in (multiplies m) = false
booking_in exits = false
booking_in nothing = false

abbrev pub request_of : Statement → Option Ask
request_of t = request_in (act_of t)

abbrev pub release_of : Statement → Option Ask
release_of t = release_in (act_of t)

abbrev pub access_of : Statement → Option Access
access_of t = access_in (act_of t)

abbrev pub mma_of : Statement → Option Mma
mma_of t = mma_in (act_of t)

abbrev pub bound_by : Statement → Option Name
bound_by t = bound_in (act_of t)

abbrev pub is_exit : Statement → Bool
is_exit t = exit_in (act_of t)

abbrev pub is_booking : Statement → Bool
is_booking t = booking_in (act_of t)

-- what is asked of what a view shows
abbrev pub for : {A B : Type 0} → Option A → (A → B) → Option B
for none f = none
for (some a) f = some (f a)

-- what is asked only of what is so
abbrev pub when : {A : Type 0} → Bool → A → Option A
when false b = none
when true b = some b

-- every test that is asked holds
abbrev pub holds : List (Option Bool) → Bool
holds [] = true
holds (none ∷ l) = holds l
holds (some b ∷ l) = holds l && b

-- a figure of what a view shows; else another
abbrev pub of : {A B : Type 0} → Option A → (A → B) → B → B
of none f d = d
of (some a) f d = f a
