-- The kinds of opcodes, statements and acts, each written once: a claim that holds of each kind holds of all. With `search` for the kinds at which it
-- holds by computation, a law names the others only. Assumes nothing.
use Prim.Native.Nat.{ℕ}
use mathlib.Core.Path.{◌≡◌, refl, subst}
use mathlib.Core.Bool.{Bool, true, false}
use Rattle.instruction.specs.declared.Kind.{Kind}
use Rattle.tokens.specs.declared.Name.{Name}
use Rattle.statement.specs.declared.Shape.{Shape}
use Rattle.statement.specs.declared.Num.{Num}
use Rattle.statement.specs.declared.Access.{Access}
use Rattle.statement.specs.declared.Mma.{Mma}
use Rattle.statement.specs.declared.Transfer.{Transfer}
use Rattle.statement.specs.declared.Transfer.TheVariants as transfer
use Rattle.statement.specs.declared.Opcode.{Opcode}
use Rattle.statement.specs.declared.Opcode.TheVariants as o
use Rattle.statement.specs.declared.Statement.{Statement}
use Rattle.statement.specs.declared.Statement.TheVariants as s
use Rattle.statement.specs.Views as act
use Rattle.statement.specs.Views.{Act, same_transfer, exit_in}
use Rattle.laws.proofs.BoolLaws.{never}

pub record OfOpcodes (Claim : Opcode → Type 0) : Type 0 where
  pub mov32 : Claim o.Mov32
  pub mov64 : Claim o.Mov64
  pub alloc : (shared : Bool) → Claim (o.Alloc shared)
  pub dealloc : Claim o.Dealloc
  pub relinquish : Claim o.Relinquish
  pub load : (shape : Shape) (num : Num) → Claim (o.Load shape num)
  pub store : (shape : Shape) (num : Num) → Claim (o.Store shape num)
  pub wait_load : Claim o.WaitLoad
  pub wait_store : Claim o.WaitStore
  pub fence_before : Claim o.FenceBefore
  pub fence_after : Claim o.FenceAfter
  pub dense : (ws : Bool) (kind : Kind) → Claim (o.Multiply ws false kind)
  pub sparse : (ws : Bool) (kind : Kind) → Claim (o.Multiply ws true kind)
  pub exit : Claim o.Exit

pub each_opcode : (Claim : Opcode → Type 0) (p : Opcode) → OfOpcodes Claim → Claim p
each_opcode Claim o.Mov32 h = h.mov32
each_opcode Claim o.Mov64 h = h.mov64
each_opcode Claim (o.Alloc shared) h = h.alloc shared
each_opcode Claim o.Dealloc h = h.dealloc
each_opcode Claim o.Relinquish h = h.relinquish
each_opcode Claim (o.Load shape num) h = h.load shape num
each_opcode Claim (o.Store shape num) h = h.store shape num
each_opcode Claim o.WaitLoad h = h.wait_load
each_opcode Claim o.WaitStore h = h.wait_store
each_opcode Claim o.FenceBefore h = h.fence_before
each_opcode Claim o.FenceAfter h = h.fence_after
each_opcode Claim (o.Multiply ws false kind) h = h.dense ws kind
each_opcode Claim (o.Multiply ws true kind) h = h.sparse ws kind
each_opcode Claim o.Exit h = h.exit

pub record OfStatements (Claim : Statement → Type 0) : Type 0 where
  pub mov32 : (n : Name) (v : ℕ) → Claim (s.Mov32 n v)
  pub mov64 : (n : Name) (v : ℕ) → Claim (s.Mov64 n v)
  pub alloc : (n : Name) (v : ℕ) → Claim (s.Alloc n v)
  pub dealloc : (n : Name) (v : ℕ) → Claim (s.Dealloc n v)
  pub relinquish : Claim s.Relinquish
  pub load : (a : Access) → Claim (s.Load a)
  pub store : (a : Access) → Claim (s.Store a)
  pub wait_load : Claim s.WaitLoad
  pub wait_store : Claim s.WaitStore
  pub fence_before : Claim s.FenceBefore
  pub fence_after : Claim s.FenceAfter
  pub multiply : (m : Mma) → Claim (s.Multiply m)
  pub exit : Claim s.Exit

pub each-statement : (Claim : Statement → Type 0) (t : Statement) → OfStatements Claim → Claim t
each-statement Claim (s.Mov32 n v) h = h.mov32 n v
each-statement Claim (s.Mov64 n v) h = h.mov64 n v
each-statement Claim (s.Alloc n v) h = h.alloc n v
each-statement Claim (s.Dealloc n v) h = h.dealloc n v
each-statement Claim s.Relinquish h = h.relinquish
each-statement Claim (s.Load a) h = h.load a
each-statement Claim (s.Store a) h = h.store a
each-statement Claim s.WaitLoad h = h.wait_load
each-statement Claim s.WaitStore h = h.wait_store
each-statement Claim s.FenceBefore h = h.fence_before
each-statement Claim s.FenceAfter h = h.fence_after
each-statement Claim (s.Multiply m) h = h.multiply m
each-statement Claim s.Exit h = h.exit

pub record OfActs (Claim : Act → Type 0) : Type 0 where
  pub binds : (n : Name) (width v : ℕ) → Claim (act.binds n width v)
  pub requests : (n : Name) (v : ℕ) → Claim (act.requests n v)
  pub releases : (n : Name) (v : ℕ) → Claim (act.releases n v)
  pub relinquishes : Claim act.relinquishes
  pub accesses : (x : Transfer) (a : Access) → Claim (act.accesses x a)
  pub waits : (x : Transfer) → Claim (act.waits x)
  pub multiplies : (m : Mma) → Claim (act.multiplies m)
  pub exits : Claim act.exits
  pub nothing : Claim act.nothing

pub each_act : (Claim : Act → Type 0) (a : Act) → OfActs Claim → Claim a
each_act Claim (act.binds n width v) h = h.binds n width v
each_act Claim (act.requests n v) h = h.requests n v
each_act Claim (act.releases n v) h = h.releases n v
each_act Claim act.relinquishes h = h.relinquishes
each_act Claim (act.accesses x a) h = h.accesses x a
each_act Claim (act.waits x) h = h.waits x
each_act Claim (act.multiplies m) h = h.multiplies m
each_act Claim act.exits h = h.exits
each_act Claim act.nothing h = h.nothing

-- loads are loads, and stores stores
pub same_transfer_lem : (x y : Transfer) → same_transfer x y ≡ true → x ≡ y
same_transfer_lem transfer.Load transfer.Load e = refl
same_transfer_lem transfer.Load transfer.Store e = never e
same_transfer_lem transfer.Store transfer.Load e = never e
same_transfer_lem transfer.Store transfer.Store e = refl

pub transfer_same : (x y : Transfer) → x ≡ y → same_transfer x y ≡ true
transfer_same x y e = subst (λ z. same_transfer x z ≡ true) e (own x)
  where
    own : (z : Transfer) → same_transfer z z ≡ true
    own transfer.Load = refl
    own transfer.Store = refl

-- only `exit` ends a sheet
pub exit-only : (a : Act) → exit_in a ≡ true → a ≡ act.exits
exit-only a = each_act (λ a. exit_in a ≡ true → a ≡ act.exits) a (search never)
