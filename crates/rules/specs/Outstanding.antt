-- Loads and stores that are outstanding, said of the lines alone; and the claim that the marks which the rules keep are these. proofs/OutstandingProved.antt
-- has the proof. Assumes nothing.
use Rattle.std.specs.Prelude.{ℕ, ◌≤◌, ◌<◌, ◌≡◌, true, false, ◌↔◌}
use Rattle.std.proofs.Math.Option.{none}
use Rattle.tokens.specs.declared.Name.{Name}
use Rattle.statement.specs.declared.Transfer.{Transfer}
use Rattle.statement.specs.declared.Access.{Access}
use Rattle.statement.specs.declared.Statement.{Statement}
use Rattle.statement.specs.Views as act
use Rattle.statement.specs.Views.{Turn, act_of, release_of}
use Rattle.rules.specs.State.{is_live, is_marked}
use Rattle.rules.specs.Rows.{kept}
use Rattle.rules.specs.Reasons.{waited}
use Rattle.rules.specs.Sheet.{Line, turn_of, Sheet, Placing, state_by}
use Rattle.rules.specs.Claims.{accepted_lines}

-- after the first k turns a load, or a store, by a warp is outstanding on the allocation of a name
pub record Outstanding (turns : ℕ → Turn) (k : ℕ) (n : Name) (w : ℕ) (x : Transfer) : Type 0 where
  -- an alloc of the name, and no dealloc of it since
  pub alloc : ℕ
  pub columns : ℕ
  pub allocated : (turns alloc).act ≡ act.requests n columns
  pub unreleased : (j : ℕ) → alloc < j → j < k → (c : ℕ) → (turns j).act ≡ act.releases n c → ⊥
  -- after it a load, or a store, by the warp on that allocation
  pub line : ℕ
  pub since : alloc < line
  pub before : line < k
  pub access : Access
  pub accessed : (turns line).act ≡ act.accesses x access
  pub its_name : access.address.base ≡ n
  pub its_warp : (turns line).warp ≡ w
  -- and no wait for it by that warp since
  pub unwaited : (j : ℕ) → line < j → j < k → (turns j).act ≡ act.waits x → (turns j).warp ≡ w → ⊥

-- what the marks say after k lines below line 1
pub record MarksAt (placing : Placing) (line : ℕ → Line) (k : ℕ) : Type 0 where
  -- what is marked is outstanding, and what is outstanding is marked
  pub each : (n : Name) (w : ℕ) (x : Transfer) → (is_marked n w x (state_by placing line k).outstanding ≡ true) ↔ Outstanding (λ j. turn_of (line j)) k n w x
  -- rule 18 is broken by a dealloc exactly where something is outstanding on its allocation, by whichever warp, and by no other statement
  pub dealloc : (t : Statement) (n : Name) (columns : ℕ) → act_of t ≡ act.releases n columns
      → (kept (waited (state_by placing line k) t) ≡ false) ↔ ((w : ℕ) × ((x : Transfer) × Outstanding (λ j. turn_of (line j)) k n w x))
  pub others : (t : Statement) → release_of t ≡ none → kept (waited (state_by placing line k) t) ≡ true
  -- something is outstanding on live allocations alone
  pub live : (n : Name) (w : ℕ) (x : Transfer) → Outstanding (λ j. turn_of (line j)) k n w x → is_live n (state_by placing line k).live ≡ true

-- the claim: they say it after each accepted line
pub record MarksExact (placing : Placing) (sheet : Sheet) (room : ℕ) : Type 0 where
  pub after : (k : ℕ) → k ≤ accepted_lines placing sheet room → MarksAt placing sheet.line k
