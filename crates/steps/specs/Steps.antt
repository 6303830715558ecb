-- What the judge keeps from line to line, beside a state of the rules; and what one statement gives. Assumes nothing.
use Rattle.std.specs.Prelude.{ℕ, ◌≡◌, ◌/◌, Bool, true, false, cond, eqb, List, [], ◌∷◌, Option, Some, None, is_some, Result, Ok, Err}
use Rattle.laws.specs.Rules.{Rule, first_broken}
use Rattle.reasons.specs.declared.Reason.{Reason}
use Rattle.reasons.specs.declared.Reason.TheVariants as reason
use Rattle.reasons.specs.Reasons.{number}
use Rattle.tokens.specs.declared.Name.{Name}
use Rattle.statement.specs.declared.Transfer.{Transfer}
use Rattle.statement.specs.declared.Transfer.TheVariants as transfer
use Rattle.statement.specs.declared.Access.{Access}
use Rattle.statement.specs.declared.Statement.{Statement}
use Rattle.statement.specs.declared.Statement.TheVariants.{Mov32, Mov64, Load, Store, WaitLoad, WaitStore}
use Rattle.rules.specs.State.{State, lowest}
use Rattle.rules.specs.Reasons.{open_rules, rules}
use Rattle.rules.specs.Sheet.{Line, statement, given, requested, released, line_rules, line_effect}
use Rattle.ledger.specs.declared.Ledger.{Ledger}
use Rattle.ledger.specs.declared.Span.{Span}
use Rattle.ledger.specs.Booking as ledger
use Rattle.ledger.specs.Shows.{warp_of, or_busy}
use Rattle.bindings.specs.declared.Bindings.{Bindings}
use Rattle.bindings.specs.declared.Value.{Value}
use Rattle.bindings.specs.declared.Value.TheVariants.{B32, B64}
use Rattle.bindings.specs.Table as bindings
use Rattle.outstanding.specs.declared.Outstanding.{Outstanding}
use Rattle.outstanding.specs.Words as outstanding
use Rattle.outstanding.specs.Shows.{ShowsIn}
use Rattle.checks.specs.Tables.{Tables}
use Rattle.steps.specs.declared.Books.{Books}
use Rattle.steps.specs.declared.Step.{Step}

-- nothing is kept: no allocation, no value, nothing outstanding, and exit was not passed
abbrev pub opening : Books
opening = record { ledger = ledger.empty; values = bindings.empty; outstanding = outstanding.none; exited = false }

-- the books are those of a state
pub record Kept (b : Books) (s : State) : Type 0 where
  pub tables : Tables b.ledger b.values s
  pub warp : warp_of b.ledger ≡ s.warp
  pub relinquished : b.ledger.relinquished ≡ s.relinquished
  pub exited : b.exited ≡ s.exited
  pub marks : ShowsIn b.outstanding b.ledger s.outstanding

-- the starts that a step is given, and the columns it asks for
abbrev pub starts_of : Option Span → List ℕ
starts_of None = []
starts_of (Some x) = x.start ∷ []

abbrev pub asked_of : Option Span → ℕ
asked_of None = 0
asked_of (Some x) = x.columns

-- what an accepted line gives, by the state after it, the starts it is given and the columns it asks for and gives back: the books are those of that
-- state, and the step has its columns and its start
pub record Made (next : State) (starts : List ℕ) (asked returned : ℕ) (step : Step) (after : Books) : Type 0 where
  pub keeps : Kept after next
  pub asks : asked_of step.asked ≡ asked
  pub returns : step.returned ≡ returned
  pub starting : starts_of step.asked ≡ starts

-- what any line gives, by its reason too: accepted where there is none; refused for its reason, and the books stay as they were
abbrev pub Gives : (reason : ℕ) (next : State) (starts : List ℕ) (asked returned : ℕ) → (before : Books) → Result Step Reason → (after : Books) → Type 0
Gives reason next starts asked returned before (Ok step) after = (0 ≡ reason) × Made next starts asked returned step after
Gives reason next starts asked returned before (Err refusal) after = (number refusal ≡ reason) × (after ≡ before)

-- a line under its rules, from any state that is kept
abbrev pub Done : (State → List Rule) → Line → Books → Result Step Reason → Books → Type 0
Done under x before answer after =
    (s : State) → Kept before s → Gives (first_broken (under s)) (line_effect lowest s x) (given lowest s x) (requested x) (released x) before answer after

-- with the columns held before it: a whole line; a statement of a warp; and a statement before exit
abbrev pub LineDone : (held : ℕ) → Line → Books → Result Step Reason → Books → Type 0
LineDone held x = Done (λ s. line_rules lowest s held x) x

abbrev pub StatementDone : (held w : ℕ) → Statement → Books → Result Step Reason → Books → Type 0
StatementDone held w t = Done (λ s. rules lowest s held w t) (statement w t)

abbrev pub OpenDone : (held w : ℕ) → Statement → Books → Result Step Reason → Books → Type 0
OpenDone held w t = Done (λ s. open_rules lowest s held w t) (statement w t)

-- ---- the parts
-- an accepted statement that asks for nothing and gives nothing back
abbrev pub quiet : Step
quiet = record { asked = None; returned = 0 }

-- the mov of a value
abbrev pub mov_by : Name → Value → Statement
mov_by n (B32 v) = Mov32 n v
mov_by n (B64 v) = Mov64 n v

-- a ld or a st, and its wait
abbrev pub access_by : Transfer → Access → Statement
access_by transfer.Load a = Load a
access_by transfer.Store a = Store a

abbrev pub wait_by : Transfer → Statement
wait_by transfer.Load = WaitLoad
wait_by transfer.Store = WaitStore

-- ---- what each booking answers, whether or not a state has the books
-- the reason of an alloc, or 0: its name is bound to a value (6), else the ledger's
abbrev pub alloc_reason : Books → (warp : ℕ) → Name → (columns : ℕ) → ℕ
alloc_reason b w n x = cond (is_some (bindings.found b.values n)) 6 (ledger.alloc_of b.ledger n w x).reason

-- one that is accepted asks for its columns, from the ledger's start on
abbrev pub alloc_step : Books → (warp : ℕ) → Name → (columns : ℕ) → Step
alloc_step b w n x = record { asked = Some (record { start = (ledger.alloc_of b.ledger n w x).start; columns = x }); returned = 0 }

-- the reason of a dealloc, or 0: the ledger's, else 18 where something is outstanding on its allocation
abbrev pub release_reason : Books → (warp : ℕ) → Name → (columns : ℕ) → ℕ
release_reason b w n x = or_busy (ledger.release_of b.ledger n w x).reason (outstanding.busy_on b.outstanding b.ledger n)

-- one that is accepted gives its columns back
abbrev pub release_step : (columns : ℕ) → Step
release_step x = record { asked = None; returned = x }

-- the reason of a relinquish, or 0
abbrev pub relinquish_reason : Books → (warp : ℕ) → ℕ
relinquish_reason b w = (ledger.relinquish_of b.ledger w).reason

-- ---- the books after each part, whether or not a state has them
-- the books with another ledger
abbrev pub with_ledger : Books → Ledger → Books
with_ledger b l = record { ledger = l; values = b.values; outstanding = b.outstanding; exited = b.exited }

-- with another table of values
abbrev pub with_values : Books → Bindings → Books
with_values b t = record { ledger = b.ledger; values = t; outstanding = b.outstanding; exited = b.exited }

-- with other words of what is outstanding
abbrev pub with_outstanding : Books → Outstanding → Books
with_outstanding b o = record { ledger = b.ledger; values = b.values; outstanding = o; exited = b.exited }

-- with exit passed, or not
abbrev pub with_exited : Books → Bool → Books
with_exited b e = record { ledger = b.ledger; values = b.values; outstanding = b.outstanding; exited = e }

-- a mov binds its name in the table, unless the name has a live allocation
abbrev pub after_mov : Books → Name → Value → Books
after_mov b n v = with_values b (cond (is_some (ledger.found b.ledger n)) b.values (bindings.after_bind b.values n v))

-- an alloc is booked in the ledger, unless its name is bound to a value
abbrev pub after_alloc : Books → (warp : ℕ) → Name → (columns : ℕ) → Books
after_alloc b w n x = with_ledger b (cond (is_some (bindings.found b.values n)) b.ledger (ledger.alloc_of b.ledger n w x).next)

-- a dealloc is booked in it, unless something is outstanding on its allocation
abbrev pub after_release : Books → (warp : ℕ) → Name → (columns : ℕ) → Books
after_release b w n x = with_ledger b (cond (outstanding.busy_on b.outstanding b.ledger n) b.ledger (ledger.release_of b.ledger n w x).next)

-- a relinquish is booked in it
abbrev pub after_relinquish : Books → (warp : ℕ) → Books
after_relinquish b w = with_ledger b (ledger.relinquish_of b.ledger w).next

-- a ld or a st of a warp is outstanding on the allocation that is found
abbrev pub begun_on : Outstanding → Transfer → (warp : ℕ) → Option Span → Outstanding
begun_on o x w (Some span) = outstanding.begun o x w (span.start / 32)
begun_on o x w None = o

-- so it is of one that is accepted, and a refusal changes nothing
abbrev pub after_access : Books → Transfer → (warp : ℕ) → Name → Result Step Reason → Books
after_access b x w n (Ok _) = with_outstanding b (begun_on b.outstanding x w (ledger.found b.ledger n))
after_access b x w n (Err _) = b

-- exit is passed where no columns are held
abbrev pub after_exit : Books → (held : ℕ) → Books
after_exit b held = with_exited b (cond (eqb held 0) true b.exited)

-- and it is refused where some are
abbrev pub exit_of : (held : ℕ) → Result Step Reason
exit_of held = cond (eqb held 0) (Ok quiet) (Err reason.Exit)
