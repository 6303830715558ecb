-- What an accepted line asks for and is given is small. Assumes nothing.
use Prim.Native.Nat.{ℕ, zero, suc, ◌*◌, ◌≤◌, ◌<◌}
use mathlib.Core.Path.{◌≡◌, refl, ap}
use mathlib.Core.Bool.{Bool, true, false, cond}
use mathlib.Core.List.{List, [], ◌∷◌}
use mathlib.Core.Option.{Option, none, some}
use native.Mathlib.Omega.{arith}
use lib.Dec.{ltb}
use lib.ListN.{length, length-append}
use borrow.Author.Tests.{ltb-true}
use Rattle.laws.specs.Tests.{is_some}
use Rattle.laws.proofs.TestLaws.{bit_le}
use Rattle.request.specs.Request.{legal}
use Rattle.request.proofs.RequestLaws.{request_exact}
use Rattle.statement.specs.Views.{Ask, request_in, request_of, of}
use Rattle.rules.specs.State.{State, slot, lowest}
use Rattle.rules.specs.Sheet.{Line, act_in, line_rules, start_list, given, requested, sum, held_after, ours, state_after, starts_by, starts_up_to, rules_by}
use Rattle.rules.specs.Claims.{AllKept}
use Rattle.rules.proofs.RuleLaws.{accepted_line, request-kept}
use Rattle.rules.proofs.StateLaws.{one-start}

-- ---- what is asked for
asked_by : (o : Option Ask) → ((r : Ask) → o ≡ some r → legal r.columns ≡ true) → of o (λ r. r.columns) 0 ≤ 512
asked_by none h = omega arith
asked_by (some r) h = ((request_exact r.columns).power (h r refl)).most

-- an accepted line asks for at most 512 columns
pub asked_most : (s : State) (held : ℕ) (x : Line) → AllKept (line_rules lowest s held x) → requested x ≤ 512
unfolding requested
asked_most s held x h =
    accepted_line lowest s held x h (λ x. requested x ≤ 512) (λ w t p a. asked_by (request_of t) (λ r e. (request-kept lowest s held w t a r e).0))

-- k accepted lines hold at most 512 columns for each
sum_most : (line : ℕ → Line) (k : ℕ) → ((j : ℕ) → j < k → AllKept (rules_by ours line j)) → sum requested line k ≤ 512 * k
unfolding sum
sum_most line zero h = omega arith
sum_most line (suc k) h =
    omega (arith, sum_most line k (λ j p. h j (omega (arith, p))), asked_most (state_after line k) (held_after line k) (line k) (h k (omega arith)))

pub held_most : (line : ℕ → Line) (k : ℕ) → ((j : ℕ) → j < k → AllKept (rules_by ours line j)) → held_after line k ≤ 512 * k
unfolding held_after
held_most line k h = omega (arith, sum_most line k h)

-- ---- the starts
-- a line is given at most one
given_by : (s : State) (o : Option Ask) → length (of o (λ r. start_list (lowest s.live r.columns)) []) ≤ 1
given_by s none = omega arith
given_by s (some r) = let o = lowest s.live r.columns in rw (one-start o) (bit_le (is_some o))

given_few : (s : State) (x : Line) → length (given lowest s x) ≤ 1
unfolding given
given_few s x = given_by s (request_in (act_in x))

pub starts_few : (line : ℕ → Line) (k : ℕ) → length (starts_up_to line k) ≤ k
unfolding starts_by
starts_few line zero = omega arith
starts_few line (suc k) =
    omega (arith, length-append (starts_up_to line k) (given lowest (state_after line k) (line k)), starts_few line k, given_few (state_after line k) (line k))

-- the first of a list
head : List ℕ → ℕ
head [] = 0
head (x ∷ l) = x

none_below : (start : ℕ) → [] ≡ start ∷ [] → start < 512
none_below start e = absurd (omega (arith, ap (length {A = ℕ}) e))

place-below : (i start : ℕ) (b : Bool) → ltb i 16 ≡ b → start_list (cond b (some (i * 32)) none) ≡ start ∷ [] → start < 512
unfolding head
place-below i start true t e = let z : i * 32 ≡ start = ap head e in omega (arith, ltb-true i 16 t)
place-below i start false t e = none_below start e

start_by : (s : State) (o : Option Ask) (start : ℕ) → of o (λ r. start_list (lowest s.live r.columns)) [] ≡ start ∷ [] → start < 512
unfolding lowest
start_by s none start e = none_below start e
start_by s (some r) start e = place-below (slot s.live r.columns) start (ltb (slot s.live r.columns) 16) refl e

-- a start is below 512
pub start-below : (s : State) (x : Line) (start : ℕ) → given lowest s x ≡ start ∷ [] → start < 512
unfolding given
start-below s x start e = start_by s (request_in (act_in x)) start e
