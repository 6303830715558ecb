-- The columns held, asked for less given back over the lines, are those of the live allocations: an accepted line changes both sides alike.
-- Assumes nothing.
use Prim.Native.Nat.{ℕ, zero, suc, ◌+◌, ◌<◌}
use mathlib.Core.Path.{◌≡◌, refl, ap}
use mathlib.Core.Bool.{true}
use mathlib.Core.List.{List}
use mathlib.Core.Option.{Option, none, some}
use native.Mathlib.Omega.{arith}
use Rattle.laws.specs.Tests.{is_some}
use Rattle.tokens.specs.declared.Name.{Name}
use Rattle.statement.specs.declared.Statement.{Statement}
use Rattle.statement.specs.Views as act
use Rattle.statement.specs.Views.{Act, act_of, request_in, release_in, of}
use Rattle.rules.specs.State.{State, Allocation, Placer, total}
use Rattle.rules.specs.Sheet.{Line, Placing, line_rules, line_effect, effect, added, requested, released, sum, held_after, state_by, rules_by}
use Rattle.rules.specs.Claims.{AllKept}
use Rattle.laws.proofs.BoolLaws.{clash}
use Rattle.statement.proofs.Each.{each_act}
use Rattle.rules.proofs.StateLaws.{total-without}
use Rattle.rules.proofs.RuleLaws.{Accepted, accepted_line, request-kept, releases-kept}

-- adding one adds its columns
total-added : (n : Name) (v : ℕ) (o : Option ℕ) (l : List Allocation) → is_some o ≡ true → total (added n v o l) ≡ v + total l
unfolding total
total-added n v none l e = absurd (clash e refl)
total-added n v (some s) l e = refl

-- an accepted act adds what it asks for and takes what it gives back
module _ (place : Placer) (s : State) (held w : ℕ) (t : Statement) (a : Accepted place s held w t) where
  abbrev Balanced : Act → Type 0
  Balanced x = act_of t ≡ x → total s.live + of (request_in x) (λ r. r.columns) 0 ≡ total (effect place s w x).live + of (release_in x) (λ r. r.columns) 0

  asks : (n : Name) (v : ℕ) → Balanced (act.requests n v)
  unfolding effect
  asks n v e = omega (arith, total-added n v (place s.live v) s.live (request-kept place s held w t a (record { name = n; columns = v }) (ap request_in e)).1)

  returns : (n : Name) (v : ℕ) → Balanced (act.releases n v)
  unfolding effect
  returns n v e = let k = releases-kept place s held w t a n v e in omega (arith, total-without n s.live, k.1)

  balanced : Balanced (act_of t)
  unfolding effect
  balanced = each_act Balanced (act_of t) (search (asks, returns))

-- one accepted line
balance_step : (place : Placer) (s : State) (held : ℕ) (x : Line) → AllKept (line_rules place s held x) → total s.live + requested x ≡ total (line_effect place s x).live + released x
unfolding requested released
balance_step place s held x h =
    accepted_line place s held x h (λ x. total s.live + requested x ≡ total (line_effect place s x).live + released x) (λ w t p a. balanced place s held w t a refl)

module _ (placing : Placing) (line : ℕ → Line) where
  -- what is asked for is what was given back and what is live
  pub balance : (n : ℕ) → ((k : ℕ) → k < n → AllKept (rules_by placing line k)) → sum requested line n ≡ sum released line n + total (state_by placing line n).live
  unfolding sum state_by total
  balance zero h = refl
  balance (suc n) h =
      omega (arith, balance n (λ k p. h k (omega (arith, p))), balance_step (placing n) (state_by placing line n) (held_after line n) (line n) (h n (omega arith)))

  -- the columns held are those of the live allocations
  pub held-total : (n : ℕ) → ((k : ℕ) → k < n → AllKept (rules_by placing line k)) → held_after line n ≡ total (state_by placing line n).live
  unfolding held_after
  held-total n h = omega (arith, balance n h)

  -- a line adds what it asks for and takes what it gives back
  pub held_next : (n : ℕ) → ((k : ℕ) → k < suc n → AllKept (rules_by placing line k)) → held_after line (suc n) + released (line n) ≡ held_after line n + requested (line n)
  unfolding held_after sum
  held_next n h =
      omega (arith, balance n (λ k p. h k (omega (arith, p))), balance (suc n) h)
