-- One line more, over plain values: an accepted line leads from after k lines to after k + 1, a refused one has the reason of the rules. Assumes nothing.
use Prim.Native.Nat.{ℕ, suc, ◌+◌, ◌-◌, ◌*◌, ◌≤◌, ◌<◌, max}
use mathlib.Core.Path.{◌≡◌, refl, sym, ap, ◌∙◌, subst}
use mathlib.Core.Bool.{true, false}
use mathlib.Core.List.{List}
use mathlib.Core.Logic.{◌⊎◌, inl, inr}
use native.Mathlib.Omega.{arith}
use native.Mathlib.Nat.{zero-add}
use lib.Dec.{ltb}
use lib.ListN.{length, length-append}
use lib.Seq.{sets}
use borrow.Author.Tests.{ltb-true, ltb-false}
use Rattle.std.specs.Prelude.{Option, Some, None, Result, Ok, Err}
use Rattle.reasons.specs.declared.Reason.TheVariants.{Layout}
use Rattle.laws.proofs.BoolLaws.{bool}
use Rattle.laws.proofs.StoreLaws.{sets-append}
use Rattle.laws.specs.Rules.{first_broken}
use Rattle.lines.specs.Sheet.{Content, fault, laid, most_lines}
use Rattle.statement.specs.Reading.{read_of}
use Rattle.statement.specs.Positions.{byte_column}
use Rattle.rules.specs.State.{State, lowest}
use Rattle.statement.specs.declared.Position.{Position}
use Rattle.rules.specs.Sheet.{Line, bad_layout, line_of, line_rules, line_effect, given, requested, released, held_after, peak_up_to, ours, state_by, starts_by, rules_by, reason_by, position_by, state_after, starts_up_to}
use Rattle.rules.specs.Claims.{AllKept}
use Rattle.rules.proofs.Figures.{held_next}
use Rattle.rules.proofs.RulesProved.{zero-kept}
use Rattle.ledger.specs.declared.Span.{Span}
use Rattle.steps.specs.declared.Books.{Books}
use Rattle.steps.specs.declared.Step.{Step}
use Rattle.steps.specs.Steps.{Made, Gives, LineDone, starts_of, asked_of}
use Rattle.progress.specs.declared.Progress.{Progress}
use Rattle.progress.specs.declared.Refusal.{Refusal}
use Rattle.progress.specs.Going.{seen, column_in, Going, Ready, Placed, Small, passed_by, counted_of, Pointed, Went}
use Rattle.progress.proofs.LineLaws.{asked_most, held_most, starts_few, start-below}

-- a start that is given is one of the 512 columns
placed : (s : State) (x : Line) (o : Option Span) → starts_of o ≡ given lowest s x → Placed o
placed s x None e = tt
placed s x (Some y) e = start-below s x y.start (sym e)

-- ---- where the judge stands
module _ (lines : ℕ → Line) (k : ℕ) (first given₀ : List ℕ) (b : Books) (p : Progress) (g : Going lines k first given₀ b p) where
  -- fewer requests than lines, and few columns
  pub few : p.requests ≤ k
  few = omega (arith, g.requests_is, starts_few lines k)

  held_small : p.held ≤ 512 * k
  held_small = omega (arith, g.held_is, held_most lines k (λ j q. zero-kept ours lines j (g.accepted j q)))

  -- ---- the next line, accepted
  module _ (x : Line) (e : lines k ≡ x) (next : Books) (r : Step) (d : LineDone p.held x b (Ok r) next) where
    abbrev state : State
    state = state_after lines k

    abbrev GivesAs : ℕ → Line → Type 0
    GivesAs n y = Gives (first_broken (line_rules lowest state n y)) (line_effect lowest state y) (given lowest state y) (requested y) (released y) b (Ok r) next

    gives : GivesAs (held_after lines k) (lines k)
    gives = subst (λ (n : ℕ). GivesAs n (lines k)) g.held_is (subst (GivesAs p.held) (sym e) (d state g.kept))

    made : Made (line_effect lowest state (lines k)) (given lowest state (lines k)) (requested (lines k)) (released (lines k)) r next
    made = gives.1

    unbroken : reason_by ours lines k ≡ 0
    unfolding reason_by
    unbroken = sym gives.0

    accepted_next : (j : ℕ) → j < suc k → reason_by ours lines j ≡ 0
    accepted_next j q = by (bool (ltb j k))
      where
        by : (ltb j k ≡ true) ⊎ (ltb j k ≡ false) → reason_by ours lines j ≡ 0
        by (inl t) = g.accepted j (ltb-true j k t)
        by (inr t) =
            let i : k ≡ j = omega (arith, q, ltb-false j k t) in
            ap (reason_by ours lines) (sym i) ∙ unbroken

    kept-all : (j : ℕ) → j < suc k → AllKept (rules_by ours lines j)
    kept-all j q = zero-kept ours lines j (accepted_next j q)

    asked_small : asked_of r.asked ≤ 512
    asked_small = omega (arith, made.asks, asked_most state (held_after lines k) (lines k) (kept-all k (omega arith)))

    balance : held_after lines (suc k) + r.returned ≡ p.held + asked_of r.asked
    balance = omega (arith, held_next ours lines k kept-all, made.asks, made.returns, g.held_is)

    -- nothing overflows
    small : suc k < most_lines → Small (passed_by p) r
    small c = record {
      requests = omega (arith, few, c);
      held = omega (arith, asked_small, held_small, c);
      returned = omega (arith, balance);
      placed = placed state (lines k) r.asked made.starting;
    }

    goes_on : (next_given : List ℕ) → next_given ≡ sets given₀ p.requests (starts_of r.asked) → Going lines (suc k) first next_given next (counted_of (passed_by p) r)
    unfolding state_by starts_by peak_up_to
    goes_on next_given n =
        let held_then : p.held + asked_of r.asked - r.returned ≡ held_after lines (suc k) = omega (arith, balance) in
        let w = starts_up_to lines k in
        let m = given lowest state (lines k) in
        record {
          line_is = omega (arith, g.line_is);
          accepted = accepted_next;
          kept = made.keeps;
          held_is = held_then;
          peak_is = ap (λ (y : ℕ). max y (p.held + asked_of r.asked - r.returned)) g.peak_is ∙ ap (max (peak_up_to lines k)) held_then;
          requests_is = omega (arith, g.requests_is, ap length made.starting, length-append w m);
          starts_are = n ∙ rw (g.starts_are, g.requests_is, made.starting, ← sets-append first 0 w m, zero-add (length w)) refl;
        }

-- ---- what `advance` asks of its parts
ready_small : (x : Line) (given₀ : List ℕ) (b : Books) (p : Progress) → Ready x given₀ b p → (next : Books) (r : Step) → LineDone p.held x b (Ok r) next → Small (passed_by p) r
ready_small x given₀ b p y next r d = small y.lines y.done y.first given₀ b p y.going x y.here next r d y.few

-- ---- what `advance` gives
module _ (x : Line) (column : Position → ℕ) (given₀ : List ℕ) (b : Books) (p : Progress) (next : Books) where
  -- at a line that is refused
  stops : (r : Refusal) → LineDone p.held x b (Err r.reason) next → Pointed p.held x column b (Err r) → (q : Progress) → q ≡ passed_by p → Went x column given₀ b p (Err r) given₀ next q
  unfolding reason_by position_by
  stops r d c q e lines k first g h =
      let same = d (state_after lines k) g.kept in
      record {
        reasons = rw (← g.held_is, h) same.0;
        points = rw (← g.held_is, h) (c (state_after lines k) g.kept);
        starts = refl;
        books = same.1;
        counted = e;
      }

  -- at one that is accepted
  goes : (r : Step) → LineDone p.held x b (Ok r) next → (next_given : List ℕ) → next_given ≡ sets given₀ p.requests (starts_of r.asked)
      → (q : Progress) → q ≡ counted_of (passed_by p) r → Went x column given₀ b p (Ok tt) next_given next q
  goes r d next_given f q e lines k first g h =
      (unbroken lines k first given₀ b p g x h next r d, subst (λ (o : Progress). Going lines (suc k) first next_given next o) (sym e) (goes_on lines k first given₀ b p g x h next r d next_given f))

-- the same of a line by its layout: at a fault
module _ (c : Content) (given₀ : List ℕ) (b : Books) (p : Progress) where
  abbrev WentThere : Result Unit Refusal → List ℕ → Books → Progress → Type 0
  WentThere = Went (seen c) (column_in c) given₀ b p

  pub at_fault : fault ≡ c → WentThere (Err (record { reason = Layout; column = 1 })) given₀ b (passed_by p)
  at_fault e =
      subst (λ (x : Content). Went (seen x) (column_in x) given₀ b p (Err (record { reason = Layout; column = 1 })) given₀ b (passed_by p)) e
      (stops bad_layout (λ q. 1) given₀ b p b (record { reason = Layout; column = 1 }) (λ s k. (refl, refl)) (λ s k. refl) (passed_by p) refl)

  -- and at a text, refused or accepted
  module _ (w : ℕ) (text : List ℕ) (e : c ≡ laid w text) (next : Books) where
    abbrev line : Line
    line = line_of w (read_of text)

    there : (answer : Result Unit Refusal) (next_given : List ℕ) (q : Progress) → Went line (byte_column text) given₀ b p answer next_given next q → WentThere answer next_given next q
    there answer next_given q = subst (λ (x : Content). Went (seen x) (column_in x) given₀ b p answer next_given next q) (sym e)

    pub refuses : (r : Refusal) → LineDone p.held line b (Err r.reason) next → Pointed p.held line (byte_column text) b (Err r) → WentThere (Err r) given₀ next (passed_by p)
    refuses r d f = there (Err r) given₀ (passed_by p) (stops line (byte_column text) given₀ b p next r d f (passed_by p) refl)

    module _ (r : Step) (d : LineDone p.held line b (Ok r) next) where
      pub accepts : (next_given : List ℕ) → next_given ≡ sets given₀ p.requests (starts_of r.asked) → (q : Progress) → q ≡ counted_of (passed_by p) r → WentThere (Ok tt) next_given next q
      accepts next_given f q g = there (Ok tt) next_given q (goes line (byte_column text) given₀ b p next r d next_given f q g)

      pub counts : Ready (seen c) given₀ b p → Small (passed_by p) r
      counts y = ready_small (seen c) given₀ b p y next r (subst (λ (x : Content). LineDone p.held (seen x) b (Ok r) next) (sym e) d)
