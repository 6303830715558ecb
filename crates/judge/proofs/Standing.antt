-- The loop over the lines: it begins after the header, goes on by an accepted line, and its answer at a refused line and at the end is that of the
-- rules. Assumes nothing.
use Prim.Native.Nat.{ℕ, zero, suc, ◌+◌, ◌-◌, ◌≤◌, ◌<◌}
use mathlib.Core.Path.{◌≡◌, refl, sym, ap, ◌∙◌, subst}
use mathlib.Core.Bool.{Bool, true, false, cond}
use mathlib.Core.List.{List}
use native.Mathlib.Omega.{arith}
use lib.Dec.{eqb}
use lib.ListN.{length, take, drop}
use lib.Seq.{sets-eq, take-append_seam}
use borrow.Author.Tests.{eq-eqb, ne_eqb}
use Rattle.lines.specs.declared.Line as lines
use Rattle.lines.specs.Sheet.{Content, fault, laid, content_after, content_seen, after, content_of, line_at, next_of, line_count, headed, body_at, After}
use Rattle.lines.proofs.SheetLaws.{line_seen_lem}
use Rattle.lines.proofs.SheetTheorems.{after-header, one_more, all_done, step_more, step_after}
use Rattle.std.specs.Prelude.{Option, None, Some, Result, Ok, Err}
use Rattle.reasons.specs.declared.Reason.{Reason}
use Rattle.reasons.specs.Reasons.{number}
use Rattle.laws.specs.Rules.{first_broken}
use Rattle.statement.specs.declared.Position.{Position}
use Rattle.statement.specs.declared.Position.TheVariants.{Start}
use Rattle.statement.specs.Positions.{start_column, byte_column}
use Rattle.rules.specs.declared.Answer.{Answer}
use Rattle.rules.specs.State.{opened, lowest}
use Rattle.rules.specs.Sheet.{Line, line_rules, sum, state_by, starts_by, held_after, peak_up_to, ours, reason_by, position_by, stop_by, answer, closing, state_after, starts_up_to, answer_of, starts_of}
use Rattle.rules.proofs.RulesProved.{stop_hit, stop_before, stop_none, at_stop, at-end}
use Rattle.steps.specs.declared.Books.{Books}
use Rattle.steps.specs.Steps.{Kept}
use Rattle.steps.specs.Steps as steps
use Rattle.steps.proofs.StepLaws.{opening_kept}
use Rattle.progress.specs.declared.Progress.{Progress}
use Rattle.progress.specs.declared.Refusal.{Refusal}
use Rattle.progress.specs.Going.{seen, line_seen, column_in, column_seen, opening, Ready, Next, Went}
use Rattle.progress.proofs.LineLaws.{starts_few}
use Rattle.progress.proofs.Going as going
use Rattle.judge.specs.Judged.{lines_of, byte_columns, sheet_of}
use Rattle.judge.specs.Standing.{Standing}

-- after the header
pub begins : (s first : List ℕ) (b : Books) (p : Progress) → b ≡ steps.opening → p ≡ opening → headed s ≡ true → Standing s first first b p body_at
unfolding held_after sum peak_up_to starts_by state_by
begins s first b p k e h = record {
  done = 0;
  going = rw e (record {
    line_is = refl;
    accepted = λ j q. absurd (omega (arith, q));
    kept = subst (λ (x : Books). Kept x opened) (sym k) opening_kept;
    held_is = refl;
    peak_is = refl;
    requests_is = refl;
    starts_are = refl;
  });
  here = subst (λ (x : Progress). After s x.line body_at) (sym e) (after-header s h);
}

-- every reason has a number above 0
positive : (r : Reason) → 0 < number r
positive r = grind arith

-- every line starts in column 1
start_in : (c : Content) → column_in c Start ≡ start_column
unfolding byte_column
start_in fault = refl
start_in (laid warp text) = refl

pub start_of : (s : List ℕ) (l : ℕ) → byte_columns s l Start ≡ start_column
unfolding byte_columns
start_of s zero = refl
start_of s (suc k) = start_in (content_after (suc k) s)

-- a refused answer comes with no starts
pub refused_count : (s : List ℕ) (r : Reason) (y : Answer) (n : ℕ) → y.reason ≡ number r → n ≡ 0
    → (n ≡ cond (eqb y.reason 0) (length (starts_of (sheet_of s))) 0) × ((n ≤ 4096) × (y.reason ≡ 0 → ⊥))
refused_count s r y n e f =
    let z : y.reason ≡ 0 → ⊥ = λ x. absurd (omega (arith, x, e, positive r)) in
    (f ∙ sym (ap (λ (b : Bool). cond b (length (starts_of (sheet_of s))) 0) (ne_eqb y.reason 0 z)), (omega (arith, f), z))

-- less is left after a later place
pub less_left : (s : List ℕ) (at next : ℕ) → at < length s → at < next → length s - next < length s - at
less_left s at next t h = omega (arith, t, h)

module _ (s first given : List ℕ) (b : Books) (p : Progress) (at : ℕ) (g : Standing s first given b p at) where
  abbrev k : ℕ
  k = g.done

  -- the line at the place is the next one of the sheet
  line_now : lines_of s k ≡ line_seen s at
  unfolding lines_of
  line_now = sym (ap seen (line_seen_lem s at ∙ ap content_of g.here.here ∙ ap (λ (n : ℕ). content_of (after n s)) g.going.line_is))

  column_now : (q : Position) → column_seen s at q ≡ byte_columns s (suc k) q
  unfolding byte_columns
  column_now q = ap (λ (c : Content). column_in c q) (line_seen_lem s at ∙ ap content_of g.here.here ∙ ap (λ (n : ℕ). content_of (after n s)) g.going.line_is)

  -- a layout fault is refused
  fault_2 : None ≡ line_at s at → reason_by ours (lines_of s) k ≡ 2
  unfolding reason_by
  fault_2 e = ap (λ (x : Line). first_broken (line_rules lowest (state_after (lines_of s) k) (held_after (lines_of s) k) x)) (line_now ∙ ap (λ (o : Option lines.Line). seen (content_seen s o)) (sym e))

  -- ---- one line
  module _ (t : at < length s) where
    inside : k < line_count s - 1
    inside = omega (arith, one_more s p.line at g.here t, g.going.line_is)

    pub ready : line_count s ≤ 4096 → Ready (line_seen s at) given b p
    ready c = record {
      lines = lines_of s;
      done = k;
      first = first;
      going = g.going;
      here = line_now;
      few = omega (arith, inside, c);
    }

    abbrev Gone : Result Unit Refusal → List ℕ → Books → Progress → Type 0
    Gone = Went (line_seen s at) (column_seen s at) given b p

    module _ (o : Result Unit Refusal) (next_given : List ℕ) (next : Books) (q : Progress) (w : Gone o next_given next q) where
      abbrev Gives : Result Unit Refusal → Type 0
      Gives x = Next (lines_of s) k (column_seen s at) first given b p x next_given next q

      gives : (x : Result Unit Refusal) → o ≡ x → Gives x
      gives x e = subst Gives e (w (lines_of s) k first g.going line_now)

      -- refused: the sheet stops here
      module _ (r : Refusal) (e : o ≡ Err r) where
        why : Gives (Err r)
        why = gives (Err r) e

        stops : stop_by ours (lines_of s) (line_count s - 1) ≡ k
        stops = omega (arith, not-lt, not_gt)
          where
            not-lt : stop_by ours (lines_of s) (line_count s - 1) < k → ⊥
            not-lt i =
                let h = stop_hit ours (lines_of s) (line_count s - 1) (omega (arith, i, inside)) in
                omega (arith, h, g.going.accepted (stop_by ours (lines_of s) (line_count s - 1)) i)

            not_gt : k < stop_by ours (lines_of s) (line_count s - 1) → ⊥
            not_gt i = absurd (omega (arith, why.reasons, stop_before ours (lines_of s) (line_count s - 1) k i, positive r.reason))

        pub refuses : (room : ℕ) → headed s ≡ true → answer (number r.reason) q.line r.column q.held q.peak ≡ answer_of (sheet_of s) room
        refuses room h =
            let n : q.line ≡ k + 2 = omega (arith, ap (λ (x : Progress). x.line) why.counted, g.going.line_is) in
            let held = ap (λ (x : Progress). x.held) why.counted ∙ g.going.held_is in
            let peak = ap (λ (x : Progress). x.peak) why.counted ∙ g.going.peak_is in
            let i : stop_by ours (lines_of s) (line_count s - 1) < line_count s - 1 = omega (arith, stops, inside) in
            let column = why.points ∙ column_now (position_by ours (lines_of s) k) in
            (λ i. answer (why.reasons i) (n i) (column i) (held i) (peak i))
            ∙ sym (at_stop ours (sheet_of s) room h i ∙ ap (λ (j : ℕ). answer (reason_by ours (lines_of s) j) (j + 2) (byte_columns s (suc j) (position_by ours (lines_of s) j)) (held_after (lines_of s) j) (peak_up_to (lines_of s) j)) stops)

      -- accepted
      module _ (e : o ≡ Ok tt) where
        more : Gives (Ok tt)
        more = gives (Ok tt) e

        found : (l : Option lines.Line) → l ≡ line_at s at → (r : lines.Line) × (Some r ≡ line_at s at)
        found None e = absurd (omega (arith, more.0, fault_2 e))
        found (Some r) e = (r, e)

        abbrev line : lines.Line
        line = (found (line_at s at) refl).0

        line_is : Some line ≡ line_at s at
        line_is = (found (line_at s at) refl).1

        pub goes : (n : ℕ) → n ≡ next_of (line_at s at) → at < n
        goes n e = omega (arith, e ∙ ap next_of (sym line_is), step_more s p.line at g.here line line_is)

        pub goes_on : (n : ℕ) → n ≡ next_of (line_at s at) → Standing s first next_given next q n
        goes_on n e =
            let l : p.line + 1 ≡ q.line = omega (arith, g.going.line_is, more.1.line_is) in
            record {
              done = suc k;
              going = more.1;
              here = subst (λ (x : ℕ). After s q.line x) (ap next_of line_is ∙ sym e) (subst (λ (x : ℕ). After s x line.next) l (step_after s p.line at g.here line line_is));
            }

  -- ---- at the end
  module _ (t : length s ≤ at) where
    done_all : k ≡ line_count s - 1
    done_all = omega (arith, all_done s p.line at g.here t, g.going.line_is)

    pub ends-count : p.requests ≡ length (starts_of (sheet_of s))
    ends-count = g.going.requests_is ∙ ap (λ (j : ℕ). length (starts_up_to (lines_of s) j)) done_all

    pub ends_few : line_count s ≤ 4096 → p.requests ≤ 4096
    ends_few c = omega (arith, going.few (lines_of s) k first given b p g.going, done_all, c)

    pub ends-starts : line_count s ≤ 4096 → length first ≡ 4096 → take p.requests given ≡ starts_of (sheet_of s)
    ends-starts c e =
        let w = starts_up_to (lines_of s) k in
        let room : 0 + length w ≤ length first = omega (arith, starts_few (lines_of s) k, done_all, c, e) in
        ap (λ (n : ℕ). take n given) g.going.requests_is
        ∙ ap (take (length w)) (g.going.starts_are ∙ sets-eq w first 0 room)
        ∙ take-append_seam w (drop (0 + length w) first)
        ∙ ap (starts_up_to (lines_of s)) done_all

    pub ends : (room : ℕ) → headed s ≡ true → closing b.exited p.requests room p.line start_column p.held p.peak ≡ answer_of (sheet_of s) room
    unfolding closing
    ends room h =
        let zeros : (j : ℕ) → j < line_count s - 1 → reason_by ours (lines_of s) j ≡ 0 = λ j q. g.going.accepted j (omega (arith, q, done_all)) in
        let l : p.line ≡ line_count s - 1 + 1 = omega (arith, g.going.line_is, done_all) in
        let x = g.going.kept.exited ∙ ap (λ (j : ℕ). (state_after (lines_of s) j).exited) done_all in
        let y = g.going.held_is ∙ ap (held_after (lines_of s)) done_all in
        let q = g.going.peak_is ∙ ap (peak_up_to (lines_of s)) done_all in
        let c = sym (start_of s (line_count s - 1)) in
        (λ i. closing (x i) (ends-count i) room (l i) (c i) (y i) (q i)) ∙ sym (at-end ours (sheet_of s) room h (stop_none ours (lines_of s) (line_count s - 1) zeros))

    -- the starts that come with the answer: all of them, or none
    counted_by : (b : Bool) (n : ℕ) → n ≡ cond b p.requests 0 → line_count s ≤ 4096 → (n ≡ cond b (length (starts_of (sheet_of s))) 0) × (n ≤ 4096)
    counted_by true n e c = (e ∙ ends-count, omega (arith, e, ends_few c))
    counted_by false n e c = (e, omega (arith, e))

    pub ends-counted : line_count s ≤ 4096 → length first ≡ 4096 → (x : Answer) (n : ℕ) → n ≡ cond (eqb x.reason 0) p.requests 0
        → (n ≡ cond (eqb x.reason 0) (length (starts_of (sheet_of s))) 0) × ((n ≤ 4096) × (x.reason ≡ 0 → take n given ≡ starts_of (sheet_of s)))
    ends-counted c e x n f =
        let a = counted_by (eqb x.reason 0) n f c in
        (a.0, (a.1, λ z. ap (λ (m : ℕ). take m given) (f ∙ ap (λ (b : Bool). cond b p.requests 0) (eq-eqb x.reason 0 z)) ∙ ends-starts c e))
