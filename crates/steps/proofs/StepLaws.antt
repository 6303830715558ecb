-- What each arm of a statement gives, from any state that is kept: the claims of the ledger, of the table of value names and of what is outstanding give
-- reasons and next states, and a refusal changes nothing. Assumes nothing.
use Rattle.std.proofs.Common.{◌≡◌, ℕ, ◌/◌, ◌<◌, Bool, true, false, cond, eqb, List, [], ◌∷◌, Option, Some, None, Result, Ok, Err, refl, sym, ap, ◌∙◌, subst}
use Rattle.std.specs.Prelude.{is_some}
use types.Run.{OneOf}
use denote.Enum.Declared.{tag_of}
use Rattle.laws.specs.Rules.{first_broken}
use Rattle.laws.proofs.BoolLaws.{clash}
use Rattle.reasons.specs.declared.Reason.{Reason}
use Rattle.reasons.specs.declared.Reason.TheVariants as reason
use Rattle.reasons.specs.Reasons.{number, answered}
use Rattle.reasons.proofs.ReasonLaws.{nonzero}
use Rattle.tokens.specs.declared.Name.{Name}
use Rattle.statement.specs.declared.Transfer.{Transfer}
use Rattle.statement.specs.declared.Transfer.TheVariants as transfer
use Rattle.statement.specs.declared.Access.{Access}
use Rattle.statement.specs.declared.Mma.{Mma}
use Rattle.statement.specs.declared.Statement.{Statement}
use Rattle.statement.specs.declared.Statement.TheVariants.{Mov32, Mov64, Alloc, Dealloc, Relinquish, Multiply, Exit}
use Rattle.statement.specs.Views as act
use Rattle.statement.specs.Views.{act_of, nothing}
use Rattle.statement.specs.contracts.Statement.{enum, the_type}
use Rattle.statement.proofs.Variants.{at_each}
use Rattle.rules.specs.State.{State, Binding, Mark, lowest, opened, is_live, is_busy}
use Rattle.rules.specs.Rows.{rules_of}
use Rattle.rules.specs.Reasons.{open_rows, open_rules, closed_rows, closed_rules, rows, rules}
use Rattle.rules.proofs.ByAct.{mov_rules, first_broken_lem}
use Rattle.rules.specs.Sheet.{statement, effect, given, requested, released, moved, marked}
use Rattle.ledger.specs.declared.Ledger.{Ledger}
use Rattle.ledger.specs.declared.Booked.{Booked}
use Rattle.ledger.specs.Booking.{Booking, booking, unchanged, started, found, alloc_rules, release_rules, relinquish_rules, alloc_of, release_of, relinquish_of}
use Rattle.ledger.specs.Shows as ledger
use Rattle.ledger.specs.Shows.{Taken, name_at, Stays}
use Rattle.ledger.proofs.FoundLaws.{finds_in}
use Rattle.ledger.proofs.ShowLaws as ledger-laws
use Rattle.bindings.specs.declared.Value.{Value}
use Rattle.bindings.specs.declared.Value.TheVariants.{B32, B64}
use Rattle.bindings.specs.Table.{bind_answer, after_bind, width, number as number_of_value}
use Rattle.bindings.specs.Table as table
use Rattle.bindings.specs.Shows as bindings
use Rattle.bindings.proofs.ShowLaws as bindings-laws
use Rattle.outstanding.specs.declared.Outstanding.{Outstanding}
use Rattle.outstanding.specs.Words.{begun, waited, busy_on}
use Rattle.outstanding.specs.Shows.{ShowsIn, TellsIn}
use Rattle.outstanding.proofs.ShowLaws as outstanding-laws
use Rattle.checks.specs.Checks.{AccessJudged, StartsAt, MmaJudged}
use Rattle.steps.specs.declared.Books.{Books}
use Rattle.steps.specs.declared.Step.{Step}
use Rattle.steps.specs.Steps.{opening, Kept, Made, Gives, StatementDone, OpenDone, quiet, mov_by, access_by, wait_by, with_ledger, with_values, with_outstanding, after_alloc, after_release, after_relinquish}

-- a test whether something was found tells of what a table has
pub tested : {T : Type 0} {answer has : Option T} {there b : Bool} → answer ≡ has → there ≡ is_some answer → there ≡ b → is_some has ≡ b
tested found test b = sym (ap (λ o. is_some o) found) ∙ sym test ∙ b

-- nothing is kept where nothing was said
pub opening_kept : Kept opening opened
opening_kept =
    let l = ledger-laws.shows_empty in record {
      tables = record { live = l.slots; values = bindings-laws.shows_empty };
      warp = l.warp;
      relinquished = l.relinquished;
      exited = refl;
      marks = outstanding-laws.shows_none _;
    }

-- ---- before and after exit
module _ (held w : ℕ) (t : Statement) (b : Books) (r : Result Step Reason) (after : Books) where
  abbrev By : Bool → State → Type 0
  By x s = Gives (first_broken (rules_of (cond x (closed_rows t) (open_rows lowest s held w t)))) (effect lowest s w (act_of t)) (given lowest s (statement w t)) (requested (statement w t)) (released (statement w t)) b r after

  pub open_done : b.exited ≡ false → OpenDone held w t b r after → StatementDone held w t b r after
  unfolding rules rows open_rules closed_rules
  open_done e d s k = subst (λ (x : Bool). By x s) (sym e ∙ k.exited) (d s k)

pub closed_done : (held w : ℕ) (t : Statement) (b : Books) (r : Reason) → b.exited ≡ true → number r ≡ first_broken (closed_rules t) → StatementDone held w t b (Err r) b
unfolding rules rows open_rules closed_rules
closed_done held w t b r e f s k = subst (λ (x : Bool). By held w t b (Err r) b x s) (sym e ∙ k.exited) (f, refl)

-- ---- statements that ask for nothing and give nothing back
made_quiet : (next : State) (after : Books) → Kept after next → Made next [] 0 0 quiet after
made_quiet next after k = record { keeps = k; asks = refl; returns = refl; starting = refl }

pub multiply_done : (held w : ℕ) (m : Mma) (b : Books) → MmaJudged b.ledger b.values m 0 → OpenDone held w (Multiply m) b (Ok quiet) b
unfolding effect given requested released
multiply_done held w m b e s k = (e s held w k.tables, made_quiet s b k)

-- fences, by their places in the declaration
idle : (t : Statement) → OneOf (9 ∷ 10 ∷ []) (tag_of the_type t) → act_of t ≡ nothing
idle t h = at_each enum (λ t. act_of t ≡ nothing) (9 ∷ 10 ∷ []) t h search

pub fence_done : (held w : ℕ) (t : Statement) (b : Books) → OneOf (9 ∷ 10 ∷ []) (tag_of the_type t) → OpenDone held w t b (Ok quiet) b
unfolding effect given requested released
fence_done held w t b h s k = let e = idle t h in rw e (sym (rw (first_broken_lem lowest s held w t, e)), made_quiet s b k)

-- exit
pub exit_15 : (held w : ℕ) (b : Books) → eqb held 0 ≡ false → OpenDone held w Exit b (Err reason.Exit) b
exit_15 held w b e s k = (sym (rw (first_broken_lem lowest s held w Exit, e)), refl)

pub exit_0 : (held w : ℕ) (b : Books) → eqb held 0 ≡ true
    → OpenDone held w Exit b (Ok quiet) (record { ledger = b.ledger; values = b.values; outstanding = b.outstanding; exited = true })
unfolding effect given requested released
exit_0 held w b e s k = (
  sym (rw (first_broken_lem lowest s held w Exit, e)),
  made_quiet _ _ (record { tables = record { live = k.tables.live; values = k.tables.values }; warp = k.warp; relinquished = k.relinquished; exited = refl; marks = k.marks }),
)

-- ---- what the books tell
module _ (b : Books) (s : State) (k : Kept b s) where
  shows : ledger.Shows b.ledger s
  shows = record { slots = k.tables.live; warp = k.warp; relinquished = k.relinquished }

  tells : ledger.Tells b.ledger s
  tells = ledger-laws.tells b.ledger s shows

  value_tells : bindings.Tells b.values s
  value_tells = bindings-laws.tells b.values s k.tables.values

  mark_tells : TellsIn b.outstanding b.ledger s.outstanding
  mark_tells = outstanding-laws.tells_in b.outstanding b.ledger s.outstanding k.marks

-- ---- bookings
-- the books with the next ledger, of a line that leaves the values and the exit as they were
next_kept : (b : Books) (s : State) → Kept b s → (l : Ledger) (next : State) → ledger.Shows l next → next.values ≡ s.values → next.exited ≡ s.exited
    → ShowsIn b.outstanding l next.outstanding → Kept (with_ledger b l) next
next_kept b s k l next h v e m = record {
  tables = record { live = h.slots; values = subst (λ (x : List Binding). bindings.Shows b.values x) (sym v) k.tables.values };
  warp = h.warp;
  relinquished = h.relinquished;
  exited = k.exited ∙ sym e;
  marks = m;
}

-- what is outstanding, on allocations that a booking leaves as they were
left_alone : (b : Books) (s : State) → Kept b s → (l : Ledger) → ((i : ℕ) → Taken b.ledger i → is_busy (name_at b.ledger i) s.outstanding ≡ true → Stays b.ledger l i) → ShowsIn b.outstanding l s.outstanding
left_alone b s k l f = (mark_tells b s k).stays l (λ i p. f i)

-- a booking that is refused, and the next ledger of one that is not
module _ (booked : Booked) (made : Booking) (p : booking booked ≡ made) where
  refused_as : (r : Reason) → booked.start ≡ Err r → number r ≡ made.reason
  refused_as r e = sym (ap answered e) ∙ ap (λ (x : Booking). x.reason) p

  accepted_as : (start : ℕ) → booked.start ≡ Ok start → 0 ≡ made.reason
  accepted_as start e = sym (ap answered e) ∙ ap (λ (x : Booking). x.reason) p

  start_as : (start : ℕ) → booked.start ≡ Ok start → start ≡ made.start
  start_as start e = sym (ap started e) ∙ ap (λ (x : Booking). x.start) p

  next_as : booked.next ≡ made.next
  next_as = ap (λ (x : Booking). x.next) p

-- a booking that is refused leaves the ledger as it was, and so the books
module _ (l next : Ledger) (reason start : ℕ) (r : Reason) where
  abbrev chosen : Bool → Booking
  chosen made = cond made (record { next = next; reason = 0; start = start }) (unchanged l reason)

  unbooked : (made : Bool) → number r ≡ (chosen made).reason → (chosen made).next ≡ l
  unbooked true e = absurd (clash (ap (λ n. eqb n 0) e) (nonzero r))
  unbooked false e = refl

either : (kept : Bool) (l next : Ledger) → next ≡ l → l ≡ cond kept l next
either true l next e = refl
either false l next e = sym e

module _ (b : Books) (booked : Booked) (r : Reason) (q : booked.start ≡ Err r) where
  pub alloc_stays : (n : Name) (w x : ℕ) → booking booked ≡ alloc_of b.ledger n w x → b ≡ after_alloc b w n x
  unfolding alloc_of
  alloc_stays n w x p = ap (with_ledger b) (either (is_some (table.found b.values n)) _ _ (unbooked _ _ _ _ r (eqb (first_broken (alloc_rules b.ledger n w x)) 0) (refused_as booked _ p r q)))

  pub release_stays : (n : Name) (w x : ℕ) → booking booked ≡ release_of b.ledger n w x → b ≡ after_release b w n x
  unfolding release_of
  release_stays n w x p = ap (with_ledger b) (either (busy_on b.outstanding b.ledger n) _ _ (unbooked _ _ _ _ r (eqb (first_broken (release_rules b.ledger n w x)) 0) (refused_as booked _ p r q)))

  pub relinquish_stays : (w : ℕ) → booking booked ≡ relinquish_of b.ledger w → b ≡ after_relinquish b w
  unfolding relinquish_of
  relinquish_stays w p = ap (with_ledger b) (sym (unbooked _ _ _ _ r (eqb (first_broken (relinquish_rules b.ledger w)) 0) (refused_as booked _ p r q)))

module _ (held w : ℕ) (b : Books) (n : Name) (x : ℕ) where
  -- ---- alloc
  pub alloc_6 : is_some (table.found b.values n) ≡ true → OpenDone held w (Alloc n x) b (Err reason.Name) b
  alloc_6 e s k = (sym ((tells b s k).alloc n held w x ∙ rw (← (value_tells b s k).bound n, e)), refl)

  module _ (e : is_some (table.found b.values n) ≡ false) (booked : Booked) (p : booking booked ≡ alloc_of b.ledger n w x) where
    alloc_reason : (s : State) → Kept b s → (alloc_of b.ledger n w x).reason ≡ first_broken (open_rules lowest s held w (Alloc n x))
    alloc_reason s k = sym ((tells b s k).alloc n held w x ∙ rw (← (value_tells b s k).bound n, e))

    pub alloc_no : (r : Reason) → booked.start ≡ Err r → OpenDone held w (Alloc n x) b (Err r) b
    alloc_no r q s k = (refused_as booked _ p r q ∙ alloc_reason s k, refl)

    pub alloc_yes : (start : ℕ) → booked.start ≡ Ok start
        → OpenDone held w (Alloc n x) b (Ok (record { asked = Some (record { start = start; columns = x }); returned = 0 })) (with_ledger b booked.next)
    unfolding effect given requested released
    alloc_yes start q s k =
        let t = tells b s k in
        let z : (alloc_of b.ledger n w x).reason ≡ 0 = sym (accepted_as booked _ p start q) in (
          accepted_as booked _ p start q ∙ alloc_reason s k,
          rw (next_as booked _ p, start_as booked _ p start q) (record {
            keeps = next_kept b s k _ _ (t.allocated n w x z) refl refl (left_alone b s k (alloc_of b.ledger n w x).next (λ i h _. t.alloc_stays n w x i z h));
            asks = refl;
            returns = refl;
            starting = sym (t.started n w x z);
          }),
        )

  -- ---- dealloc
  module _ (booked : Booked) (p : booking booked ≡ release_of b.ledger n w x) where
    release_reason : (s : State) → Kept b s → ledger.or_busy (release_of b.ledger n w x).reason (is_busy n s.outstanding) ≡ first_broken (open_rules lowest s held w (Dealloc n x))
    release_reason s k = sym ((tells b s k).release n held w x)

    pub release_no : (r : Reason) → booked.start ≡ Err r → OpenDone held w (Dealloc n x) b (Err r) b
    release_no r q s k = (refused_as booked _ p r q ∙ kept ∙ release_reason s k, refl)
      where
        kept : (release_of b.ledger n w x).reason ≡ ledger.or_busy (release_of b.ledger n w x).reason (is_busy n s.outstanding)
        kept = rw (← refused_as booked _ p r q, nonzero r)

    module _ (start : ℕ) (q : booked.start ≡ Ok start) where
      z : (release_of b.ledger n w x).reason ≡ 0
      z = sym (accepted_as booked _ p start q)

      -- what is found outstanding is what the state has
      busy_is : (s : State) → Kept b s → busy_on b.outstanding b.ledger n ≡ is_busy n s.outstanding
      busy_is s k = (mark_tells b s k).busy s.live k.tables.live n ((tells b s k).release_live n w x z)

      pub release_18 : busy_on b.outstanding b.ledger n ≡ true → OpenDone held w (Dealloc n x) b (Err reason.Outstanding) b
      release_18 e s k = (rw (z, ← busy_is s k, e) at (release_reason s k), refl)

      pub release_yes : busy_on b.outstanding b.ledger n ≡ false
          → OpenDone held w (Dealloc n x) b (Ok (record { asked = None; returned = x })) (with_ledger b booked.next)
      unfolding effect given requested released
      release_yes e s k =
          let t = tells b s k in
          let idle : is_busy n s.outstanding ≡ false = sym (busy_is s k) ∙ e in (
            rw (z, ← busy_is s k, e) at (release_reason s k),
            rw (next_as booked _ p) (record {
              keeps = next_kept b s k _ _ (t.released n w x z) refl refl
                  (subst (λ (l : List Mark). ShowsIn b.outstanding (release_of b.ledger n w x).next l) (sym ((mark_tells b s k).releases n idle))
                  (left_alone b s k (release_of b.ledger n w x).next (λ i h f. t.release_stays n w x i z (λ g. clash f (rw g idle)))));
              asks = refl;
              returns = refl;
              starting = refl;
            }),
          )

-- ---- relinquish
module _ (held w : ℕ) (b : Books) (booked : Booked) (p : booking booked ≡ relinquish_of b.ledger w) where
  pub relinquish_no : (r : Reason) → booked.start ≡ Err r → OpenDone held w Relinquish b (Err r) b
  relinquish_no r q s k = (refused_as booked _ p r q ∙ sym ((tells b s k).relinquish held w), refl)

  pub relinquish_yes : (start : ℕ) → booked.start ≡ Ok start → OpenDone held w Relinquish b (Ok quiet) (with_ledger b booked.next)
  unfolding effect given requested released
  relinquish_yes start q s k =
      let t = tells b s k in
      let z : (relinquish_of b.ledger w).reason ≡ 0 = sym (accepted_as booked _ p start q) in (
        sym z ∙ sym (t.relinquish held w),
        rw (next_as booked _ p)
            (made_quiet _ _ (next_kept b s k _ _ (t.relinquished w z) refl refl (left_alone b s k (relinquish_of b.ledger w).next (λ i _ _. t.relinquish_stays w i z)))),
      )

-- ---- loads, stores and their waits
module _ (held w : ℕ) (b : Books) (x : Transfer) where
  marked_kept : (s : State) → Kept b s → (o : Outstanding) (l : List Mark) → ShowsIn o b.ledger l → Kept (with_outstanding b o) (marked s l)
  marked_kept s k o l m = record {
    tables = record { live = k.tables.live; values = k.tables.values };
    warp = k.warp;
    relinquished = k.relinquished;
    exited = k.exited;
    marks = m;
  }

  wait_act : (x : Transfer) → act_of (wait_by x) ≡ act.waits x
  wait_act transfer.Load = refl
  wait_act transfer.Store = refl

  pub wait_done : w < 4 → OpenDone held w (wait_by x) b (Ok quiet) (with_outstanding b (waited b.outstanding x w))
  unfolding effect given requested released
  wait_done h s k =
      rw (wait_act x)
      (sym (first_broken_lem lowest s held w (wait_by x) ∙ rw (wait_act x)), made_quiet _ _ (marked_kept s k _ _ ((mark_tells b s k).waits x w h)))

  access_act : (x : Transfer) (a : Access) → act_of (access_by x a) ≡ act.accesses x a
  access_act transfer.Load a = refl
  access_act transfer.Store a = refl

  module _ (a : Access) where
    -- what was judged of both is what the rules say of one
    judged_by : (x : Transfer) (r : ℕ) → AccessJudged b.ledger w a r → (s : State) → Kept b s → r ≡ first_broken (open_rules lowest s held w (access_by x a))
    judged_by transfer.Load r j s k = (j s held k.tables.live).0
    judged_by transfer.Store r j s k = (j s held k.tables.live).1

    pub access_no : (r : Reason) → AccessJudged b.ledger w a (number r) → OpenDone held w (access_by x a) b (Err r) b
    access_no r j s k = (judged_by x (number r) j s k, refl)

    pub access_yes : w < 4 → (start : ℕ) → AccessJudged b.ledger w a 0 → StartsAt b.ledger a.address.base start
        → OpenDone held w (access_by x a) b (Ok quiet) (with_outstanding b (begun b.outstanding x w (start / 32)))
    unfolding effect given requested released
    access_yes h start j f s k =
        let m = (mark_tells b s k).begins s.live k.tables.live a.address.base f.0 f.1 x w h in
        let e = judged_by x 0 j s k in
        rw (access_act x a) (e, made_quiet _ _ (marked_kept s k _ _ (rw f.2 m)))

-- ---- mov
module _ (held w : ℕ) (b : Books) (n : Name) where
  -- what either gives, by the rules of a mov at either width
  mov_open : (v : Value) (r : Result Step Reason) (after : Books)
      → ((s : State) → Kept b s → Gives (first_broken (mov_rules s n)) (moved s n (width v) (number_of_value v)) [] 0 0 b r after) → OpenDone held w (mov_by n v) b r after
  unfolding effect given requested released
  mov_open (B32 v) r after f s k = rw (first_broken_lem lowest s held w (Mov32 n v)) (f s k)
  mov_open (B64 v) r after f s k = rw (first_broken_lem lowest s held w (Mov64 n v)) (f s k)

  live_is : (s : State) → Kept b s → is_some (found b.ledger n) ≡ is_live n s.live
  live_is s k = (finds_in b.ledger s.live k.tables.live).live n

  pub mov_6 : (v : Value) → is_some (found b.ledger n) ≡ true → OpenDone held w (mov_by n v) b (Err reason.Name) b
  mov_6 v e = mov_open v (Err reason.Name) b (λ s k. (rw (← live_is s k, e), refl))

  module _ (e : is_some (found b.ledger n) ≡ false) (v : Value) where
    pub mov_no : (r : Reason) → bind_answer b.values n ≡ Err r → OpenDone held w (mov_by n v) b (Err r) (with_values b (after_bind b.values n v))
    mov_no r q = mov_open v (Err r) (with_values b (after_bind b.values n v)) (λ s k.
        let p = bindings-laws.bind_err b.values s k.tables.values n v r q in
        (rw (← live_is s k, e, p.0, p.1), ap (with_values b) p.2))

    pub mov_yes : bind_answer b.values n ≡ Ok tt → OpenDone held w (mov_by n v) b (Ok quiet) (with_values b (after_bind b.values n v))
    mov_yes q = mov_open v (Ok quiet) (with_values b (after_bind b.values n v)) (λ s k.
        let p = bindings-laws.bind_ok b.values s k.tables.values n v q in (
          rw (← live_is s k, e, p.0),
          made_quiet _ _ (record {
            tables = record { live = k.tables.live; values = p.1 };
            warp = k.warp;
            relinquished = k.relinquished;
            exited = k.exited;
            marks = k.marks;
          }),
        ))
