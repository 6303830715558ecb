-- Of any statements under any starts: what the run notes of loads and stores is what the lines before leave outstanding. A note is set and ended by the
-- lines that set and end what is outstanding, and while the run goes on each access is on a live holding, whose name no other has. Assumes nothing.
use Prim.Native.Nat.{ℕ, zero, suc, ◌+◌, ◌<◌}
use mathlib.Core.Path.{◌≡◌, refl, sym, ap, ◌∙◌, subst}
use mathlib.Core.Bool.{Bool, true, false, not, ◌&&◌, ◌||◌, cond}
use mathlib.Core.List.{List, [], ◌∷◌}
use mathlib.Core.Logic.{◌⊎◌, inl, inr, ◌↔◌}
use native.Mathlib.Omega.{arith}
use lib.Dec.{leb, eqb}
use borrow.Author.Tests.{not-true, leb-true, leb-false}
use Rattle.laws.proofs.BoolLaws.{bool, never, clash, and_l, or_cases, or_left, or_right}
use Rattle.tokens.specs.declared.Name.{Name}
use Rattle.tokens.specs.Names.{same_name}
use Rattle.tokens.proofs.Names.{same_true}
use Rattle.statement.specs.declared.Transfer.{Transfer}
use Rattle.statement.specs.declared.Access.{Access}
use Rattle.statement.specs.Views as act
use Rattle.statement.specs.Views.{Act, Turn, request_in, release_in, of}
use Rattle.statement.specs.Cells.{lanes_for, columns_for}
use Rattle.statement.proofs.Each.{each_act}
use Rattle.rules.specs.Outstanding.{Outstanding}
use Rattle.rules.proofs.OutstandingProved.{not_is, asks, gives, to_lines, from_lines, starts as sets, stops as ends}
use Rattle.run.specs.Run.{Holding, Region, Run, Phase, going, stopped_at, exited, ended, has, has_name, has_both, without, may_use, start_at, region, lies, all_lie, booked_by, known, able, done, go, after}
use Rattle.run.specs.Demand3.{NotesExact}
use Rattle.run.proofs.Agree.{pending_next}
use Rattle.run.proofs.AnyStarts.{go_by}

-- ---- names of holdings
abbrev Once : List Holding → Type 0
Once [] = Unit {0}
Once (h ∷ l) = (has (has_name h.name) l ≡ false) × Once l

has_less : (n : Name) (p : Holding → Bool) (l : List Holding) → has (has_name n) (without p l) ≡ true → has (has_name n) l ≡ true
unfolding has without
has_less n p [] e = e
has_less n p (h ∷ l) e = at (p h) e (has_less n p l)
  where
    at : (t : Bool) → has (has_name n) (cond t l (h ∷ without p l)) ≡ true → (has (has_name n) (without p l) ≡ true → has (has_name n) l ≡ true) → has_name n h || has (has_name n) l ≡ true
    at true e ih = or_right (has_name n h) (has (has_name n) l) e
    at false e ih = by (or_cases (has_name n h) (has (has_name n) (without p l)) e)
      where
        by : (has_name n h ≡ true) ⊎ (has (has_name n) (without p l) ≡ true) → has_name n h || has (has_name n) l ≡ true
        by (inl x) = or_left (has_name n h) (has (has_name n) l) x
        by (inr x) = or_right (has_name n h) (has (has_name n) l) (ih x)

once_less : (p : Holding → Bool) (l : List Holding) → Once l → Once (without p l)
unfolding without
once_less p [] u = tt
once_less p (h ∷ l) u =
    elim (p h) as (λ t. Once (cond t l (h ∷ without p l))) [
      | true ↦ u.1
      | false ↦ (not_is (has (has_name h.name) (without p l)) (λ e. clash (has_less h.name p l e) u.0), once_less p l u.1)
    ]

both-name : (m : Name) (c : ℕ) (l : List Holding) → has (has_both m c) l ≡ true → has (has_name m) l ≡ true
unfolding has has_both has_name
both-name m c [] e = e
both-name m c (h ∷ l) e = at (or_cases (has_both m c h) (has (has_both m c) l) e) (both-name m c l)
  where
    at : (has_both m c h ≡ true) ⊎ (has (has_both m c) l ≡ true) → (has (has_both m c) l ≡ true → has (has_name m) l ≡ true) → same_name h.name m || has (has_name m) l ≡ true
    at (inl x) ih = or_left (same_name h.name m) (has (has_name m) l) (and_l (same_name h.name m) (eqb h.length c) x)
    at (inr x) ih = or_right (same_name h.name m) (has (has_name m) l) (ih x)

-- the name that is taken out is gone, the others stay
live_less : (n m : Name) (c : ℕ) (l : List Holding) → Once l → has (has_both m c) l ≡ true → has (has_name n) (without (has_both m c) l) ≡ not (same_name m n) && has (has_name n) l
unfolding has without has_name has_both
live_less n m c [] u e = never e
live_less n m c (h ∷ l) u e = at (has_both m c h) refl e (live_less n m c l u.1) (bool (same_name m n))
  where
    at : (t : Bool) → has_both m c h ≡ t → t || has (has_both m c) l ≡ true → (has (has_both m c) l ≡ true → has (has_name n) (without (has_both m c) l) ≡ not (same_name m n) && has (has_name n) l)
        → (same_name m n ≡ true) ⊎ (same_name m n ≡ false) → has (has_name n) (cond t l (h ∷ without (has_both m c) l)) ≡ not (same_name m n) && (same_name h.name n || has (has_name n) l)
    at true x y ih (inl z) =
        let q : h.name ≡ n = same_true h.name m (and_l (same_name h.name m) (eqb h.length c) x) ∙ same_true m n z in
        rw z (subst (λ k. has (has_name k) l ≡ false) q u.0)
    at true x y ih (inr z) =
        let q : h.name ≡ m = same_true h.name m (and_l (same_name h.name m) (eqb h.length c) x) in
        let r : same_name h.name n ≡ false = ap (λ k. same_name k n) q ∙ z in
        rw (z, r) refl
    at false x y ih (inl z) =
        let q = same_true m n z in
        let r : same_name h.name n ≡ false = not_is (same_name h.name n) (λ w. clash (both-name m c l y) (subst (λ k. has (has_name k) l ≡ false) (same_true h.name n w ∙ sym q) u.0)) in
        rw r (ih y ∙ rw z refl)
    at false x y ih (inr z) = rw z (ap (λ b. same_name h.name n || b) (ih y ∙ rw z refl))

lies-name : (a : Access) (l : List Holding) → has (lies (region a.address (lanes_for a.shape) (columns_for a.shape a.num))) l ≡ true → has (has_name a.address.base) l ≡ true
unfolding has lies has_name
lies-name a [] e = e
lies-name a (h ∷ l) e = at (or_cases (lies r h) (has (lies r) l) e) (lies-name a l)
  where
    r : Region
    r = region a.address (lanes_for a.shape) (columns_for a.shape a.num)

    at : (lies r h ≡ true) ⊎ (has (lies r) l ≡ true) → (has (lies r) l ≡ true → has (has_name a.address.base) l ≡ true) → same_name h.name a.address.base || has (has_name a.address.base) l ≡ true
    at (inl x) ih = or_left (same_name h.name a.address.base) (has (has_name a.address.base) l) (and_l (same_name h.name a.address.base) (leb (r.lane + r.lanes) 128 && leb (h.start + r.column + r.columns) (h.start + h.length)) x)
    at (inr x) ih = or_right (same_name h.name a.address.base) (has (has_name a.address.base) l) (ih x)

-- ---- one line
module _ (starts : List ℕ) (r : Run) (v : ℕ) where
  live_next : (n : Name) (a : Act) → able starts r a ≡ true → Once r.live → has (has_name n) (done starts r v a).live ≡ asks a n || (not (gives a n) && has (has_name n) r.live)
  unfolding able done has has_name booked_by known all_lie
  live_next n a = each_act (λ a. able starts r a ≡ true → Once r.live → has (has_name n) (done starts r v a).live ≡ asks a n || (not (gives a n) && has (has_name n) r.live)) a (search own)
    where
      own : (m : Name) (c : ℕ) → has (has_both m c) r.live ≡ true → Once r.live → has (has_name n) (without (has_both m c) r.live) ≡ not (same_name m n) && has (has_name n) r.live
      own m c e u = live_less n m c r.live u e

  once_next : (a : Act) → able starts r a ≡ true → Once r.live → Once (done starts r v a).live
  unfolding able done booked_by known all_lie
  once_next a = each_act (λ a. able starts r a ≡ true → Once r.live → Once (done starts r v a).live) a (search (new, less))
    where
      new : (m : Name) (c : ℕ) → not (has (has_name m) r.live) && may_use r.live c (start_at starts r.requests) ≡ true → Once r.live → (has (has_name m) r.live ≡ false) × Once r.live
      new m c e u = (not-true (has (has_name m) r.live) (and_l (not (has (has_name m) r.live)) (may_use r.live c (start_at starts r.requests)) e), u)

      less : (m : Name) (c : ℕ) → has (has_both m c) r.live ≡ true → Once r.live → Once (without (has_both m c) r.live)
      less m c e u = once_less (has_both m c) r.live u

  named : (n : Name) (w : ℕ) (x : Transfer) (a : Act) → able starts r a ≡ true → sets a v n w x ≡ true → has (has_name n) r.live ≡ true
  unfolding able booked_by known all_lie
  named n w x a = each_act (λ a. able starts r a ≡ true → sets a v n w x ≡ true → has (has_name n) r.live ≡ true) a (search (never, own, no))
    where
      no : {A B : Type 0} → B → false ≡ true → A
      no b e = never e

      own : (y : Transfer) (c : Access) → able starts r (act.accesses y c) ≡ true → sets (act.accesses y c) v n w x ≡ true → has (has_name n) r.live ≡ true
      own y c e s = subst (λ k. has (has_name k) r.live ≡ true) (same_true c.address.base n (and_l (same_name c.address.base n) _ s)) (lies-name c r.live (and_l (has (lies (region c.address (lanes_for c.shape) (columns_for c.shape c.num))) r.live) _ e))

-- ---- many lines
abbrev is_going : Phase → Bool
is_going going = true
is_going (stopped_at l) = false
is_going exited = false
is_going ended = false

module _ (starts : List ℕ) (turns : ℕ → Turn) where
  abbrev at : ℕ → Run
  at k = after starts turns k

  abbrev Done : ℕ → Type 0
  Done k = ((at k).phase ≡ going) × (able starts (at k) (turns k).act ≡ true)

  next : (k : ℕ) → at (suc k) ≡ go (at k).phase starts (at k) (k + 2) (turns k)
  unfolding after
  next k = refl

  back : (k : ℕ) → (at (suc k)).phase ≡ going → Done k
  unfolding go
  back k e = by (at k).phase refl (ap (λ (z : Run). z.phase) (sym (next k)) ∙ e)
    where
      other : (p : Phase) → (at k).phase ≡ p → go p starts (at k) (k + 2) (turns k) ≡ at k → is_going p ≡ false → (go (at k).phase starts (at k) (k + 2) (turns k)).phase ≡ going → Done k
      other p q s f g = absurd (clash (ap is_going (sym q ∙ ap (λ (z : Run). z.phase) (sym s) ∙ ap (λ u. (go u starts (at k) (k + 2) (turns k)).phase) (sym q) ∙ g)) f)

      by : (p : Phase) → (at k).phase ≡ p → (go (at k).phase starts (at k) (k + 2) (turns k)).phase ≡ going → Done k
      by going q g = (q, go_by starts (at k) (k + 2) (turns k) q (λ z. z.phase ≡ going → able starts (at k) (turns k).act ≡ true) (λ a d. a) (λ a d. never (ap is_going d)) g)
      by (stopped_at l) q g = other (stopped_at l) q refl refl g
      by exited q g = other exited q refl refl g
      by ended q g = other ended q refl refl g

  all_back : (k : ℕ) → (at k).phase ≡ going → (j : ℕ) → j < k → Done j
  all_back zero e j h = absurd (omega (arith, h))
  all_back (suc k) e j h = by (bool (leb k j)) (all_back k (back k e).0 j)
    where
      by : (leb k j ≡ true) ⊎ (leb k j ≡ false) → (j < k → Done j) → Done j
      by (inl x) ih = let z : k ≡ j = omega (arith, h, leb-true k j x) in subst Done z (back k e)
      by (inr x) ih = ih (omega (arith, leb-false k j x))

  done-is : (k : ℕ) → Done k → at (suc k) ≡ done starts (at k) (turns k).warp (turns k).act
  done-is k d = next k ∙ go_by starts (at k) (k + 2) (turns k) d.0 (λ z. z ≡ done starts (at k) (turns k).warp (turns k).act) (λ e. refl) (λ e. absurd (clash d.1 e))

  once : (k : ℕ) → (at k).phase ≡ going → Once (at k).live
  unfolding after
  once zero e = tt
  once (suc k) e =
      let d = back k e in
      subst (λ (z : Run). Once z.live) (sym (done-is k d)) (once_next starts (at k) (turns k).warp (turns k).act d.1 (once k d.0))

  module _ (k : ℕ) (q : (at k).phase ≡ going) (n : Name) (w : ℕ) (x : Transfer) where
    dead : has (has_name n) (at 0).live ≡ false
    unfolding after has
    dead = refl

    clean : (at 0).pending n w x ≡ false
    unfolding after
    clean = refl

    lives : (j : ℕ) → j < k → has (has_name n) (at (suc j)).live ≡ asks (turns j).act n || (not (gives (turns j).act n) && has (has_name n) (at j).live)
    lives j h =
        let d = all_back k q j h in
        ap (λ (z : Run). has (has_name n) z.live) (done-is j d) ∙ live_next starts (at j) (turns j).warp n (turns j).act d.1 (once j d.0)

    notes : (j : ℕ) → j < k → (at (suc j)).pending n w x ≡ sets (turns j).act (turns j).warp n w x || (not (ends (turns j).act (turns j).warp n w x) && (at j).pending n w x)
    notes j h = ap (λ (z : Run). z.pending n w x) (done-is j (all_back k q j h)) ∙ pending_next starts (at j) (turns j).warp n w x (turns j).act

    names : (j : ℕ) → j < k → sets (turns j).act (turns j).warp n w x ≡ true → has (has_name n) (at j).live ≡ true
    names j h e = named starts (at j) (turns j).warp n w x (turns j).act (all_back k q j h).1 e

    noted : ((at k).pending n w x ≡ true) ↔ Outstanding turns k n w x
    noted = (
      to_lines turns k n w x (λ j. (at j).pending n w x) clean notes (λ j. has (has_name n) (at j).live) dead lives names k (omega arith),
      from_lines turns k n w x (λ j. (at j).pending n w x) clean notes k (omega arith),
    )

-- THE CLAIM
pub notes_exact : (starts : List ℕ) (turns : ℕ → Turn) → NotesExact starts turns
notes_exact starts turns = record { noted = noted starts turns }
