-- Words that show the marks of the rules tell whether anything is outstanding, and go on showing them: a bit is set and cleared for one transfer and one
-- warp, and a slot on which something is outstanding is not booked. Assumes nothing.
use Prim.Native.Nat.{ℕ, ◌/◌, ◌<◌}
use mathlib.Core.Path.{◌≡◌, refl, sym, ap, ◌∙◌, subst}
use mathlib.Core.Bool.{Bool, true, false, cond}
use mathlib.Core.List.{List, [], ◌∷◌}
use mathlib.Core.Logic.{◌⊎◌, inl, inr}
use lib.Dec.{eqb}
use lib.ListN.{length-set, get_or-replicate}
use borrow.Author.Tests.{eqb-true, eq-eqb}
use Rattle.laws.specs.Lists.{Among}
use Rattle.laws.proofs.BoolLaws.{never, clash, same_test, or_cases, or_left, or_right, or_neither}
use Rattle.tokens.specs.declared.Name.{Name}
use Rattle.tokens.specs.Names.{same_name}
use Rattle.tokens.proofs.Names.{same_true, same_name_lem}
use Rattle.statement.specs.declared.Transfer.{Transfer}
use Rattle.rules.specs.State.{Allocation, Mark, is_live, is_by, is_busy, after_wait, after_release}
use Rattle.rules.proofs.OutstandingProved.{not_is, by_is, is_by_lem}
use Rattle.std.specs.Prelude.{Option, Some, None, is_some}
use Rattle.std.proofs.lemmas.Option.{same_Some}
use Rattle.ledger.specs.declared.Ledger.{Ledger}
use Rattle.ledger.specs.declared.Span.{Span}
use Rattle.ledger.specs.Booking.{found}
use Rattle.ledger.specs.Shows.{Live, FindsIn, size_of, Taken, HoldsIn, name_of, name_at, Stays}
use Rattle.ledger.proofs.FoundLaws.{finds_in}
use Rattle.outstanding.specs.declared.Outstanding.{Outstanding}
use Rattle.outstanding.specs.Words.{word_of, bit_at, marked, none, begun, waited, slots_of, busy_on, busy_at}
use Rattle.outstanding.specs.Shows.{mark_at, ShowsIn, TellsIn}
use Rattle.outstanding.proofs.WordLaws.{zero_bit, word_below, which, begun_same, begun_other, waited_same, waited_other, slot-marked, marked-slot}

-- ---- lists of marks
mark_path : (m n : Name) (v w : ℕ) (y x : Transfer) → m ≡ n → v ≡ w → y ≡ x → ◌≡◌ {A = Mark} (record { name = m; warp = v; transfer = y }) (record { name = n; warp = w; transfer = x })
mark_path m n v w y x p q r = cc

among_busy : (m : Mark) (l : List Mark) (n : Name) → Among m l → m.name ≡ n → is_busy n l ≡ true
unfolding is_busy
among_busy m [] n a e = absurd a
among_busy m (b ∷ l) n (inl q) e = or_left (same_name b.name n) (is_busy n l) (same_name_lem b.name n (sym (ap (λ (z : Mark). z.name) q) ∙ e))
among_busy m (b ∷ l) n (inr a) e = or_right (same_name b.name n) (is_busy n l) (among_busy m l n a e)

busy_among : (l : List Mark) (n : Name) → is_busy n l ≡ true → (m : Mark) × Among m l × (m.name ≡ n)
unfolding is_busy
busy_among [] n e = never e
busy_among (b ∷ l) n e = at (or_cases (same_name b.name n) (is_busy n l) e) (busy_among l n)
  where
    at : (same_name b.name n ≡ true) ⊎ (is_busy n l ≡ true) → (is_busy n l ≡ true → (m : Mark) × Among m l × (m.name ≡ n)) → (m : Mark) × Among m (b ∷ l) × (m.name ≡ n)
    at (inl p) ih = (b, inl refl, same_true b.name n p)
    at (inr p) ih = let r = ih p in (r.0, inr r.1, r.2)

-- what a wait leaves, and what it takes out
wait_out : (w : ℕ) (x : Transfer) (m : Mark) (l : List Mark) → Among m (after_wait w x l) → Among m l × (is_by w x m ≡ false)
unfolding after_wait
wait_out w x m [] a = absurd a
wait_out w x m (b ∷ l) a = at (is_by w x b) refl a (wait_out w x m l)
  where
    later : Among m l × (is_by w x m ≡ false) → Among m (b ∷ l) × (is_by w x m ≡ false)
    later r = (inr r.0, r.1)

    at : (t : Bool) → is_by w x b ≡ t → Among m (cond t (after_wait w x l) (b ∷ after_wait w x l)) → (Among m (after_wait w x l) → Among m l × (is_by w x m ≡ false)) → Among m (b ∷ l) × (is_by w x m ≡ false)
    at true e a ih = later (ih a)
    at false e (inl q) ih = (inl q, ap (is_by w x) q ∙ e)
    at false e (inr a) ih = later (ih a)

wait_in_lem : (w : ℕ) (x : Transfer) (m : Mark) (l : List Mark) → Among m l → is_by w x m ≡ false → Among m (after_wait w x l)
unfolding after_wait
wait_in_lem w x m [] a e = absurd a
wait_in_lem w x m (b ∷ l) a e = at (is_by w x b) refl a (λ a. wait_in_lem w x m l a e)
  where
    at : (t : Bool) → is_by w x b ≡ t → Among m (b ∷ l) → (Among m l → Among m (after_wait w x l)) → Among m (cond t (after_wait w x l) (b ∷ after_wait w x l))
    at true f (inl q) ih = absurd (clash (ap (is_by w x) q ∙ f) e)
    at true f (inr a) ih = ih a
    at false f (inl q) ih = inl q
    at false f (inr a) ih = inr (ih a)

-- where nothing is outstanding on a name, nothing is taken out
release_none : (n : Name) (l : List Mark) → is_busy n l ≡ false → after_release n l ≡ l
unfolding is_busy after_release
release_none n [] e = refl
release_none n (b ∷ l) e = let t = or_neither (same_name b.name n) (is_busy n l) e in rw t.0 (ap (λ k. b ∷ k) (release_none n l t.1))

-- ---- nothing is outstanding
pub shows_none : (l : Ledger) → ShowsIn none l []
unfolding marked
shows_none l = record {
  size = refl;
  down = λ m a. absurd a;
  up = λ x w i p q e. absurd (clash e (ap (λ word. bit_at word i) (get_or-replicate 8 (word_of x w) 0 0 (word_below x w p)) ∙ zero_bit i));
}

module _ (o : Outstanding) (l : Ledger) (marks : List Mark) (h : ShowsIn o l marks) where
  busy : (live : List Allocation) → Live l live → (n : Name) → is_live n live ≡ true → busy_on o l n ≡ is_busy n marks
  busy live m n e = at (found l n) refl
    where
      t : FindsIn l live
      t = finds_in l live m

      at : (f : Option Span) → found l n ≡ f → busy_at o f ≡ is_busy n marks
      at None z = absurd (clash (t.live n ∙ e) (ap is_some z))
      at (Some s) z = same_test (bit_at (slots_of o) (s.start / 32)) (is_busy n marks) there back
        where
          there : bit_at (slots_of o) (s.start / 32) ≡ true → is_busy n marks ≡ true
          there b =
              let k = slot-marked o (s.start / 32) h.size b in
              let own = t.own n s z in
              let u = h.up k.0 k.1.0 (s.start / 32) k.1.1 own.0 k.1.2 in
              among_busy _ marks n u.1 own.1.name

          back : is_busy n marks ≡ true → bit_at (slots_of o) (s.start / 32) ≡ true
          back b =
              let k = busy_among marks n b in
              let d = h.down k.0 k.1 in
              let i = t.sole n d.1.0 d.1.1 (subst (λ k. HoldsIn l d.1.0 k) k.2 d.1.2) in
              let same : d.1.0 ≡ s.start / 32 = i.2 ∙ ap (λ (x : Span). x.start / 32) (same_Some i.0 s (sym i.1 ∙ z)) in
              subst (λ j. bit_at (slots_of o) j ≡ true) same (marked-slot o d.1.0 h.size k.0.transfer k.0.warp d.0 d.1.3)

  module _ (x : Transfer) (w : ℕ) (p : w < 4) where
    -- a bit that is set stays so
    keeps : (i : ℕ) (y : Transfer) (v j : ℕ) → v < 4 → marked o y v j ≡ true → marked (begun o x w i) y v j ≡ true
    keeps i y v j q e = at (which x y w v p q)
      where
        at : ((y ≡ x) × (v ≡ w)) ⊎ (word_of y v ≡ word_of x w → ⊥) → marked (begun o x w i) y v j ≡ true
        at (inl z) =
            rw (z.0, z.1)
            (begun_same o x w h.size p i j ∙ or_left (marked o x w j) (eqb i j) (rw (z.0, z.1) at e))
        at (inr z) = begun_other o x w h.size p y v i j z ∙ e

    -- and another is the new one
    only : (i : ℕ) (y : Transfer) (v j : ℕ) → v < 4 → marked (begun o x w i) y v j ≡ true → (marked o y v j ≡ true) ⊎ ((y ≡ x) × (v ≡ w) × (j ≡ i))
    only i y v j q e = at (which x y w v p q)
      where
        new : y ≡ x → v ≡ w → (marked o x w j ≡ true) ⊎ (eqb i j ≡ true) → (marked o y v j ≡ true) ⊎ ((y ≡ x) × (v ≡ w) × (j ≡ i))
        new a b (inl m) = inl (rw (a, b) m)
        new a b (inr m) = inr (a, b, sym (eqb-true i j m))

        at : ((y ≡ x) × (v ≡ w)) ⊎ (word_of y v ≡ word_of x w → ⊥) → (marked o y v j ≡ true) ⊎ ((y ≡ x) × (v ≡ w) × (j ≡ i))
        at (inl z) = new z.0 z.1 (or_cases (marked o x w j) (eqb i j) (sym (begun_same o x w h.size p i j) ∙ (rw (z.0, z.1) at e)))
        at (inr z) = inl (sym (begun_other o x w h.size p y v i j z) ∙ e)

    begins : (live : List Allocation) → Live l live → (n : Name) (s : Span) → found l n ≡ Some s
        → ShowsIn (begun o x w (s.start / 32)) l (record { name = n; warp = w; transfer = x } ∷ marks)
    unfolding begun
    begins live m n s e = record { size = length-set o.words (word_of x w) _ ∙ h.size; down = down; up = up }
      where
        at : ℕ
        at = s.start / 32

        own : (at < 16) × HoldsIn l at n
        own = (finds_in l live m).own n s e

        set : marked (begun o x w at) x w at ≡ true
        set = begun_same o x w h.size p at at ∙ or_right (marked o x w at) (eqb at at) (eq-eqb at at refl)

        down : (m : Mark) → Among m (record { name = n; warp = w; transfer = x } ∷ marks)
            → (m.warp < 4) × ((i : ℕ) × (i < 16) × HoldsIn l i m.name × (marked (begun o x w at) m.transfer m.warp i ≡ true))
        down m (inl q) =
            subst (λ (m : Mark). (m.warp < 4) × ((i : ℕ) × (i < 16) × HoldsIn l i m.name × (marked (begun o x w at) m.transfer m.warp i ≡ true))) (sym q)
            (p, (at, own.0, own.1, set))
        down m (inr a) =
            let d = h.down m a in
            (d.0, (d.1.0, d.1.1, d.1.2, keeps at m.transfer m.warp d.1.0 d.0 d.1.3))

        up : (y : Transfer) (v j : ℕ) → v < 4 → j < 16 → marked (begun o x w at) y v j ≡ true
            → Taken l j × Among (mark_at l y v j) (record { name = n; warp = w; transfer = x } ∷ marks)
        up y v j q r k = by (only at y v j q k)
          where
            by : (marked o y v j ≡ true) ⊎ ((y ≡ x) × (v ≡ w) × (j ≡ at)) → Taken l j × Among (mark_at l y v j) (record { name = n; warp = w; transfer = x } ∷ marks)
            by (inl a) = let u = h.up y v j q r a in (u.0, inr u.1)
            by (inr a) =
                let f = subst (λ i. HoldsIn l i n) (sym a.2) own.1 in
                (f.taken, inl (mark_path (name_at l j) n v w y x f.name a.1 a.0))

    waits : ShowsIn (waited o x w) l (after_wait w x marks)
    unfolding waited
    waits = record { size = length-set o.words (word_of x w) 0 ∙ h.size; down = down; up = up }
      where
        down : (m : Mark) → Among m (after_wait w x marks) → (m.warp < 4) × ((i : ℕ) × (i < 16) × HoldsIn l i m.name × (marked (waited o x w) m.transfer m.warp i ≡ true))
        down m a =
            let r = wait_out w x m marks a in
            let d = h.down m r.0 in
            (d.0, (d.1.0, d.1.1, d.1.2, left m r.1 d.1.0 d.1.3 (which x m.transfer w m.warp p d.0)))
          where
            left : (m : Mark) → is_by w x m ≡ false → (i : ℕ) → marked o m.transfer m.warp i ≡ true
                → ((m.transfer ≡ x) × (m.warp ≡ w)) ⊎ (word_of m.transfer m.warp ≡ word_of x w → ⊥) → marked (waited o x w) m.transfer m.warp i ≡ true
            left m f i e (inl z) = absurd (clash (is_by_lem w x m z.1 z.0) f)
            left m f i e (inr z) = waited_other o x w h.size p m.transfer m.warp i z ∙ e

        up : (y : Transfer) (v j : ℕ) → v < 4 → j < 16 → marked (waited o x w) y v j ≡ true → Taken l j × Among (mark_at l y v j) (after_wait w x marks)
        up y v j q r m = at (which x y w v p q)
          where
            at : ((y ≡ x) × (v ≡ w)) ⊎ (word_of y v ≡ word_of x w → ⊥) → Taken l j × Among (mark_at l y v j) (after_wait w x marks)
            at (inl z) = absurd (clash (rw (z.0, z.1) at m) (waited_same o x w h.size p j))
            at (inr z) =
                let u = h.up y v j q r (sym (waited_other o x w h.size p y v j z) ∙ m) in
                let mark : Mark = mark_at l y v j in
                (u.0, wait_in_lem w x mark marks u.1 (not_is (is_by w x mark) (λ b. let e = by_is w x mark b in z (ap (λ t. word_of t v) e.1 ∙ ap (word_of x) e.0))))

  stays : (next : Ledger) → ((i : ℕ) → i < 16 → Taken l i → is_busy (name_at l i) marks ≡ true → Stays l next i) → ShowsIn o next marks
  stays next f = record { size = h.size; down = down; up = up }
    where
      taken_still : (i : ℕ) → Stays l next i → Taken l i → Taken next i
      taken_still i e t = subst (λ a. 0 < size_of a) (sym e) t

      down : (m : Mark) → Among m marks → (m.warp < 4) × ((i : ℕ) × (i < 16) × HoldsIn next i m.name × (marked o m.transfer m.warp i ≡ true))
      down m a =
          let d = h.down m a in
          let e = f d.1.0 d.1.1 d.1.2.taken (among_busy m marks (name_at l d.1.0) a (sym d.1.2.name)) in
          (d.0, (d.1.0, d.1.1, record { taken = taken_still d.1.0 e d.1.2.taken; name = ap name_of e ∙ d.1.2.name }, d.1.3))

      up : (x : Transfer) (w i : ℕ) → w < 4 → i < 16 → marked o x w i ≡ true → Taken next i × Among (mark_at next x w i) marks
      up x w i p q e =
          let u = h.up x w i p q e in
          let b = f i q u.0 (among_busy _ marks (name_at l i) u.1 refl) in
          (taken_still i b u.0, subst (λ (n : Name). Among (record { name = n; warp = w; transfer = x }) marks) (sym (ap name_of b)) u.1)

  -- THE CLAIM
  pub tells_in : TellsIn o l marks
  tells_in = record { busy = busy; begins = λ live m n s e x w p. begins x w p live m n s e; waits = waits; releases = λ n e. release_none n marks e; stays = stays }
