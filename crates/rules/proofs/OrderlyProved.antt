-- Over accepted lines no name has two live allocations, a name is never both a value and a live allocation, and there are at most 128 value names: `mov` and `alloc` are asked for it by
-- rules 6 and 7, and no other line adds a name. Assumes nothing.
use Prim.Native.Nat.{ℕ, zero, suc, ◌≤◌, ◌<◌}
use mathlib.Core.Path.{◌≡◌, refl, sym, ap, subst}
use mathlib.Core.Bool.{Bool, true, false, not, ◌&&◌, ◌||◌, cond, or-true}
use mathlib.Core.List.{List, [], ◌∷◌}
use mathlib.Core.Option.{Option, none, some}
use mathlib.Core.Logic.{◌⊎◌, inl, inr}
use native.Mathlib.Omega.{arith}
use lib.Dec.{ltb}
use lib.ListN.{length}
use borrow.Author.Tests.{not-true, ltb-true}
use Rattle.tokens.specs.declared.Name.{Name}
use Rattle.tokens.specs.Names.{same_name}
use Rattle.statement.specs.declared.Statement.{Statement}
use Rattle.statement.specs.Views as act
use Rattle.statement.specs.Views.{Act, act_of}
use Rattle.rules.specs.State.{State, Allocation, Binding, Placer, is_live, without, is_bound, bind}
use Rattle.rules.specs.Reasons.{room_for}
use Rattle.rules.specs.Sheet.{Line, Placing, line_rules, line_effect, effect, added, moved, held_after, state_by, rules_by}
use Rattle.rules.specs.Claims.{AllKept, Unique, Orderly}
use Rattle.tokens.proofs.Names.{same_true}
use Rattle.laws.proofs.BoolLaws.{and_l, and_r, or_cases, bool, clash}
use Rattle.rules.proofs.RuleLaws.{Accepted, accepted_line, binds-kept, requests-kept}

-- ---- the table of values
-- what is bound afterwards is the name, or was bound
bound_bind : (m : Name) (b : Binding) (l : List Binding) → is_bound m (bind b l) ≡ true → (same_name b.name m ≡ true) ⊎ (is_bound m l ≡ true)
unfolding is_bound bind
bound_bind m b [] e = or_cases (same_name b.name m) false e
bound_bind m b (c ∷ l) e = at (same_name c.name b.name) e (bound_bind m b l)
  where
    later : (same_name b.name m ≡ true) ⊎ (is_bound m l ≡ true) → (same_name b.name m ≡ true) ⊎ (same_name c.name m || is_bound m l ≡ true)
    later (inl z) = inl z
    later (inr z) = inr (rw z (or-true (same_name c.name m)))

    first : (same_name c.name m ≡ true) ⊎ (is_bound m (bind b l) ≡ true) → (is_bound m (bind b l) ≡ true → (same_name b.name m ≡ true) ⊎ (is_bound m l ≡ true))
        → (same_name b.name m ≡ true) ⊎ (same_name c.name m || is_bound m l ≡ true)
    first (inl z) ih = inr (rw z)
    first (inr z) ih = later (ih z)

    at : (t : Bool) → is_bound m (cond t (b ∷ l) (c ∷ bind b l)) ≡ true → (is_bound m (bind b l) ≡ true → (same_name b.name m ≡ true) ⊎ (is_bound m l ≡ true))
        → (same_name b.name m ≡ true) ⊎ (same_name c.name m || is_bound m l ≡ true)
    at true z ih = later (or_cases (same_name b.name m) (is_bound m l) z)
    at false z ih = first (or_cases (same_name c.name m) (is_bound m (bind b l)) z) ih

-- a bound name takes no new place
length-bind : (b : Binding) (l : List Binding) → length (bind b l) ≡ cond (is_bound b.name l) (length l) (suc (length l))
unfolding is_bound bind
length-bind b [] = refl
length-bind b (c ∷ l) = at (same_name c.name b.name) (is_bound b.name l) (length-bind b l)
  where
    at : (t u : Bool) → length (bind b l) ≡ cond u (length l) (suc (length l)) → length (cond t (b ∷ l) (c ∷ bind b l)) ≡ cond (t || u) (suc (length l)) (suc (suc (length l)))
    at true u ih = refl
    at false true ih = ap suc ih
    at false false ih = ap suc ih

few_bind : (b : Binding) (l : List Binding) → is_bound b.name l || ltb (length l) 128 ≡ true → length l ≤ 128 → length (bind b l) ≤ 128
few_bind b l e h = at (is_bound b.name l) (length-bind b l) e
  where
    at : (t : Bool) → length (bind b l) ≡ cond t (length l) (suc (length l)) → t || ltb (length l) 128 ≡ true → length (bind b l) ≤ 128
    at true z r = omega (arith, z, h)
    at false z r = omega (arith, z, ltb-true (length l) 128 r)

-- ---- the live allocations
live_without : (m n : Name) (l : List Allocation) → is_live m (without n l) ≡ true → is_live m l ≡ true
unfolding is_live without
live_without m n [] e = e
live_without m n (a ∷ l) e = at (same_name a.name n) e (live_without m n l)
  where
    first : (same_name a.name m ≡ true) ⊎ (is_live m (without n l) ≡ true) → (is_live m (without n l) ≡ true → is_live m l ≡ true) → same_name a.name m || is_live m l ≡ true
    first (inl z) ih = rw z
    first (inr z) ih = rw (ih z) (or-true (same_name a.name m))

    at : (t : Bool) → is_live m (cond t l (a ∷ without n l)) ≡ true → (is_live m (without n l) ≡ true → is_live m l ≡ true) → same_name a.name m || is_live m l ≡ true
    at true z ih = rw z (or-true (same_name a.name m))
    at false z ih = first (or_cases (same_name a.name m) (is_live m (without n l)) z) ih

-- what is taken out leaves each name once, and its own not at all
pub unique_without : (n : Name) (l : List Allocation) → Unique l → Unique (without n l)
unfolding without
unique_without n [] u = tt
unique_without n (b ∷ l) u =
    elim (same_name b.name n) as (λ t. Unique (cond t l (b ∷ without n l))) [
      | true ↦ u.1
      | false ↦ (still_none (bool (is_live b.name (without n l))), unique_without n l u.1)
    ]
  where
    still_none : (is_live b.name (without n l) ≡ true) ⊎ (is_live b.name (without n l) ≡ false) → is_live b.name (without n l) ≡ false
    still_none (inl e) = absurd (clash (live_without b.name n l e) u.0)
    still_none (inr e) = e

unique_added : (n : Name) (v : ℕ) (o : Option ℕ) (l : List Allocation) → is_live n l ≡ false → Unique l → Unique (added n v o l)
unique_added n v none l e u = u
unique_added n v (some x) l e u = (e, u)

live_added : (m n : Name) (v : ℕ) (o : Option ℕ) (l : List Allocation) → is_live m (added n v o l) ≡ true → (same_name n m ≡ true) ⊎ (is_live m l ≡ true)
unfolding is_live
live_added m n v none l e = inr e
live_added m n v (some x) l e = or_cases (same_name n m) (is_live m l) e

-- ---- one accepted line
mov_orderly : (s : State) (n : Name) (width v : ℕ) → not (is_live n s.live) ≡ true → room_for s n ≡ true → Orderly s → Orderly (moved s n width v)
mov_orderly s n width v p r o =
    let b : Binding = record { name = n; width = width; number = v } in
    record {
      once = o.once;
      few = few_bind b s.values r o.few;
      apart = λ m live bound. at m live (bound_bind m b s.values bound);
    }
  where
    at : (m : Name) → is_live m s.live ≡ true → (same_name n m ≡ true) ⊎ (is_bound m s.values ≡ true) → ⊥
    at m live (inl e) = clash (subst (λ k. is_live k s.live ≡ true) (sym (same_true n m e)) live) (not-true (is_live n s.live) p)
    at m live (inr e) = o.apart m live e

alloc_orderly : (s : State) (n : Name) (v : ℕ) (place : Placer) (w : ℕ) → not (is_live n s.live) && not (is_bound n s.values) ≡ true → Orderly s → Orderly (effect place s w (act.requests n v))
unfolding effect
alloc_orderly s n v place w p o = record {
  once = unique_added n v (place s.live v) s.live (not-true (is_live n s.live) (and_l (not (is_live n s.live)) (not (is_bound n s.values)) p)) o.once;
  few = o.few;
  apart = λ m live bound. at m bound (live_added m n v (place s.live v) s.live live);
}
  where
    at : (m : Name) → is_bound m s.values ≡ true → (same_name n m ≡ true) ⊎ (is_live m s.live ≡ true) → ⊥
    at m bound (inl e) = clash (subst (λ k. is_bound k s.values ≡ true) (sym (same_true n m e)) bound) (not-true (is_bound n s.values) (and_r (not (is_live n s.live)) (not (is_bound n s.values)) p))
    at m bound (inr e) = o.apart m e bound

orderly_step : (place : Placer) (s : State) (held : ℕ) (x : Line) → AllKept (line_rules place s held x) → Orderly s → Orderly (line_effect place s x)
unfolding effect
orderly_step place s held x h o = accepted_line place s held x h (λ x. Orderly (line_effect place s x)) (λ w t p a. at w t a (act_of t) refl)
  where
    at : (w : ℕ) (t : Statement) → Accepted place s held w t → (x : Act) → act_of t ≡ x → Orderly (effect place s w x)
    at w t a (act.binds n width v) e = let k = binds-kept place s held w t a n v width e in mov_orderly s n width v k.0 k.1 o
    at w t a (act.requests n v) e = alloc_orderly s n v place w (requests-kept place s held w t a n v e) o
    at w t a (act.releases n v) e = record { once = unique_without n s.live o.once; few = o.few; apart = λ m live bound. o.apart m (live_without m n s.live live) bound }
    at w t a act.relinquishes e = record { once = o.once; few = o.few; apart = o.apart }
    at w t a (act.accesses y x) e = record { once = o.once; few = o.few; apart = o.apart }
    at w t a (act.waits y) e = record { once = o.once; few = o.few; apart = o.apart }
    at w t a (act.multiplies m) e = o
    at w t a act.exits e = record { once = o.once; few = o.few; apart = o.apart }
    at w t a act.nothing e = o

-- after any number of accepted lines, under any placing
pub orderly : (placing : Placing) (line : ℕ → Line) (n : ℕ) → ((k : ℕ) → k < n → AllKept (rules_by placing line k)) → Orderly (state_by placing line n)
unfolding state_by is_live
orderly placing line zero h = record { once = tt; few = omega arith; apart = λ m live bound. clash live refl }
orderly placing line (suc n) h = orderly_step (placing n) (state_by placing line n) (held_after line n) (line n) (h n (omega arith)) (orderly placing line n (λ k p. h k (omega (arith, p))))
