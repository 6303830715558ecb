-- Lists of allocations: which columns they cover, what a name has among them, and what is left once the one of a name is taken out. Assumes nothing.
use Prim.Native.Nat.{ℕ, ◌+◌, ◌≤◌, ◌<◌}
use mathlib.Core.Path.{◌≡◌, refl, sym, ap, ◌∙◌}
use mathlib.Core.Bool.{Bool, true, false, not, cond}
use mathlib.Core.List.{List, [], ◌∷◌}
use mathlib.Core.Logic.{◌⊎◌, inl, inr}
use lib.Dec.{leb, ltb}
use borrow.Author.Tests.{ltb-true, lt-ltb, leb-true, le-leb, not-false}
use Rattle.laws.specs.Lists.{Among}
use Rattle.laws.proofs.BoolLaws.{clash, and_split, and_cases, and_left_false, and_right_false, or_cases, or_left, or_right, or_neither}
use Rattle.tokens.specs.declared.Name.{Name}
use Rattle.tokens.specs.Names.{same_name}
use Rattle.rules.specs.State as rules
use Rattle.rules.specs.State.{Allocation, covers, is_free, free_from}
use Rattle.rules.specs.Claims.{Unique}
use Rattle.tokens.proofs.Names.{same_true, same_name_lem, other_name}

-- ---- lists of allocations
pub among-taken : (a : Allocation) (l : List Allocation) (c : ℕ) → Among a l → covers a c ≡ true → is_free l c ≡ false
unfolding is_free
among-taken a [] c m e = absurd m
among-taken a (b ∷ l) c (inl q) e = let z : covers b c ≡ true = rw q at e in and_left_false (not (covers b c)) (is_free l c) (ap not z)
among-taken a (b ∷ l) c (inr m) e = and_right_false (not (covers b c)) (is_free l c) (among-taken a l c m e)

pub taken-among : (l : List Allocation) (c : ℕ) → is_free l c ≡ false → (a : Allocation) × Among a l × (covers a c ≡ true)
unfolding is_free
taken-among [] c e = absurd (clash refl e)
taken-among (b ∷ l) c e = at (and_cases (not (covers b c)) (is_free l c) e) (taken-among l c)
  where
    at : (not (covers b c) ≡ false) ⊎ (is_free l c ≡ false) → (is_free l c ≡ false → (a : Allocation) × Among a l × (covers a c ≡ true))
        → (a : Allocation) × Among a (b ∷ l) × (covers a c ≡ true)
    at (inl e) ih = (b, inl refl, not-false (covers b c) e)
    at (inr e) ih = let r = ih e in (r.0, inr r.1, r.2)

pub covers_in : (a : Allocation) (c : ℕ) → a.start ≤ c → c < a.start + a.columns → covers a c ≡ true
unfolding covers
covers_in a c p q = rw (le-leb a.start c p, lt-ltb c (a.start + a.columns) q)

pub covers_out : (a : Allocation) (c : ℕ) → covers a c ≡ true → (a.start ≤ c) × (c < a.start + a.columns)
unfolding covers
covers_out a c e =
    let t : (leb a.start c ≡ true) × (ltb c (a.start + a.columns) ≡ true) = and_split (leb a.start c) (ltb c (a.start + a.columns)) e in
    (leb-true a.start c t.0, ltb-true c (a.start + a.columns) t.1)

pub among_live : (a : Allocation) (l : List Allocation) (n : Name) → Among a l → a.name ≡ n → rules.is_live n l ≡ true
unfolding rules.is_live
among_live a [] n m e = absurd m
among_live a (b ∷ l) n (inl q) e = or_left (same_name b.name n) (rules.is_live n l) (same_name_lem b.name n (sym (ap (λ (z : Allocation). z.name) q) ∙ e))
among_live a (b ∷ l) n (inr m) e = or_right (same_name b.name n) (rules.is_live n l) (among_live a l n m e)

pub live_among : (l : List Allocation) (n : Name) → rules.is_live n l ≡ true → (a : Allocation) × Among a l × (a.name ≡ n)
unfolding rules.is_live
live_among [] n e = absurd (clash e refl)
live_among (b ∷ l) n e = at (or_cases (same_name b.name n) (rules.is_live n l) e) (live_among l n)
  where
    at : (same_name b.name n ≡ true) ⊎ (rules.is_live n l ≡ true) → (rules.is_live n l ≡ true → (a : Allocation) × Among a l × (a.name ≡ n))
        → (a : Allocation) × Among a (b ∷ l) × (a.name ≡ n)
    at (inl e) ih = (b, inl refl, same_true b.name n e)
    at (inr e) ih = let r = ih e in (r.0, inr r.1, r.2)

pub columns_of_lem : (a : Allocation) (l : List Allocation) (n : Name) → Unique l → Among a l → a.name ≡ n → rules.columns_of n l ≡ a.columns
unfolding rules.columns_of
columns_of_lem a [] n u m e = absurd m
columns_of_lem a (b ∷ l) n u (inl q) e = rw (same_name_lem b.name n (sym (ap (λ (z : Allocation). z.name) q) ∙ e)) (sym (ap (λ (z : Allocation). z.columns) q))
columns_of_lem a (b ∷ l) n u (inr m) e =
    rw (other_name b.name n (λ z. clash (among_live a l b.name m (e ∙ sym z)) u.0)) (columns_of_lem a l n u.1 m e)

pub columns-none : (l : List Allocation) (n : Name) → rules.is_live n l ≡ false → rules.columns_of n l ≡ 0
unfolding rules.columns_of rules.is_live
columns-none [] n e = refl
columns-none (b ∷ l) n e =
    let t : (same_name b.name n ≡ false) × (rules.is_live n l ≡ false) = or_neither (same_name b.name n) (rules.is_live n l) e in
    rw t.0 (columns-none l n t.1)

pub unique_same : (a b : Allocation) (l : List Allocation) → Unique l → Among a l → Among b l → a.name ≡ b.name → a ≡ b
unique_same a b [] u m k e = absurd m
unique_same a b (x ∷ l) u (inl m) (inl k) e = m ∙ sym k
unique_same a b (x ∷ l) u (inl m) (inr k) e = absurd (clash (among_live b l x.name k (sym e ∙ ap (λ (z : Allocation). z.name) m)) u.0)
unique_same a b (x ∷ l) u (inr m) (inl k) e = absurd (clash (among_live a l x.name m (e ∙ ap (λ (z : Allocation). z.name) k)) u.0)
unique_same a b (x ∷ l) u (inr m) (inr k) e = unique_same a b l u.1 m k e

-- ---- taking out the allocation of a name
pub among-without : (n : Name) (a : Allocation) (l : List Allocation) → Among a (rules.without n l) → Among a l
unfolding rules.without
among-without n a [] m = m
among-without n a (b ∷ l) m = at (same_name b.name n) m (among-without n a l)
  where
    at : (t : Bool) → Among a (cond t l (b ∷ rules.without n l)) → (Among a (rules.without n l) → Among a l) → Among a (b ∷ l)
    at true m ih = inr m
    at false (inl q) ih = inl q
    at false (inr m) ih = inr (ih m)

pub gone : (n : Name) (a : Allocation) (l : List Allocation) → Unique l → Among a (rules.without n l) → a.name ≡ n → ⊥
unfolding rules.without
gone n a [] u m e = m
gone n a (b ∷ l) u m e = at (same_name b.name n) refl m (gone n a l u.1)
  where
    at : (t : Bool) → same_name b.name n ≡ t → Among a (cond t l (b ∷ rules.without n l)) → (Among a (rules.without n l) → a.name ≡ n → ⊥) → ⊥
    at true f m ih = clash (among_live a l b.name m (e ∙ sym (same_true b.name n f))) u.0
    at false f (inl q) ih = clash (same_name_lem b.name n (sym (ap (λ (z : Allocation). z.name) q) ∙ e)) f
    at false f (inr m) ih = ih m e

pub stays : (n : Name) (a : Allocation) (l : List Allocation) → Among a l → (a.name ≡ n → ⊥) → Among a (rules.without n l)
unfolding rules.without
stays n a [] m e = m
stays n a (b ∷ l) m e = at (same_name b.name n) refl m (stays n a l)
  where
    at : (t : Bool) → same_name b.name n ≡ t → Among a (b ∷ l) → (Among a l → (a.name ≡ n → ⊥) → Among a (rules.without n l))
        → Among a (cond t l (b ∷ rules.without n l))
    at true f (inl q) ih = absurd (e (ap (λ (z : Allocation). z.name) q ∙ same_true b.name n f))
    at true f (inr m) ih = m
    at false f (inl q) ih = inl q
    at false f (inr m) ih = inr (ih m e)
