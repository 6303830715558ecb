-- Laws of a list of tests, of a search, and of a test that is computed for every number below a bound. Assumes nothing.
use Prim.Native.Nat.{ℕ, zero, suc, ◌≤◌, ◌<◌}
use native.Mathlib.Omega.{arith}
use native.Mathlib.Decide.{dec_le}
use mathlib.Core.Path.{◌≡◌, refl, sym, subst}
use mathlib.Core.Bool.{Bool, true, false, ◌&&◌, ◌||◌, cond, beq}
use mathlib.Core.List.{List, [], ◌∷◌}
use mathlib.Core.Option.{Option, some, some-injective, none-ne-some}
use Rattle.laws.specs.Tests.{all, all_from, find, bit, is_some}
use Rattle.laws.proofs.BoolLaws.{and_split, and-join, beq_is}

pub bit_le : (b : Bool) → bit b ≤ 1
bit_le true = omega arith
bit_le false = omega arith

-- every test of the list holds
abbrev pub Each : List Bool → Type 0
Each [] = Unit
Each (b ∷ bs) = (b ≡ true) × Each bs

from : (t : Bool) (bs : List Bool) → all_from t bs ≡ true → (t ≡ true) × Each bs
from t [] h = (h, tt)
from t (b ∷ bs) h =
    let r : ((t && b) ≡ true) × Each bs = from (t && b) bs h in
    let s : (t ≡ true) × (b ≡ true) = and_split t b r.0 in
    (s.0, (s.1, r.1))

pub each : (bs : List Bool) → all bs ≡ true → Each bs
each [] h = tt
each (b ∷ bs) h = from b bs h

join : (t : Bool) (bs : List Bool) → t ≡ true → Each bs → all_from t bs ≡ true
join t [] p e = p
join t (b ∷ bs) p e = join (t && b) bs (and-join t b p e.0) e.1

pub all_of : (bs : List Bool) → Each bs → all bs ≡ true
all_of [] e = refl
all_of (b ∷ bs) e = join b bs e.0 e.1

-- what a search finds passes the test
first_passes : {A : Type 0} (test : A → Bool) (y x : A) (o : Option A) (b : Bool)
    → test y ≡ b → (o ≡ some x → test x ≡ true) → cond b (some y) o ≡ some x → test x ≡ true
first_passes test y x o true p k e = subst (λ z. test z ≡ true) (some-injective y x e) p
first_passes test y x o false p k e = k e

pub find-passes : {A : Type 0} (test : A → Bool) (xs : List A) (x : A) → find test xs ≡ some x → test x ≡ true
find-passes test [] x e = absurd (none-ne-some x e)
find-passes test (y ∷ ys) x e = first_passes test y x (find test ys) (test y) refl (find-passes test ys x) e

-- a failed test fails all
pub never_all : (bs : List Bool) → all_from false bs ≡ false
never_all [] = refl
never_all (b ∷ bs) = never_all bs

-- some element passes a test, joined from the left
abbrev pub any_from : {A : Type 0} → Bool → (A → Bool) → List A → Bool
any_from t test [] = t
any_from t test (x ∷ xs) = any_from (t || test x) test xs

abbrev pub any : {A : Type 0} → (A → Bool) → List A → Bool
any test [] = false
any test (x ∷ xs) = any_from (test x) test xs

any_true : {A : Type 0} (test : A → Bool) (xs : List A) → any_from true test xs ≡ true
any_true test [] = refl
any_true test (x ∷ xs) = any_true test xs

-- a search finds something where some element passes
first_some : {A : Type 0} (test : A → Bool) (xs : List A) (y : A) (b : Bool) → is_some (cond b (some y) (find test xs)) ≡ any_from b test xs
first_some test [] y true = refl
first_some test [] y false = refl
first_some test (x ∷ xs) y true = sym (any_true test xs)
first_some test (x ∷ xs) y false = first_some test xs x (test x)

pub find_any : {A : Type 0} (test : A → Bool) (xs : List A) → is_some (find test xs) ≡ any test xs
find_any test [] = refl
find_any test (x ∷ xs) = first_some test xs x (test x)

-- ---- a test of every number below a bound: what is computed holds of each
abbrev pub below : ℕ → (ℕ → Bool) → Bool
below zero f = true
below (suc n) f = f n && below n f

pub below-is : (n : ℕ) (f : ℕ → Bool) → below n f ≡ true → (x : ℕ) → x < n → f x ≡ true
below-is zero f h x g = absurd (omega arith)
below-is (suc n) f h x g = let p = and_split (f n) (below n f) h in go (dec_le n x) p.0 (below-is n f p.1 x)
  where
    go : Dec (n ≤ x) → f n ≡ true → (x < n → f x ≡ true) → f x ≡ true
    go (yes q) h i = let e : x ≡ n = omega arith in rw e h
    go (no q) h i = i (omega arith)

-- two tests that agree there are the same at each
abbrev pub agree_below : ℕ → (ℕ → Bool) → (ℕ → Bool) → Bool
agree_below n f g = below n (λ x. beq (f x) (g x))

pub agree_below_lem : (n : ℕ) (f g : ℕ → Bool) → agree_below n f g ≡ true → (x : ℕ) → x < n → f x ≡ g x
agree_below_lem n f g h x l = beq_is (f x) (g x) (below-is n (λ y. beq (f y) (g y)) h x l)
