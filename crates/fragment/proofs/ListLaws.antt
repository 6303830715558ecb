-- Laws of lists that go by the numbers from 0 on: an entry, and a search that only one passes. Assumes nothing.
use Prim.Native.Nat.{ℕ, zero, suc, ◌+◌, ◌≤◌, ◌<◌}
use native.Mathlib.Omega.{arith}
use native.Mathlib.Decide.{dec_le}
use mathlib.Core.Path.{◌≡◌, refl, ap, ◌∙◌}
use mathlib.Core.Bool.{Bool, true, false, cond}
use mathlib.Core.List.{List, [], ◌∷◌, map}
use Rattle.std.specs.Prelude.{Option, Some}
use mathlib.Core.Logic.{◌⊎◌, inl, inr}
use lib.ListN.{get_or, length}
use Rattle.std.specs.Prelude.{find}
use Rattle.laws.proofs.BoolLaws.{clash, bool}
use Rattle.fragment.specs.Fragment.{count_from}

-- ---- an entry
pub at_map : {A B : Type 0} (f : A → B) (xs : List A) (k : ℕ) (a : A) (b : B) → k < length xs → get_or (map f xs) k b ≡ f (get_or xs k a)
at_map f [] k a b l = absurd (omega arith)
at_map f (x ∷ xs) zero a b l = refl
at_map f (x ∷ xs) (suc k) a b l = at_map f xs k a b (omega arith)

pub at_from : (n a k : ℕ) → k < n → get_or (count_from a n) k 0 ≡ a + k
at_from zero a k l = absurd (omega arith)
at_from (suc n) a zero l = omega arith
at_from (suc n) a (suc k) l = at_from n (suc a) k (omega arith) ∙ omega arith

pub count_from_lem : (n a : ℕ) → length (count_from a n) ≡ n
count_from_lem zero a = refl
count_from_lem (suc n) a = ap suc (count_from_lem n (suc a))

-- ---- a search finds the only one
find_from : {A : Type 0} (test : A → Bool) (f : ℕ → A) (n a k : ℕ) → a ≤ k → k < a + n → test (f k) ≡ true
    → ((j : ℕ) → j < a + n → test (f j) ≡ true → j ≡ k) → find test (map f (count_from a n)) ≡ Some (f k)
find_from test f zero a k g l t only = absurd (omega (arith, g, l))
find_from {A = A} test f (suc n) a k g l t only =
    here (bool (test (f a))) (λ later. find_from test f n (suc a) k later (omega (arith, l)) t (λ j b. only j (omega (arith, b))))
  where
    rest : Option A
    rest = find test (map f (count_from (suc a) n))

    later : test (f a) ≡ false → Dec (k ≤ a) → suc a ≤ k
    later y (yes q) = let e : k ≡ a = omega (arith, g, q) in absurd (clash t (ap (λ x. test (f x)) e ∙ y))
    later y (no q) = omega arith

    here : (test (f a) ≡ true) ⊎ (test (f a) ≡ false) → (suc a ≤ k → rest ≡ Some (f k)) → cond (test (f a)) (Some (f a)) rest ≡ Some (f k)
    here (inl y) i = rw y (ap (λ x. Some (f x)) (only a (omega arith) y))
    here (inr y) i = rw y (i (later y (dec_le k a)))

pub find-only : {A : Type 0} (test : A → Bool) (f : ℕ → A) (n k : ℕ) → k < n → test (f k) ≡ true
    → ((j : ℕ) → j < n → test (f j) ≡ true → j ≡ k) → find test (map f (count_from 0 n)) ≡ Some (f k)
find-only test f n k l t only = find_from test f n 0 k (omega arith) (omega (arith, l)) t (λ j b. only j (omega (arith, b)))
