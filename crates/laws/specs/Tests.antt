-- Tests joined from the left, as the code's `&` and `|` join them; a test as a number; a search. Assumes nothing.
use Rattle.std.specs.Prelude.{ℕ, Bool, true, false, ◌&&◌, ◌||◌, cond, List, [], ◌∷◌, eqb}
use Rattle.std.proofs.Math.Option.{Option, none, some}

abbrev pub all_from : Bool → List Bool → Bool
all_from t [] = t
all_from t (b ∷ bs) = all_from (t && b) bs

-- every test holds: a & b & c
abbrev pub all : List Bool → Bool
all [] = true
all (b ∷ bs) = all_from b bs

abbrev pub among_from : Bool → ℕ → List ℕ → Bool
among_from t x [] = t
among_from t x (y ∷ ys) = among_from (t || eqb x y) x ys

-- a number is one of a list: x == a | x == b | x == c
abbrev pub among : ℕ → List ℕ → Bool
among x [] = false
among x (y ∷ ys) = among_from (eqb x y) x ys

-- the first of a list that passes a test
abbrev pub find : {A : Type 0} → (A → Bool) → List A → Option A
find test [] = none
find test (x ∷ xs) = cond (test x) (some x) (find test xs)

-- a test as a number
abbrev pub bit : Bool → ℕ
bit true = 1
bit false = 0

-- something was found
abbrev pub is_some : {A : Type 0} → Option A → Bool
is_some none = false
is_some (some x) = true
