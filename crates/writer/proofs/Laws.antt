-- Laws of tests of all bytes. Assumes nothing.
use Rattle.std.proofs.Common.{◌≡◌, ℕ, List, [], ◌∷◌, ◌++◌, Bool, ◌&&◌, refl}
use Rattle.std.specs.List.{list_all}
use mathlib.Core.Bool.{and_assoc}
use Rattle.tokens.specs.Bytes.{all}

pub all_append : (f : ℕ → Bool) (l m : List ℕ) → all f (l ++ m) ≡ (all f l && all f m)
all_append f [] m = refl
all_append f (x ∷ l) m = rw (all_append f l m, and_assoc (f x) (all f l) (all f m))

-- the library's word for it
pub all_is : (f : ℕ → Bool) (l : List ℕ) → list_all f l ≡ all f l
all_is f [] = refl
all_is f (x ∷ l) = rw (all_is f l)
