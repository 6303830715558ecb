-- What is taken out of the live allocations, and how many starts a request is given. Assumes nothing.
use Prim.Native.Nat.{ℕ, ◌+◌}
use mathlib.Core.Path.{◌≡◌, refl}
use mathlib.Core.Bool.{Bool, true, false, cond}
use mathlib.Core.List.{List, [], ◌∷◌}
use mathlib.Core.Option.{Option, none, some}
use native.Mathlib.Omega.{arith}
use lib.ListN.{length}
use Rattle.laws.specs.Tests.{bit, is_some}
use Rattle.tokens.specs.declared.Name.{Name}
use Rattle.tokens.specs.Names.{same_name}
use Rattle.rules.specs.State.{Allocation, columns_of, without, total}
use Rattle.rules.specs.Sheet.{start_list}

-- taking out an allocation takes its columns
pub total-without : (n : Name) (l : List Allocation) → total (without n l) + columns_of n l ≡ total l
unfolding total without columns_of
total-without n [] = refl
total-without n (a ∷ l) = at (same_name a.name n) (total-without n l)
  where
    at : (t : Bool) → total (without n l) + columns_of n l ≡ total l → total (cond t l (a ∷ without n l)) + cond t a.columns (columns_of n l) ≡ a.columns + total l
    at true ih = omega arith
    at false ih = omega arith

-- one start where there is a place, or none
pub one-start : (o : Option ℕ) → length (start_list o) ≡ bit (is_some o)
one-start none = refl
one-start (some x) = refl
