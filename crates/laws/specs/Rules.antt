-- Rules as an ordered list: the order is the list's, and each rule has the number that it is published under. Assumes nothing.
use Rattle.std.specs.Prelude.{ℕ, Bool, cond, List, [], ◌∷◌}

-- the number of a rule, and whether it is kept
pub data Rule : Type 0 where
  rule : (number : ℕ) → (kept : Bool) → Rule

-- the number of the first rule that is broken, or 0
abbrev pub first_broken : List Rule → ℕ
first_broken [] = 0
first_broken (rule number kept ∷ rs) = cond kept (first_broken rs) number
