-- Taking a word off the start of a text. Assumes nothing.
use Rattle.std.specs.Prelude.{ℕ, List, [], ◌∷◌, cond, eqb, Option, Some, None}
use Rattle.std.proofs.Common.{Bor}

-- what a text leaves after p; none, where it does not start with p
unfoldable pub without : List ℕ → List ℕ → Option (List ℕ)
without [] s = Some s
without (x ∷ p) [] = None
without (x ∷ p) (y ∷ s) = cond (eqb y x) (without p s) None

-- the text that a function returns, if any
abbrev pub left : Option (Bor (List ℕ)) → Option (List ℕ)
left None = None
left (Some w) = Some w.now
