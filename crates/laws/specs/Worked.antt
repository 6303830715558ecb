-- Worked examples as a table of cases with their answers. Assumes nothing.
use Rattle.std.specs.Prelude.{◌≡◌, List, map}

-- a function gives each case its answer
abbrev pub Gives : {A B : Type 0} → (A → B) → List (A × B) → Type 0
Gives f rows = map (λ row. f row.0) rows ≡ map (λ row. row.1) rows
