-- Worked examples: the sizes of the tables, elements of each matrix by hand, and both sides of each limit, so that a wrong figure in a definition is seen here. Assumes nothing.
use Rattle.std.specs.Prelude.{ℕ, List, [], ◌∷◌, length}
use Rattle.laws.specs.Worked.{Gives}
use Rattle.fragment.specs.Fragment.{table_of, place_read, holder_read}
use Rattle.fragment.specs.declared.Matrix.{Matrix}

abbrev pub Three : Type 0
Three = ℕ × ℕ × ℕ

-- a matrix, a thread and an element; the reason, the row and the column
abbrev pub place : Three → Three
place x = let a = place_read x.0 x.1 x.2 in (a.reason, a.place.row, a.place.column)

abbrev pub rows_by_thread : List (Three × Three)
rows_by_thread =
    ((0, 0, 0), (0, 0, 0))
    ∷ ((0, 0, 7), (0, 8, 9))
    ∷ ((0, 3, 2), (0, 8, 6))
    ∷ ((0, 4, 4), (0, 1, 8))
    ∷ ((0, 5, 3), (0, 9, 3))
    ∷ ((0, 18, 6), (0, 12, 12))
    ∷ ((0, 31, 1), (0, 7, 7))
    ∷ ((0, 31, 5), (0, 7, 15))
    ∷ ((0, 31, 7), (0, 15, 15))
    ∷ ((0, 31, 8), (22, 0, 0))
    ∷ ((0, 32, 7), (22, 0, 0))
    ∷ ((1, 0, 0), (0, 0, 0))
    ∷ ((1, 0, 3), (0, 9, 0))
    ∷ ((1, 5, 1), (0, 3, 1))
    ∷ ((1, 6, 2), (0, 12, 1))
    ∷ ((1, 31, 0), (0, 6, 7))
    ∷ ((1, 31, 3), (0, 15, 7))
    ∷ ((1, 31, 4), (22, 0, 0))
    ∷ ((1, 32, 3), (22, 0, 0))
    ∷ ((2, 0, 0), (0, 0, 0))
    ∷ ((2, 0, 2), (0, 8, 0))
    ∷ ((2, 5, 3), (0, 9, 3))
    ∷ ((2, 30, 1), (0, 7, 5))
    ∷ ((2, 31, 3), (0, 15, 7))
    ∷ ((2, 31, 4), (22, 0, 0))
    ∷ ((2, 32, 3), (22, 0, 0))
    ∷ ((3, 0, 0), (22, 0, 0))
    ∷ []

-- a matrix, a row and a column; the reason, the thread and the element
abbrev pub holder : Three → Three
holder x = let a = holder_read x.0 x.1 x.2 in (a.reason, a.holder.thread, a.holder.element)

abbrev pub rows_by_place : List (Three × Three)
rows_by_place =
    ((0, 0, 0), (0, 0, 0))
    ∷ ((0, 8, 9), (0, 0, 7))
    ∷ ((0, 5, 3), (0, 21, 1))
    ∷ ((0, 15, 15), (0, 31, 7))
    ∷ ((0, 15, 16), (22, 0, 0))
    ∷ ((0, 16, 15), (22, 0, 0))
    ∷ ((1, 9, 0), (0, 0, 3))
    ∷ ((1, 12, 1), (0, 6, 2))
    ∷ ((1, 15, 7), (0, 31, 3))
    ∷ ((1, 15, 8), (22, 0, 0))
    ∷ ((1, 16, 7), (22, 0, 0))
    ∷ ((2, 8, 0), (0, 0, 2))
    ∷ ((2, 7, 5), (0, 30, 1))
    ∷ ((2, 15, 7), (0, 31, 3))
    ∷ ((2, 15, 8), (22, 0, 0))
    ∷ ((2, 16, 7), (22, 0, 0))
    ∷ ((3, 0, 0), (22, 0, 0))
    ∷ []

pub record Worked : Type 0 where
  pub sizes : Gives (λ m. length (table_of m)) ((Matrix.A, 256) ∷ (Matrix.B, 128) ∷ (Matrix.C, 128) ∷ [])
  pub by_thread : Gives place rows_by_thread
  pub by_place : Gives holder rows_by_place
