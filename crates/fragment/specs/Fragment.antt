-- The fragments of the warp-level `mma.m16n8k16` on f16 (docs/FORMAT.md, 'Fragments'): which thread holds which element of the matrices A, B and C.
-- Assumes nothing.
use Rattle.std.specs.Prelude.{ℕ, zero, suc, ◌+◌, ◌*◌, ◌/◌, ◌%◌, Bool, ◌&&◌, cond, List, [], ◌∷◌, map, eqb, ltb, leb, find, Option, None, Some, Result, Ok, Err}
use Rattle.laws.specs.Tests.{among}
use Rattle.reasons.specs.declared.Reason.{Reason}
use Rattle.reasons.specs.Reasons.{number}
use Rattle.fragment.specs.declared.Matrix.{Matrix}
use Rattle.fragment.specs.declared.Place.{Place}
use Rattle.fragment.specs.declared.Holder.{Holder}

-- the matrices by number: A 0, B 1, C 2
abbrev pub matrix_number : Matrix → ℕ
matrix_number Matrix.A = 0
matrix_number Matrix.B = 1
matrix_number Matrix.C = 2

abbrev pub matrix_of : ℕ → Option Matrix
matrix_of n = find (λ m. eqb n (matrix_number m)) (Matrix.A ∷ Matrix.B ∷ Matrix.C ∷ [])

-- A is 16 by 16; B, whose rows are k, and C are 16 by 8.
abbrev pub rows : ℕ
rows = 16

abbrev pub columns : Matrix → ℕ
columns Matrix.A = 16
columns Matrix.B = 8
columns Matrix.C = 8

-- Each of a warp's 32 threads holds 8 elements of A, 4 of B and 4 of C.
abbrev pub threads : ℕ
threads = 32

abbrev pub elements : Matrix → ℕ
elements Matrix.A = 8
elements Matrix.B = 4
elements Matrix.C = 4

abbrev pub place : ℕ → ℕ → Place
place r c = record { row = r; column = c }

abbrev pub holder : ℕ → ℕ → Holder
holder t i = record { thread = t; element = i }

-- g and p, the quotient and the remainder of a thread by 4: its group, and its number in the group
abbrev pub group : ℕ → ℕ
group t = t / 4

abbrev pub in_group : ℕ → ℕ
in_group t = t % 4

-- 2p + (i mod 2): the place along a group, two elements to a thread
abbrev pub along : ℕ → ℕ → ℕ
along t i = 2 * in_group t + i % 2

-- the row. A: g for elements 0, 1, 4 and 5, else g + 8. B: along the group, 8 more from element 2 on. C: g for elements 0 and 1, else g + 8.
abbrev pub row_of : Matrix → ℕ → ℕ → ℕ
row_of Matrix.A t i = cond (among i (0 ∷ 1 ∷ 4 ∷ 5 ∷ [])) (group t) (group t + 8)
row_of Matrix.B t i = cond (leb 2 i) (along t i + 8) (along t i)
row_of Matrix.C t i = cond (among i (0 ∷ 1 ∷ [])) (group t) (group t + 8)

-- the column. A: along the group, 8 more from element 4 on. B: g. C: along the group.
abbrev pub column_of : Matrix → ℕ → ℕ → ℕ
column_of Matrix.A t i = cond (leb 4 i) (along t i + 8) (along t i)
column_of Matrix.B t i = group t
column_of Matrix.C t i = along t i

-- the rule: where a thread's element stands
abbrev pub place_of : Matrix → Holder → Place
place_of m h = place (row_of m h.thread h.element) (column_of m h.thread h.element)

-- n numbers from a on
abbrev pub count_from : ℕ → ℕ → List ℕ
count_from a zero = []
count_from a (suc n) = a ∷ count_from (suc a) n

-- the entries of a table go by thread, then by element
abbrev pub entry_of : Matrix → ℕ → Holder
entry_of m k = holder (k / elements m) (k % elements m)

abbrev pub holders : Matrix → List Holder
holders m = map (entry_of m) (count_from 0 (threads * elements m))

-- the table of a matrix: the place of each
unfoldable pub table_of : Matrix → List Place
table_of m = map (place_of m) (holders m)

abbrev pub origin : Place
origin = place 0 0

-- a place as the code's tables have it: two hexadecimal digits
abbrev pub packed : Place → ℕ
packed p = p.row * 16 + p.column

-- two places are one
abbrev pub same_place : Place → Place → Bool
same_place p q = eqb p.row q.row && eqb p.column q.column

-- the reverse: the one whose place it is
unfoldable pub holder_of : Matrix → Place → Option Holder
holder_of m p = find (λ h. same_place (place_of m h) p) (holders m)

-- a thread up to 31 and an element up to the thread's last; a row and a column of the matrix
abbrev pub in_warp : Matrix → Holder → Bool
in_warp m h = ltb h.thread threads && ltb h.element (elements m)

abbrev pub in_matrix : Matrix → Place → Bool
in_matrix m p = ltb p.row rows && ltb p.column (columns m)

-- 0 and the place, or 22 and zeros
pub record PlaceRead : Type 0 where
  pub reason : ℕ
  pub place : Place

-- 0 and the holder, or 22 and zeros
pub record HolderRead : Type 0 where
  pub reason : ℕ
  pub holder : Holder

-- Answers: 0 with the place or the holder, or 22 with zeros.
abbrev pub place_found : Place → PlaceRead
place_found p = record { reason = 0; place = p }

abbrev pub no_place : PlaceRead
no_place = record { reason = 22; place = origin }

abbrev pub holder_found : Holder → HolderRead
holder_found h = record { reason = 0; holder = h }

abbrev pub no_holder : HolderRead
no_holder = record { reason = 22; holder = holder 0 0 }

-- the place of a thread's element in the matrix of a number
abbrev pub place_in : Option Matrix → Holder → PlaceRead
place_in None h = no_place
place_in (Some m) h = cond (in_warp m h) (place_found (place_of m h)) no_place

unfoldable pub place_read : ℕ → ℕ → ℕ → PlaceRead
place_read n t i = place_in (matrix_of n) (holder t i)

-- who holds a row and column of the matrix of a number; a place of the matrix is never without a holder (`all_held` in Claims.antt)
abbrev pub held_by : Option Holder → HolderRead
held_by None = no_holder
held_by (Some h) = holder_found h

abbrev pub holder_in : Option Matrix → Place → HolderRead
holder_in None p = no_holder
holder_in (Some m) p = cond (in_matrix m p) (held_by (holder_of m p)) no_holder

unfoldable pub holder_read : ℕ → ℕ → ℕ → HolderRead
holder_read n r c = holder_in (matrix_of n) (place r c)

-- what an answer of the code stands for: the place or the holder with 0, or the reason with zeros
abbrev pub place_answer : Result Place Reason → PlaceRead
place_answer (Ok p) = place_found p
place_answer (Err r) = record { reason = number r; place = origin }

abbrev pub holder_answer : Result Holder Reason → HolderRead
holder_answer (Ok h) = holder_found h
holder_answer (Err r) = record { reason = number r; holder = holder 0 0 }

-- a place and a holder as two numbers
abbrev pub place_numbers : Place → List ℕ
place_numbers p = p.row ∷ p.column ∷ []

abbrev pub holder_numbers : Holder → List ℕ
holder_numbers h = h.thread ∷ h.element ∷ []

-- for the code: the holder by the side that goes by groups, the side along a group, and which of a thread's pairs it is in
abbrev pub held_at : ℕ → ℕ → ℕ → Holder
held_at across along pair = holder (across % 8 * 4 + along % 8 / 2) (pair * 2 + along % 2)
