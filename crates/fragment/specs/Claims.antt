-- What is claimed of the fragments beyond what each function does; proofs/Exact.antt has the proofs. Assumes nothing.
use Rattle.std.specs.Prelude.{ℕ, ◌+◌, ◌*◌, ◌<◌, ◌≡◌, true, List, get_or, length, Some}
use Rattle.fragment.specs.Fragment.{matrix_of, threads, elements, place, holder, place_of, table_of, origin, in_warp, in_matrix, place_found, holder_found, place_read, holder_read}
use Rattle.fragment.specs.declared.Matrix.{Matrix}
use Rattle.fragment.specs.declared.Place.{Place}
use Rattle.fragment.specs.declared.Holder.{Holder}

-- A place stands at exactly one entry of a table.
pub record Once (table : List Place) (p : Place) : Type 0 where
  pub entry : ℕ
  pub inside : entry < length table
  pub stands : get_or table entry origin ≡ p
  pub only : (k : ℕ) → k < length table → get_or table k origin ≡ p → k ≡ entry

-- The table of a matrix. The code's constant is this table, each place as a number (`packed`, the contract of `entry`).
pub record TableExact (m : Matrix) : Type 0 where
  -- so many entries, one for each element of each thread
  pub size : length (table_of m) ≡ threads * elements m
  -- by thread, then by element, each entry is the rule's
  pub rule : (h : Holder) → in_warp m h ≡ true → get_or (table_of m) (h.thread * elements m + h.element) origin ≡ place_of m h
  -- no entry lies outside the matrix
  pub inside : (k : ℕ) → k < length (table_of m) → in_matrix m (get_or (table_of m) k origin) ≡ true
  -- every place of the matrix is met exactly once
  pub once : (p : Place) → in_matrix m p ≡ true → Once (table_of m) p

-- In the matrix of a number each way undoes the other.
pub record BothWays (n : ℕ) : Type 0 where
  -- the place of a thread's element is held by that thread, as that element
  pub back : (t i : ℕ) (p : Place) → place_read n t i ≡ place_found p → holder_read n p.row p.column ≡ holder_found (holder t i)
  -- the holder of a row and column has its place there
  pub out : (r c : ℕ) (h : Holder) → holder_read n r c ≡ holder_found h → place_read n h.thread h.element ≡ place_found (place r c)
  -- every element of the warp has a place, and every place of the matrix a holder
  pub all_placed : (m : Matrix) (t i : ℕ) → matrix_of n ≡ Some m → in_warp m (holder t i) ≡ true → (place_read n t i).reason ≡ 0
  pub all_held : (m : Matrix) (r c : ℕ) → matrix_of n ≡ Some m → in_matrix m (place r c) ≡ true → (holder_read n r c).reason ≡ 0

-- For each of the three matrices, and for every number.
pub record FragmentsExact : Type 0 where
  pub tables : (m : Matrix) → TableExact m
  pub ways : (n : ℕ) → BothWays n
