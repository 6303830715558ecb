-- Runs of bytes that pass a test. Assumes nothing.
use Prim.Native.Nat.{ℕ, zero, suc, ◌+◌, ◌<◌, ◌≤◌}
use native.Mathlib.Numerals.{add-one, one-add}
use native.Mathlib.Nat.{add-zero, zero-add, suc-add}
use native.Mathlib.Omega.{arith}
use mathlib.Core.Path.{◌≡◌, refl, sym, ◌∙◌}
use mathlib.Core.List.{List, [], ◌∷◌, ◌++◌}
use mathlib.Core.Bool.{Bool, true, false, cond}
use lib.ListN.{length, get_or, take, drop, drop_of_length-le}
use lib.Seq.{drop-cons}
use Rattle.std.specs.List.{prefix_len}
use Rattle.laws.proofs.BoolLaws.{and_split}
use Rattle.tokens.specs.Bytes.{run_len, all}

-- a run by the byte at a position
module _ (f : ℕ → Bool) (s : List ℕ) (i : ℕ) where
  pub run_step : i < length s → f (get_or s i 0) ≡ true → run_len f (drop i s) ≡ suc (run_len f (drop (i + 1) s))
  run_step h e = rw (add-one, drop-cons s i 0 h, e)

  pub run_stop : i < length s → f (get_or s i 0) ≡ false → run_len f (drop i s) ≡ 0
  run_stop h e = rw (drop-cons s i 0 h, e)

  pub run_past : length s ≤ i → run_len f (drop i s) ≡ 0
  run_past h = rw (drop_of_length-le s h)

pub run_le : (f : ℕ → Bool) (l : List ℕ) → run_len f l ≤ length l
run_le f [] = omega arith
run_le f (x ∷ l) = by (f x) (run_le f l)
  where
    by : (b : Bool) → run_len f l ≤ length l → cond b (suc (run_len f l)) 0 ≤ suc (length l)
    by true h = omega arith
    by false h = omega arith

-- a run is what `take_while` gives
pub run_prefix : (f : ℕ → Bool) (l : List ℕ) → prefix_len f l ≡ run_len f l
run_prefix f [] = refl
run_prefix f (x ∷ l) = let e = run_prefix f l in rw (one-add, e) refl

-- after a run no byte passes
pub run_ends : (f : ℕ → Bool) (l : List ℕ) → run_len f (drop (run_len f l) l) ≡ 0
run_ends f [] = refl
run_ends f (x ∷ l) = go (f x) refl (run_ends f l)
  where
    go : (b : Bool) → f x ≡ b → run_len f (drop (run_len f l) l) ≡ 0 → run_len f (drop (cond b (suc (run_len f l)) 0) (x ∷ l)) ≡ 0
    go true e i = i
    go false e i = rw e

-- bytes that pass, before others, make the run of these longer
pub run_append : (f : ℕ → Bool) (u r : List ℕ) → all f u ≡ true → run_len f (u ++ r) ≡ length u + run_len f r
run_append f [] r h = sym (zero-add (run_len f r))
run_append f (x ∷ u) r h = let p = and_split (f x) (all f u) h in rw (p.0, run_append f u r p.1) (sym (suc-add (length u) (run_len f r)))

-- where none that passes follows, they are the run
pub run_all : (f : ℕ → Bool) (u r : List ℕ) → all f u ≡ true → run_len f r ≡ 0 → run_len f (u ++ r) ≡ length u
run_all f u r h e = run_append f u r h ∙ rw (e, add-zero (length u))

-- each byte of a run passes
pub all_run : (f : ℕ → Bool) (l : List ℕ) → all f (take (run_len f l) l) ≡ true
all_run f [] = refl
all_run f (x ∷ l) = by (f x) refl (all_run f l)
  where
    by : (b : Bool) → f x ≡ b → all f (take (run_len f l) l) ≡ true → all f (take (cond b (suc (run_len f l)) 0) (x ∷ l)) ≡ true
    by true e h = rw e h
    by false e h = refl

-- and the byte after it does not
pub run_next : (f : ℕ → Bool) → f 0 ≡ false → (l : List ℕ) → f (get_or l (run_len f l) 0) ≡ false
run_next f z [] = z
run_next f z (x ∷ l) = by (f x) refl (run_next f z l)
  where
    by : (b : Bool) → f x ≡ b → f (get_or l (run_len f l) 0) ≡ false → f (get_or (x ∷ l) (cond b (suc (run_len f l)) 0) 0) ≡ false
    by true e h = h
    by false e h = e

pub run_in : (f : ℕ → Bool) (l : List ℕ) (k : ℕ) → k < run_len f l → f (get_or l k 0) ≡ true
run_in f [] k h = absurd (omega arith)
run_in f (x ∷ l) zero h = by (f x) refl h
  where
    by : (b : Bool) → f x ≡ b → 0 < cond b (suc (run_len f l)) 0 → f x ≡ true
    by true e h = e
    by false e h = absurd (omega arith)
run_in f (x ∷ l) (suc k) h = by (f x) (run_in f l k) h
  where
    by : (b : Bool) → (k < run_len f l → f (get_or l k 0) ≡ true) → suc k < cond b (suc (run_len f l)) 0 → f (get_or l k 0) ≡ true
    by true r h = r (omega arith)
    by false r h = absurd (omega arith)

-- a run, and the rest of it from a byte on
pub run_split : (f : ℕ → Bool) (k : ℕ) (l : List ℕ) → k ≤ run_len f l → run_len f l ≡ k + run_len f (drop k l)
run_split f zero l h = omega arith
run_split f (suc k) [] h = absurd (omega arith)
run_split f (suc k) (x ∷ l) h = by (f x) (run_split f k l) h
  where
    by : (b : Bool) → (k ≤ run_len f l → run_len f l ≡ k + run_len f (drop k l)) → suc k ≤ cond b (suc (run_len f l)) 0 → cond b (suc (run_len f l)) 0 ≡ suc k + run_len f (drop k l)
    by true r h = omega (arith, r (omega arith))
    by false r h = absurd (omega arith)
