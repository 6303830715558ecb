-- Lines by number. A sheet is its first line, an LF if one ends it, and the rest; so what holds of the first line holds of each after the same number
-- of lines. Assumes nothing.
use Prim.Native.Nat.{ℕ, zero, suc, ◌+◌, ◌-◌, ◌<◌, ◌≤◌}
use native.Mathlib.Omega.{arith}
use native.Mathlib.Numerals.{add-one}
use mathlib.Core.Path.{◌≡◌, refl, ◌∙◌}
use mathlib.Core.List.{List, [], ◌∷◌, ◌++◌}
use mathlib.Core.Bool.{Bool, true, false, cond}
use lib.ListN.{length, get_or, take, drop, drop_of_length-le, take-append-drop}
use lib.Seq.{drop-cons, length-take-le}
use lib.Dec.{eqb, leb-suc-suc}
use borrow.Author.Tests.{lt-ltb, eq-eqb, ne_eqb}
use Rattle.std.specs.Int.{from_bool}
use Rattle.laws.specs.Tests.{bit}
use Rattle.tokens.specs.Text.{lf}
use Rattle.lines.specs.Sheet.{upto, text_of, ended_of, rest, after, count_from, line_count, lfs}

-- ---- the first line

-- a byte that is no LF belongs to the first line
module _ (x : ℕ) (l : List ℕ) (e : eqb x lf ≡ false) where
  pub upto-cons : upto (x ∷ l) ≡ suc (upto l)
  unfolding upto
  upto-cons = rw e

  pub text_cons : text_of (x ∷ l) ≡ x ∷ text_of l
  unfolding text_of
  text_cons = rw upto-cons

  pub ended-cons : ended_of (x ∷ l) ≡ ended_of l
  unfolding ended_of
  ended-cons = rw upto-cons (leb-suc-suc (suc (upto l)) (length l))

-- an LF ends an empty line
module _ (x : ℕ) (l : List ℕ) (e : eqb x lf ≡ true) where
  pub upto-lf : upto (x ∷ l) ≡ 0
  unfolding upto
  upto-lf = rw e

  pub text_lf : text_of (x ∷ l) ≡ []
  unfolding text_of
  text_lf = rw upto-lf

  pub ended-lf : ended_of (x ∷ l) ≡ true
  unfolding ended_of
  ended-lf = rw upto-lf (lt-ltb 0 (suc (length l)) (omega arith))

pub upto_le : (l : List ℕ) → upto l ≤ length l
unfolding upto
upto_le [] = omega arith
upto_le (x ∷ l) = upto_by (eqb x lf) (upto l) (length l) (upto_le l)
  where
    upto_by : (b : Bool) (n m : ℕ) → n ≤ m → cond b 0 (suc n) ≤ suc m
    upto_by true n m h = omega arith
    upto_by false n m h = omega arith

pub text_length : (l : List ℕ) → length (text_of l) ≡ upto l
unfolding text_of
text_length l = length-take-le (upto l) l (upto_le l)

-- ---- lines by number

pub after-suc : (k : ℕ) (l : List ℕ) → after (suc k) l ≡ rest (after k l)
unfolding after
after-suc zero l = refl
after-suc (suc k) l = after-suc k (rest l)

inside_by : (b : Bool) (l : List ℕ) → count_from false l ≡ count_from true (drop (suc (upto l)) l) → 0 + count_from b l ≡ count_from true (drop (cond b 0 (suc (upto l))) l)
inside_by true l h = omega arith
inside_by false l h = omega arith

-- inside a line, the count is that of what follows the line
count-inside : (l : List ℕ) → count_from false l ≡ count_from true (rest l)
unfolding count_from upto rest
count-inside [] = refl
count-inside (x ∷ l) = inside_by (eqb x lf) l (count-inside l)

-- a line, and the lines after it
pub count_line : (l : List ℕ) → 0 < length l → line_count l ≡ suc (line_count (rest l))
unfolding line_count count_from upto rest
count_line [] h = absurd (omega arith)
count_line (x ∷ l) h = let e : 0 + count_from (eqb x lf) l ≡ count_from true (drop (cond (eqb x lf) 0 (suc (upto l))) l) = inside_by (eqb x lf) l (count-inside l) in omega arith

-- no byte, no line
pub count_none : (l : List ℕ) → length l ≡ 0 → line_count l ≡ 0
unfolding line_count count_from
count_none [] h = refl
count_none (x ∷ l) h = absurd (omega arith)

-- ---- how many lines, from how many LFs

pub lfs_step : (s : List ℕ) (i : ℕ) → i < length s → lfs (drop i s) ≡ bit (eqb (get_or s i 0) lf) + lfs (drop (i + 1) s)
unfolding lfs
lfs_step s i h = rw (add-one, drop-cons s i 0 h)

lfs_append : (a b : List ℕ) → lfs (a ++ b) ≡ lfs a + lfs b
unfolding lfs
lfs_append [] b = omega arith
lfs_append (x ∷ a) b = omega (arith, lfs_append a b)

-- the LFs of a block, and of what follows it
pub lfs_parts : (n : ℕ) (s : List ℕ) → lfs s ≡ lfs (take n s) + lfs (drop n s)
lfs_parts n s = rw (take-append-drop n s) at (lfs_append (take n s) (drop n s))

pub lfs-past : (s : List ℕ) (i : ℕ) → length s ≤ i → lfs (drop i s) ≡ 0
unfolding lfs
lfs-past s i h = rw (drop_of_length-le s h)

-- whether a line begins after the list, if one begins before it just when b
fresh : Bool → List ℕ → Bool
fresh b [] = b
fresh b (x ∷ l) = fresh (eqb x lf) l

begins-ends : (b : Bool) (l : List ℕ) → count_from b l + bit (fresh b l) ≡ bit b + lfs l
unfolding count_from lfs fresh
begins-ends b [] = omega arith
begins-ends b (x ∷ l) = omega (arith, begins-ends (eqb x lf) l)

fresh_last : (b : Bool) (l : List ℕ) (n : ℕ) → length l ≡ suc n → fresh b l ≡ eqb (get_or l n 0) lf
unfolding fresh
fresh_last b [] n e = absurd (omega arith)
fresh_last b (x ∷ []) n e = let z : n ≡ 0 = omega arith in rw z
fresh_last b (x ∷ (y ∷ l)) zero e = absurd (omega arith)
fresh_last b (x ∷ (y ∷ l)) (suc n) e = fresh_last (eqb x lf) (y ∷ l) n (omega arith)

module _ (s : List ℕ) (n : ℕ) (e : n ≡ lfs s) (some : length s ≡ 0 → ⊥) where
  count_by : (b : Bool) → eqb (get_or s (length s - 1) 0) lf ≡ b → line_count s + bit b ≡ 1 + n
  unfolding line_count
  count_by b t =
      let w : length s ≡ suc (length s - 1) = omega arith in
      let q : fresh true s ≡ b = fresh_last true s (length s - 1) w ∙ t in
      let r : count_from true s + bit b ≡ 1 + lfs s = rw q at (begins-ends true s) in
      omega arith

  pub count-ended : get_or s (length s - 1) 0 ≡ lf → n ≡ line_count s
  count-ended t = omega (arith, count_by true (eq-eqb (get_or s (length s - 1) 0) lf t))

  pub count_open : (get_or s (length s - 1) 0 ≡ lf → ⊥) → n + 1 ≡ line_count s
  count_open t = omega (arith, count_by false (ne_eqb (get_or s (length s - 1) 0) lf t))

-- a test as the code's number
pub bit_from : (b : Bool) → (from_bool b ≡ bit b) × (from_bool b ≤ 1)
bit_from true = (refl, omega arith)
bit_from false = (refl, omega arith)
