-- How long the rows of a report can be. A number below a power of ten has no more digits than that, so a row has at most 25 bytes. Assumes nothing.
use Prim.Native.Nat.{ℕ, zero, suc, ◌+◌, ◌*◌, ◌/◌, ◌%◌, ◌<◌, ◌≤◌}
use native.Mathlib.Omega.{arith}
use mathlib.Core.Path.{◌≡◌, refl, ap}
use mathlib.Core.List.{List, [], ◌∷◌, ◌++◌}
use mathlib.Core.Bool.{Bool, true, false}
use lib.ListN.{length, length-append}
use lib.Dec.{leb}
use borrow.Author.Tests.{leb-true, leb-false}
use Rattle.tokens.specs.declared.Name.{Name}
use Rattle.tokens.specs.Text.{byte, tab, lf}
use Rattle.tokens.specs.Names.{name_bytes}
use Rattle.tokens.specs.Numbers.{low_digits, trimmed, decimal}
use Rattle.tokens.proofs.Lengths.{digits_length, trimmed_short, name_short}
use Rattle.report.specs.Report.{numbers_text, row_text, Reported, rows_text}

-- the n-th power of ten
abbrev pub ten : ℕ → ℕ
ten zero = 1
ten (suc n) = ten n * 10

ten_more : (n : ℕ) → 1 ≤ ten n
ten_more zero = omega arith
ten_more (suc n) = omega (arith, ten_more n)

ten_by : (b : Bool) (k n : ℕ) → leb k n ≡ b → k ≤ suc n → (k ≤ n → ten k ≤ ten n) → ten k ≤ ten n * 10
ten_by true k n e h f = omega (arith, f (leb-true k n e), ten_more n)
ten_by false k n e h f = let z : k ≡ suc n = omega (arith, leb-false k n e) in rw z (omega arith)

ten_grows : (n k : ℕ) → k ≤ n → ten k ≤ ten n
ten_grows zero k h = let z : k ≡ 0 = omega arith in rw z (omega arith)
ten_grows (suc n) k h = ten_by (leb k n) k n refl h (ten_grows n k)

-- the next digit of a number below ten to the n is 0
digits_more : (n v : ℕ) → v < ten n → low_digits (suc n) v ≡ byte "0" ∷ low_digits n v
unfolding low_digits
digits_more zero v h = let z : v ≡ 0 = omega arith in rw z
digits_more (suc n) v h = ap (λ (l : List ℕ). l ++ (byte "0" + v % 10) ∷ []) (digits_more n (v / 10) (omega arith))

trim_zero : (l : List ℕ) → 0 < length l → trimmed (byte "0" ∷ l) ≡ trimmed l
unfolding trimmed
trim_zero [] h = absurd (omega arith)
trim_zero (x ∷ l) h = refl

short_by : (b : Bool) (n k v : ℕ) → leb (suc n) k ≡ b → 1 ≤ k → v < ten k → length (trimmed (low_digits n v)) ≤ k → length (trimmed (low_digits (suc n) v)) ≤ k
short_by true n k v e p h f = omega (arith, trimmed_short (low_digits (suc n) v), digits_length (suc n) v, leb-true (suc n) k e)
short_by false n k v e p h f =
    let m : k ≤ n = omega (arith, leb-false (suc n) k e) in
    let g : v < ten n = omega (arith, ten_grows n k m) in
    rw (digits_more n v g, trim_zero (low_digits n v) (omega (arith, digits_length n v))) f

digits_short : (n k v : ℕ) → 1 ≤ k → v < ten k → length (trimmed (low_digits n v)) ≤ k
unfolding trimmed low_digits
digits_short zero k v p h = omega arith
digits_short (suc n) k v p h = short_by (leb (suc n) k) n k v refl p h (digits_short n k v p h)

-- a number below ten to the k has at most k digits
pub decimal-below : (k v : ℕ) → 1 ≤ k → v < ten k → length (decimal v) ≤ k
unfolding decimal
decimal-below k v p h = digits_short 20 k v p h

pair_text_lem : (v w : ℕ) → length (numbers_text (v ∷ (w ∷ []))) ≡ length (decimal v) + length (decimal w) + 2
unfolding numbers_text
pair_text_lem v w = omega (arith, length-append (decimal v) (tab ∷ (decimal w ++ lf ∷ [])), length-append (decimal w) (lf ∷ []))

-- a row with a start and columns below 1,000
pub row_short : (n : Name) (s c : ℕ) → s < 1000 → c < 1000 → length (row_text n s c) ≤ 25
unfolding row_text
row_short n s c h k =
    omega (arith, length-append (name_bytes n) (tab ∷ numbers_text (s ∷ (c ∷ []))), name_short n, pair_text_lem s c, decimal-below 3 s (omega arith) h, decimal-below 3 c (omega arith) k)

-- starts and columns below 1,000
abbrev pub Small : List Reported → Type 0
Small [] = Unit
Small (a ∷ l) = ((a.start < 1000) × (a.columns < 1000)) × Small l

pub rows_short : (l : List Reported) → Small l → length (rows_text l) ≤ 25 * length l
unfolding rows_text
rows_short [] h = omega arith
rows_short (a ∷ l) h = omega (arith, length-append (row_text a.name a.start a.columns) (rows_text l), row_short a.name a.start a.columns h.0.0 h.0.1, rows_short l h.1)
