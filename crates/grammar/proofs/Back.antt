-- The bytes of a packed name are those that were packed, and a number written in decimal has its value again. Assumes nothing.
use Prim.Native.Nat.{ℕ, zero, suc, ◌+◌, ◌-◌, ◌*◌, ◌/◌, ◌%◌, ◌^◌, ◌<◌, ◌≤◌}
use native.Mathlib.Omega.{arith}
use native.Mathlib.Nat.{add-suc, suc-add, add-zero, pow-suc}
use mathlib.Core.Path.{◌≡◌, refl, ◌∙◌}
use mathlib.Core.List.{List, [], ◌∷◌, ◌++◌, append_assoc, append-nil}
use mathlib.Core.Bool.{Bool, true, false, ◌&&◌, ◌||◌, cond}
use mathlib.Core.Logic.{◌⊎◌, inl, inr}
use lib.ListN.{length, get_or, take, drop, length-take, length-drop, take-append-drop}
use lib.Seq.{take-length, drop-length}
use lib.Dec.{ltb, leb, eqb}
use borrow.Author.Tests.{ne_eqb, eqb-true, leb-true, le-leb, lt-ltb}
use Rattle.tokens.specs.Text.{byte, bytes}
use Rattle.tokens.specs.Bytes.{between, letter, word_byte, all}
use Rattle.tokens.specs.Names.{sigil, is_name, byte_digits, packed, low_bytes, strip, name_bytes, name_given}
use Rattle.tokens.specs.Numbers.{digit_of, positional, among, decimals, row_of, digits_len, spells, worth, is_number, value_of, low_digits, trimmed, decimal}
use Rattle.tokens.proofs.Names.{same_name_lem}
use Rattle.laws.proofs.BoolLaws.{bool, and_split}
use Rattle.tokens.proofs.Runs.{run_all}
use Rattle.tokens.proofs.Notations.{digits_below}
use Rattle.tokens.proofs.Lengths.{digits_length}
use Rattle.grammar.proofs.Lexing.{starts, whole, name-whole}

-- ---- names
-- each byte is one of 1 to 255
abbrev Bytes : List ℕ → Type 0
Bytes [] = Unit {0}
Bytes (x ∷ l) = (0 < x) × (x < 256) × Bytes l

low_suc : (n v : ℕ) → low_bytes (suc n) v ≡ low_bytes n (v / 256) ++ (v % 256) ∷ []
unfolding low_bytes
low_suc n v = refl

low_back : (w : List ℕ) (k v : ℕ) → Bytes w → low_bytes (k + length w) (byte_digits v w) ≡ low_bytes k v ++ w
low_back [] k v b = rw (add-zero k, append-nil)
low_back (x ∷ u) k v b =
    let d : (v * 256 + x) / 256 ≡ v = omega arith in
    let m : (v * 256 + x) % 256 ≡ x = omega arith in
    rw (add-suc k (length u), ← suc-add k (length u), low_back u (suc k) (v * 256 + x) b.2, low_suc k (v * 256 + x), d, m, append_assoc)

strip-zeros : (k : ℕ) (w : List ℕ) → strip (low_bytes k 0 ++ w) ≡ strip w
unfolding low_bytes strip
strip-zeros zero w = refl
strip-zeros (suc k) w = rw append_assoc (strip-zeros k (0 ∷ w))

strip-none : (w : List ℕ) → Bytes w → strip w ≡ w
unfolding strip
strip-none [] b = refl
strip-none (x ∷ u) b = rw (ne_eqb x 0 (omega arith))

half_back : (w : List ℕ) → Bytes w → length w ≤ 8 → strip (low_bytes 8 (byte_digits 0 w)) ≡ w
half_back w b h =
    let e : 8 ≡ (8 - length w) + length w = omega arith in
    rw (e, low_back w (8 - length w) 0 b, strip-zeros (8 - length w) w) (strip-none w b)

bytes_take : (n : ℕ) (w : List ℕ) → Bytes w → Bytes (take n w)
bytes_take zero w b = tt
bytes_take (suc n) [] b = tt
bytes_take (suc n) (x ∷ w) b = (b.0, b.1, bytes_take n w b.2)

bytes_drop : (n : ℕ) (w : List ℕ) → Bytes w → Bytes (drop n w)
bytes_drop zero w b = b
bytes_drop (suc n) [] b = tt
bytes_drop (suc n) (x ∷ w) b = bytes_drop n w b.2

bytes_back : (w : List ℕ) → Bytes w → length w ≤ 16 → name_bytes (packed w) ≡ w
unfolding name_bytes packed
bytes_back w b h =
    let a : length (take 8 w) ≤ 8 = omega (arith, length-take 8 w) in
    let c : length (drop 8 w) ≤ 8 = omega (arith, length-drop 8 w) in
    rw (half_back (take 8 w) (bytes_take 8 w b) a, half_back (drop 8 w) (bytes_drop 8 w b) c) (take-append-drop 8 w)

-- a byte of a name is one of 1 to 255
either : (a b : Bool) {A : Type 0} → (a || b) ≡ true → (a ≡ true → A) → (b ≡ true → A) → A
either true b h f g = f refl
either false b h f g = g h

between-byte : (a e x : ℕ) → 0 < a → e < 256 → between a e x ≡ true → (0 < x) × (x < 256)
between-byte a e x p q h =
    let k = and_split (leb a x) (leb x e) h in
    let s = leb-true a x k.0 in
    let t = leb-true x e k.1 in
    (omega arith, omega arith)

same_byte : (a x : ℕ) → 0 < a → a < 256 → eqb x a ≡ true → (0 < x) × (x < 256)
same_byte a x p q h = let k = eqb-true x a h in (omega arith, omega arith)

word_byte_lem : (x : ℕ) → word_byte x ≡ true → (0 < x) × (x < 256)
unfolding word_byte letter
word_byte_lem x h =
    either (letter x || between 48 57 x || eqb x 95) (eqb x 36) h
    (λ a. either (letter x || between 48 57 x) (eqb x 95) a
    (λ b. either (letter x) (between 48 57 x) b
    (λ c. either (between 65 90 x) (between 97 122 x) c (between-byte 65 90 x (omega arith) (omega arith)) (between-byte 97 122 x (omega arith) (omega arith)))
    (between-byte 48 57 x (omega arith) (omega arith)))
    (same_byte 95 x (omega arith) (omega arith)))
    (same_byte 36 x (omega arith) (omega arith))

words-bytes : (l : List ℕ) → all word_byte l ≡ true → Bytes l
words-bytes [] h = tt
words-bytes (x ∷ l) h =
    let p = and_split (word_byte x) (all word_byte l) h in
    let b = word_byte_lem x p.0 in
    (b.0, b.1, words-bytes l p.1)

whole-bytes : (l : List ℕ) → whole l ≡ true → Bytes l
unfolding whole
whole-bytes [] h = tt
whole-bytes (x ∷ l) h =
    let p = and_split (starts x) (all word_byte l) h in
    let b = either (word_byte x) (eqb x 37) p.0 (word_byte_lem x) (same_byte 37 x (omega arith) (omega arith)) in
    (b.0, b.1, words-bytes l p.1)

pub name_short : (w : List ℕ) → is_name w ≡ true → length w ≤ 16
unfolding is_name
name_short [] h = omega arith
name_short (x ∷ l) h =
    let p = and_split (letter x || sigil x && ltb 0 (length l)) (leb (length l) 15 && all word_byte l) h in
    let q = leb-true (length l) 15 (and_split (leb (length l) 15) (all word_byte l) p.1).0 in
    omega arith

-- the bytes of a name that was packed
pub name_back : (w : List ℕ) → is_name w ≡ true → name_bytes (packed w) ≡ w
name_back w h = bytes_back w (whole-bytes w (name-whole w h)) (name_short w h)

pub packed-given : (w : List ℕ) → is_name w ≡ true → name_given (packed w) ≡ true
unfolding name_given
packed-given w h = rw (name_back w h, h) (same_name_lem (packed w) (packed w) refl)

-- ---- decimals
digit_back : (d : ℕ) → d < 10 → digit_of (48 + d) ≡ d
unfolding digit_of
digit_back d h =
    let a : 48 ≤ 48 + d = omega arith in
    let b : 48 + d ≤ 57 = omega arith in
    rw (le-leb 48 (48 + d) a, le-leb (48 + d) 57 b) (omega arith)

-- a decimal digit
abbrev figure : ℕ → Bool
figure x = among decimals.digits x

figure_below : (x : ℕ) → figure x ≡ ltb (digit_of x) 10
unfolding digit_of
figure_below x = digits_below decimals refl x

is_figure : (d : ℕ) → d < 10 → figure (48 + d) ≡ true
is_figure d h = figure_below (48 + d) ∙ rw (digit_back d h) (lt-ltb d 10 h)

value_append : (v : ℕ) (l : List ℕ) (x : ℕ) → positional 10 v (l ++ x ∷ []) ≡ positional 10 v l * 10 + digit_of x
value_append v [] x = refl
value_append v (y ∷ l) x = value_append (v * 10 + digit_of y) l x

low_value : (n v : ℕ) → v < 10 ^ n → positional 10 0 (low_digits n v) ≡ v
unfolding low_digits
low_value zero v h = omega arith
low_value (suc n) v h =
    let g : v / 10 < 10 ^ n = omega (arith, pow-suc 10 n) in
    let m : v % 10 < 10 = omega arith in
    rw (value_append 0 (low_digits n (v / 10)) (48 + v % 10), low_value n (v / 10) g, digit_back (v % 10) m) (omega arith)

all_snoc : (f : ℕ → Bool) (l : List ℕ) (x : ℕ) → all f l ≡ true → f x ≡ true → all f (l ++ x ∷ []) ≡ true
all_snoc f [] x h e = rw e
all_snoc f (y ∷ l) x h e = let p = and_split (f y) (all f l) h in rw p.0 (all_snoc f l x p.1 e)

low_digits_lem : (n v : ℕ) → all figure (low_digits n v) ≡ true
unfolding low_digits
low_digits_lem zero v = refl
low_digits_lem (suc n) v = let m : v % 10 < 10 = omega arith in all_snoc figure (low_digits n (v / 10)) (48 + v % 10) (low_digits_lem n (v / 10)) (is_figure (v % 10) m)

-- one 0, or no 0 first
abbrev Led : List ℕ → Type 0
Led d = (d ≡ bytes "0") ⊎ (eqb (get_or d 0 0) (byte "0") ≡ false)

-- what is shown of digits without the zeros that lead
record Trimmed (l d : List ℕ) : Type 0 where
  value : positional 10 0 d ≡ positional 10 0 l
  digits : all figure d ≡ true
  some : 0 < length d
  lead : Led d

trim_by : (b : Bool) (x y : ℕ) (l : List ℕ) → eqb x 48 ≡ b → all figure (x ∷ (y ∷ l)) ≡ true → Trimmed (y ∷ l) (trimmed (y ∷ l)) → Trimmed (x ∷ (y ∷ l)) (cond b (trimmed (y ∷ l)) (x ∷ (y ∷ l)))
unfolding digit_of
trim_by true x y l e h i = record { value = i.value ∙ rw (eqb-true x 48 e); digits = i.digits; some = i.some; lead = i.lead }
trim_by false x y l e h i = record { value = refl; digits = h; some = omega arith; lead = inr e }

trim : (x : ℕ) (l : List ℕ) → all figure (x ∷ l) ≡ true → Trimmed (x ∷ l) (trimmed (x ∷ l))
unfolding trimmed
trim x [] h = record { value = refl; digits = h; some = omega arith; lead = go (bool (eqb x 48)) }
  where
    go : (eqb x 48 ≡ true) ⊎ (eqb x 48 ≡ false) → Led (x ∷ [])
    go (inl e) = inl (rw (eqb-true x 48 e))
    go (inr e) = inr e
trim x (y ∷ l) h = trim_by (eqb x 48) x y l refl h (trim y l (and_split (figure x) (all figure (y ∷ l)) h).1)

trim_some : (l : List ℕ) → 0 < length l → all figure l ≡ true → Trimmed l (trimmed l)
trim_some [] n h = absurd (omega arith)
trim_some (x ∷ l) n h = trim x l h

decimal-trimmed : (v : ℕ) → Trimmed (low_digits 20 v) (decimal v)
unfolding decimal
decimal-trimmed v = trim_some (low_digits 20 v) (omega (arith, digits_length 20 v)) (low_digits_lem 20 v)

-- each row but the last asks for a 0 first
last_row : (d : List ℕ) → eqb (get_or d 0 0) (byte "0") ≡ false → row_of d ≡ decimals
last_row [] h = refl
last_row (x ∷ d) h = rw h

figures_all : (d : List ℕ) → all figure d ≡ true → digits_len decimals d ≡ length d
figures_all d h = rw append-nil at (run_all figure d [] h refl)

-- one 0 goes by the row of octals, and has the same value there; any others go by the last row
figures_number : (d : List ℕ) → all figure d ≡ true → 0 < length d → Led d → is_number d ≡ true
unfolding is_number spells
figures_number d h n (inl e) = rw e
figures_number d h n (inr e) = rw (last_row d e, figures_all d h, le-leb 1 (length d) n, drop-length d)

figures_value : (d : List ℕ) → all figure d ≡ true → Led d → value_of d ≡ positional 10 0 d
unfolding value_of worth digit_of
figures_value d h (inl e) = rw e
figures_value d h (inr e) = rw (last_row d e, figures_all d h, take-length d)

pub decimal-number : (v : ℕ) → is_number (decimal v) ≡ true
decimal-number v = let t = decimal-trimmed v in figures_number (decimal v) t.digits t.some t.lead

pub decimal_value : (v : ℕ) → v < 10 ^ 20 → value_of (decimal v) ≡ v
decimal_value v h = let t = decimal-trimmed v in figures_value (decimal v) t.digits t.lead ∙ (t.value ∙ low_value 20 v h)
