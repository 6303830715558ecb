-- How many bytes tokens, names and decimals have. Assumes nothing.
use Prim.Native.Nat.{ℕ, zero, suc, ◌+◌, ◌/◌, ◌%◌, ◌≤◌}
use native.Mathlib.Omega.{arith}
use mathlib.Core.Path.{◌≡◌, refl}
use mathlib.Core.List.{List, [], ◌∷◌}
use mathlib.Core.Bool.{Bool, true, false, ◌||◌, cond}
use lib.ListN.{length, length-append}
use lib.Dec.{eqb}
use Rattle.tokens.specs.declared.Name.{Name}
use Rattle.tokens.specs.Text.{byte}
use Rattle.tokens.specs.Bytes.{word_byte, run_len, token_len}
use Rattle.tokens.specs.Names.{low_bytes, strip, name_bytes}
use Rattle.tokens.specs.Numbers.{low_digits, trimmed, decimal}
use Rattle.tokens.proofs.Runs.{run_le}

pub token_le : (l : List ℕ) → token_len l ≤ length l
unfolding token_len
token_le [] = omega arith
token_le (x ∷ l) = by (word_byte x || eqb x (byte "%"))
  where
    by : (b : Bool) → suc (cond b (run_len word_byte l) 0) ≤ suc (length l)
    by true = omega (arith, run_le word_byte l)
    by false = omega arith

pub cond-le : (b : Bool) (l m : List ℕ) (n : ℕ) → length l ≤ n → length m ≤ n → length (cond b l m) ≤ n
cond-le true l m n p q = p
cond-le false l m n p q = q

pub strip_short : (l : List ℕ) → length (strip l) ≤ length l
unfolding strip
strip_short [] = omega arith
strip_short (x ∷ l) = cond-le (eqb x 0) (strip l) (x ∷ l) (length (x ∷ l)) (omega (arith, strip_short l)) (omega arith)

pub low_length : (k v : ℕ) → length (low_bytes k v) ≡ k
unfolding low_bytes
low_length zero v = refl
low_length (suc k) v = omega (arith, length-append (low_bytes k (v / 256)) ((v % 256) ∷ []), low_length k (v / 256))

pub name_short : (n : Name) → length (name_bytes n) ≤ 16
unfolding name_bytes
name_short n =
    let x = strip (low_bytes 8 n.hi) in
    let y = strip (low_bytes 8 n.lo) in
    omega (arith, length-append x y, strip_short (low_bytes 8 n.hi), strip_short (low_bytes 8 n.lo), low_length 8 n.hi, low_length 8 n.lo)

pub trimmed_short : (l : List ℕ) → length (trimmed l) ≤ length l
unfolding trimmed
trimmed_short [] = omega arith
trimmed_short (x ∷ []) = omega arith
trimmed_short (x ∷ (y ∷ l)) = cond-le (eqb x 48) (trimmed (y ∷ l)) (x ∷ (y ∷ l)) (length (x ∷ (y ∷ l))) (omega (arith, trimmed_short (y ∷ l))) (omega arith)

pub digits_length : (k v : ℕ) → length (low_digits k v) ≡ k
unfolding low_digits
digits_length zero v = refl
digits_length (suc k) v = omega (arith, length-append (low_digits k (v / 10)) ((48 + v % 10) ∷ []), digits_length k (v / 10))

pub decimal_short : (v : ℕ) → length (decimal v) ≤ 20
unfolding decimal
decimal_short v = omega (arith, trimmed_short (low_digits 20 v), digits_length 20 v)
