-- What bytes are a number, and its value, however large: one table has the four ways to write one. Assumes nothing.
use Rattle.tokens.specs.Text.{byte, bytes}
use Rattle.std.specs.Prelude.{ℕ, zero, suc, ◌+◌, ◌-◌, ◌*◌, ◌/◌, ◌%◌, ◌^◌, List, [], ◌∷◌, ◌++◌, Bool, true, false, ◌&&◌, ◌||◌, cond, Option, None, Some, length, take, drop, ltb, leb, eqb}
use Rattle.tokens.specs.declared.Numeral.{Numeral}
use Rattle.tokens.specs.Bytes.{between, same_bytes, run_len}

-- ---- digits
-- the value of a digit: 0 to 9; A to F and a to f, from 10 on; 16 for any other byte
unfoldable pub digit_of : ℕ → ℕ
digit_of x =
    cond (between (byte "0") (byte "9") x) (x - byte "0")
    (cond (between (byte "A") (byte "F") x) (x - (byte "A" - 10))
    (cond (between (byte "a") (byte "f") x) (x - (byte "a" - 10)) 16))

-- the digits after v
abbrev pub positional : ℕ → ℕ → List ℕ → ℕ
positional base v [] = v
positional base v (x ∷ l) = positional base (v * base + digit_of x) l

-- one of these bytes
abbrev pub among : List ℕ → ℕ → Bool
among [] x = false
among (y ∷ l) x = eqb x y || among l x

-- ---- the table of notations
pub record Notation : Type 0 where
  -- what stands first: for each place the bytes that may stand there
  pub prefix : List (List ℕ)
  pub base : ℕ
  -- the bytes that are digits, and how few of them there may be
  pub digits : List ℕ
  pub fewest : ℕ
  -- whether a U may stand last
  pub unsigned : Bool

abbrev pub hexadecimals : Notation
hexadecimals = record { prefix = bytes "0" ∷ bytes "xX" ∷ []; base = 16; digits = bytes "0123456789ABCDEFabcdef"; fewest = 1; unsigned = true }

abbrev pub binaries : Notation
binaries = record { prefix = bytes "0" ∷ bytes "bB" ∷ []; base = 2; digits = bytes "01"; fewest = 1; unsigned = true }

-- the zero that leads is the prefix, so that 0 alone is one
abbrev pub octals : Notation
octals = record { prefix = bytes "0" ∷ []; base = 8; digits = bytes "01234567"; fewest = 0; unsigned = true }

abbrev pub decimals : Notation
decimals = record { prefix = []; base = 10; digits = bytes "0123456789"; fewest = 1; unsigned = true }

abbrev pub notations : List Notation
notations = hexadecimals ∷ binaries ∷ octals ∷ decimals ∷ []

-- ---- how a token goes by the table
-- at each place stands one of the bytes that may
abbrev pub begins : List (List ℕ) → List ℕ → Bool
begins [] w = true
begins (c ∷ p) [] = false
begins (c ∷ p) (x ∷ w) = among c x && begins p w

-- the row of a token: the first with whose prefix it begins, decimals having none; so no token that begins with 0 is decimal
abbrev pub row_for : List Notation → List ℕ → Notation
row_for [] w = decimals
row_for (r ∷ rows) w = cond (begins r.prefix w) r (row_for rows w)

abbrev pub row_of : List ℕ → Notation
row_of w = row_for notations w

-- the bytes after a row's prefix
abbrev pub body : Notation → List ℕ → List ℕ
body r w = drop (length r.prefix) w

-- how many digits a body has
abbrev pub digits_len : Notation → List ℕ → ℕ
digits_len r d = run_len (among r.digits) d

-- what may follow the digits: nothing, or one U
abbrev pub ending : Bool → List ℕ → Bool
ending unsigned l = same_bytes l [] || unsigned && same_bytes l (bytes "U")

-- enough digits, and what may follow them
unfoldable pub spells : Notation → List ℕ → Bool
spells r d = leb r.fewest (digits_len r d) && ending r.unsigned (drop (digits_len r d) d)

-- the number that the digits are
unfoldable pub worth : Notation → List ℕ → ℕ
worth r d = positional r.base 0 (take (digits_len r d) d)

unfoldable pub is_number : List ℕ → Bool
is_number w = spells (row_of w) (body (row_of w) w)

unfoldable pub value_of : List ℕ → ℕ
value_of w = worth (row_of w) (body (row_of w) w)

-- ---- as it is read
-- a number as 64 bits hold it; none is over 2^64 - 1
unfoldable pub fit : ℕ → Option ℕ
fit v = cond (ltb v (2 ^ 64)) (Some v) None

-- a number takes all bytes of its token; any other token is none
unfoldable pub numeral_of : List ℕ → Option Numeral
numeral_of w = cond (is_number w) (Some (record { value = fit (value_of w); used = length w })) None

-- ---- as it is written
-- the n low decimal digits of v, as bytes, the highest first
unfoldable pub low_digits : ℕ → ℕ → List ℕ
low_digits zero v = []
low_digits (suc n) v = low_digits n (v / 10) ++ (byte "0" + v % 10) ∷ []

-- without the zeros that lead, the last digit kept
unfoldable pub trimmed : List ℕ → List ℕ
trimmed [] = []
trimmed (x ∷ []) = x ∷ []
trimmed (x ∷ (y ∷ l)) = cond (eqb x (byte "0")) (trimmed (y ∷ l)) (x ∷ (y ∷ l))

-- v below 10^20 in decimal
unfoldable pub decimal : ℕ → List ℕ
decimal v = trimmed (low_digits 20 v)
