-- What bytes are a name, and a name as two numbers. Assumes nothing.
use Rattle.tokens.specs.Text.{byte}
use Rattle.std.specs.Prelude.{ℕ, zero, suc, ◌+◌, ◌*◌, ◌/◌, ◌%◌, List, [], ◌∷◌, ◌++◌, Bool, false, ◌&&◌, ◌||◌, cond, length, take, drop, ltb, leb, eqb}
use Rattle.tokens.specs.declared.Name.{Name}
use Rattle.tokens.specs.Bytes.{letter, word_byte, all}

-- one of _ $ %
unfoldable pub sigil : ℕ → Bool
sigil x = eqb x (byte "_") || eqb x (byte "$") || eqb x (byte "%")

-- a letter, then up to 15 word bytes; or one of _ $ % then 1 to 15 of these
unfoldable pub is_name : List ℕ → Bool
is_name [] = false
is_name (x ∷ l) = (letter x || sigil x && ltb 0 (length l)) && (leb (length l) 15 && all word_byte l)

-- the bytes as digits at base 256, after v
abbrev pub byte_digits : ℕ → List ℕ → ℕ
byte_digits v [] = v
byte_digits v (x ∷ l) = byte_digits (v * 256 + x) l

-- the first eight bytes, and the rest
unfoldable pub packed : List ℕ → Name
packed w = record { hi = byte_digits 0 (take 8 w); lo = byte_digits 0 (drop 8 w) }

abbrev pub no_name : Name
no_name = record { hi = 0; lo = 0 }

-- the n low digits of v at base 256, the highest first
unfoldable pub low_bytes : ℕ → ℕ → List ℕ
low_bytes zero v = []
low_bytes (suc n) v = low_bytes n (v / 256) ++ (v % 256) ∷ []

-- without the zeros that lead
unfoldable pub strip : List ℕ → List ℕ
strip [] = []
strip (x ∷ l) = cond (eqb x 0) (strip l) (x ∷ l)

-- the bytes of a packed name
unfoldable pub name_bytes : Name → List ℕ
name_bytes n = strip (low_bytes 8 n.hi) ++ strip (low_bytes 8 n.lo)

abbrev pub same_name : Name → Name → Bool
same_name a b = eqb a.hi b.hi && eqb a.lo b.lo

-- such as reading gives: the packing of a name's bytes
unfoldable pub name_given : Name → Bool
name_given n = is_name (name_bytes n) && same_name (packed (name_bytes n)) n
