-- Bytes by class, and the token at the head of a list of bytes. Assumes nothing.
use Rattle.tokens.specs.Text.{byte}
use Rattle.std.specs.Prelude.{ℕ, suc, List, [], ◌∷◌, Bool, true, false, ◌&&◌, ◌||◌, cond, take, drop, leb, eqb}

abbrev pub between : ℕ → ℕ → ℕ → Bool
between a e x = leb a x && leb x e

-- two lists have the same bytes
abbrev pub same_bytes : List ℕ → List ℕ → Bool
same_bytes [] [] = true
same_bytes [] (y ∷ m) = false
same_bytes (x ∷ l) [] = false
same_bytes (x ∷ l) (y ∷ m) = eqb x y && same_bytes l m

-- A to Z, a to z
unfoldable pub letter : ℕ → Bool
letter x = between (byte "A") (byte "Z") x || between (byte "a") (byte "z") x

-- a letter, a digit, _ or $: a byte of a name or a number
unfoldable pub word_byte : ℕ → Bool
word_byte x = letter x || between (byte "0") (byte "9") x || eqb x (byte "_") || eqb x (byte "$")

-- a letter, a digit, _ . or :
unfoldable pub opcode_byte : ℕ → Bool
opcode_byte x = letter x || between (byte "0") (byte "9") x || eqb x (byte "_") || eqb x (byte ".") || eqb x (byte ":")

-- a space
unfoldable pub blank : ℕ → Bool
blank x = eqb x (byte " ")

-- how many bytes at the head pass the test, one after the other
abbrev pub run_len : (ℕ → Bool) → List ℕ → ℕ
run_len f [] = 0
run_len f (x ∷ l) = cond (f x) (suc (run_len f l)) 0

-- each byte passes the test
abbrev pub all : (ℕ → Bool) → List ℕ → Bool
all f [] = true
all f (x ∷ l) = f x && all f l

unfoldable pub after_blanks : List ℕ → List ℕ
after_blanks l = drop (run_len blank l) l

-- a run of word bytes, with any % just before it, is one token; else one byte is; at the end there is none
unfoldable pub token_len : List ℕ → ℕ
token_len [] = 0
token_len (x ∷ l) = suc (cond (word_byte x || eqb x (byte "%")) (run_len word_byte l) 0)

unfoldable pub token_of : List ℕ → List ℕ
token_of l = take (token_len l) l

unfoldable pub after_token : List ℕ → List ℕ
after_token l = drop (token_len l) l
