-- Runs of digits and of word bytes at the head of a list of bytes. Assumes nothing.
use Rattle.std.specs.Prelude.{ℕ, ◌+◌, ◌-◌, ◌^◌, min, List, Bool, true, false, cond, Option, None, Some, length, get_or, take, drop, ltb, eqb}
use Rattle.tokens.specs.declared.Name.{Name}
use Rattle.tokens.specs.declared.Numeral.{Numeral}
use Rattle.tokens.specs.Text.{byte}
use Rattle.tokens.specs.Bytes.{word_byte, run_len, token_of, after_token}
use Rattle.tokens.specs.Names.{is_name, packed, no_name}
use Rattle.tokens.specs.Numbers.{digit_of, Notation, hexadecimals, binaries, octals, decimals, spells, worth, fit}
use Rattle.lexer.specs.declared.number.Row.{Row}
use Rattle.lexer.specs.declared.number.Base.{Base}
use Rattle.lexer.specs.declared.number.Base.TheVariants as base
use Rattle.lexer.specs.declared.name.Taken.{Taken}

-- the row of the table for a base
abbrev pub notation_of : Base → Notation
notation_of base.Hexadecimal = hexadecimals
notation_of base.Binary = binaries
notation_of base.Octal = octals
notation_of base.Decimal = decimals

-- a byte whose value as a digit is below the base
abbrev pub digit_below : ℕ → ℕ → Bool
digit_below base x = ltb (digit_of x) base

-- that row as the code keeps it, with 2^64 - 1 by its last digit and what stands before that
abbrev pub row_for_base : Base → Row
row_for_base base.Hexadecimal = record { base = 16; prefix = 2; fewest = 1; most = 2 ^ 60 - 1; last = 15 }
row_for_base base.Binary = record { base = 2; prefix = 2; fewest = 1; most = 2 ^ 63 - 1; last = 1 }
row_for_base base.Octal = record { base = 8; prefix = 1; fewest = 0; most = 2 ^ 61 - 1; last = 7 }
row_for_base base.Decimal = record { base = 10; prefix = 0; fewest = 1; most = 1844674407370955161; last = 5 }

-- the word bytes at the head
abbrev pub words_of : List ℕ → List ℕ
words_of l = take (run_len word_byte l) l

-- how many bytes a U at the head takes, if there is one
abbrev pub suffix_len : List ℕ → ℕ
suffix_len l = cond (eqb (get_or l 0 0) (byte "U")) 1 0

-- the number that the word bytes after a row's prefix are
unfoldable pub row_numeral : Notation → List ℕ → Option Numeral
row_numeral r l = cond (spells r (words_of l)) (Some (record { value = fit (worth r (words_of l)); used = length r.prefix + length (words_of l) })) None

-- how many word bytes there are, but no more than there is room for
abbrev pub words_len : ℕ → List ℕ → ℕ
words_len room l = min room (run_len word_byte l)

-- the name that the token at the head is, and what follows; or that it is none
pub record NameThere : Type 0 where
  pub ok : Bool
  pub value : Name
  pub rest : List ℕ

abbrev pub there_by : Bool → List ℕ → NameThere
there_by is l = cond is (record { ok = true; value = packed (token_of l); rest = after_token l }) (record { ok = false; value = no_name; rest = l })

unfoldable pub name_there : List ℕ → NameThere
name_there l = there_by (is_name (token_of l)) l

abbrev pub name_in : List ℕ → ℕ → Option Taken → NameThere
name_in s at None = record { ok = false; value = no_name; rest = drop at s }
name_in s at (Some r) = record { ok = true; value = r.value; rest = drop r.end s }
