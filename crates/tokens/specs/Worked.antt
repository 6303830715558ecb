-- Tokens with the number that each is, if any, and with what the reader answers. Assumes nothing.
use Rattle.std.specs.Prelude.{ℕ, ◌-◌, ◌^◌, List, [], ◌∷◌, ◌++◌, true, false, cond, Some, None}
use Rattle.std.specs.Prelude as found
use Prim.Native.String.{String}
use Rattle.std.proofs.Math.Option.{Option, none, some}
use Rattle.laws.specs.Worked.{Gives}
use Rattle.tokens.specs.declared.Numeral.{Numeral}
use Rattle.tokens.specs.Text.{bytes}
use Rattle.tokens.specs.Numbers.{is_number, value_of, numeral_of}

-- the number that a token is, if any
abbrev pub number_for : String → Option ℕ
number_for text = cond (is_number (bytes text)) (some (value_of (bytes text))) none

-- each base, each prefix, with U and without
abbrev pub numbers : List (String × Option ℕ)
numbers =
    ("5", some 5) ∷
    ("64", some 64) ∷
    ("64U", some 64) ∷
    ("0x40", some 64) ∷
    ("0X40", some 64) ∷
    ("0x40U", some 64) ∷
    ("0xaF", some 175) ∷
    ("0b100000", some 32) ∷
    ("0B101", some 5) ∷
    ("0b1U", some 1) ∷
    ("040", some 32) ∷
    ("064", some 52) ∷
    ("0777", some 511) ∷
    ("07U", some 7) ∷ []

-- zeros, and zeros before digits
abbrev pub zeros : List (String × Option ℕ)
zeros =
    ("0", some 0) ∷
    ("0U", some 0) ∷
    ("00", some 0) ∷
    ("000", some 0) ∷
    ("00U", some 0) ∷
    ("0x0", some 0) ∷
    ("0b000", some 0) ∷
    ("0x0040", some 64) ∷
    ("0b0011", some 3) ∷
    ("0040", some 32) ∷ []

-- a digit of another base, no digit, a small u, U twice or not last, other bytes, none
abbrev pub others : List (String × Option ℕ)
others =
    ("08", none) ∷
    ("019", none) ∷
    ("0b2", none) ∷
    ("0b12", none) ∷
    ("0b102", none) ∷
    ("0b", none) ∷
    ("0x", none) ∷
    ("0bU", none) ∷
    ("0xU", none) ∷
    ("U", none) ∷
    ("64u", none) ∷
    ("0UU", none) ∷
    ("64UU", none) ∷
    ("0xUU", none) ∷
    ("6U4", none) ∷
    ("64U1", none) ∷
    ("0U1", none) ∷
    ("0x1u", none) ∷
    ("0_1", none) ∷
    ("0o7", none) ∷
    ("0o1", none) ∷
    ("o7", none) ∷
    ("1x40", none) ∷
    ("1b1", none) ∷
    ("0xg", none) ∷
    ("x40", none) ∷
    ("64abc", none) ∷
    ("", none) ∷ []

-- what the reader answers: the value, or that it is over 2^64 - 1, and how many bytes the number took; none for no number
abbrev pub reads : List (String × found.Option Numeral)
reads =
    ("0", Some (record { value = Some 0; used = 1 })) ∷
    ("0x40U", Some (record { value = Some 64; used = 5 })) ∷
    ("18446744073709551615", Some (record { value = Some (2 ^ 64 - 1); used = 20 })) ∷
    ("18446744073709551616", Some (record { value = None; used = 20 })) ∷
    ("01777777777777777777777", Some (record { value = Some (2 ^ 64 - 1); used = 23 })) ∷
    ("02000000000000000000000U", Some (record { value = None; used = 24 })) ∷
    ("08", None) ∷
    ("64abc", None) ∷ []

pub record Worked : Type 0 where
  pub numbers_are : Gives number_for (numbers ++ (zeros ++ others))
  pub reads_are : Gives (λ text. numeral_of (bytes text)) reads
