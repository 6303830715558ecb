-- The shared memory descriptor (docs/FORMAT.md, 'Descriptor words'): 64 bits. Assumes nothing.
use Rattle.std.specs.Prelude.{ℕ, Bool, ◌||◌, not, List, [], ◌∷◌, eqb, get_or, Result, Ok, Err}
use Rattle.std.proofs.Math.Option.{Option, some}
use Rattle.laws.specs.Tests.{all, among}
use Rattle.laws.specs.Layout.{Part, plain, scaled, fixed}
use Rattle.laws.specs.Format.{read_by, word_by}
use Rattle.reasons.specs.declared.Reason.{Reason}
use Rattle.reasons.specs.Reasons.{number}
use Rattle.shared_memory.specs.declared.Shared.{Shared}

-- Bits 0-13 start, 16-29 leading offset, 32-45 stride offset, each in sixteens of bytes; 46-48 the value 1; 49-51 base offset; 52 leading mode;
-- 61-63 swizzle; the rest 0.
abbrev pub layout : List Part
layout =
    scaled 0 13 16
    ∷ fixed 14 15 0
    ∷ scaled 16 29 16
    ∷ fixed 30 31 0
    ∷ scaled 32 45 16
    ∷ fixed 46 48 1
    ∷ plain 49 51
    ∷ plain 52 52
    ∷ fixed 53 60 0
    ∷ plain 61 63
    ∷ []

-- the numbers of a descriptor, in the order of the layout; addresses and offsets are in bytes
abbrev pub numbers : Shared → List ℕ
numbers d = d.start ∷ d.leading ∷ d.stride ∷ d.base ∷ d.mode ∷ d.swizzle ∷ []

-- the descriptor of a list of six numbers: any six name one
abbrev pub shared_in : List ℕ → Shared
shared_in l = record { start = get_or l 0 0; leading = get_or l 1 0; stride = get_or l 2 0; base = get_or l 3 0; mode = get_or l 4 0; swizzle = get_or l 5 0 }

abbrev pub named : List ℕ → Option Shared
named l = some (shared_in l)

-- Swizzle is 0, 1, 2, 4 or 6. Base offset is 0 when swizzle is 0.
abbrev pub rules : Shared → List Bool
rules d = among d.swizzle (0 ∷ 1 ∷ 2 ∷ 4 ∷ 6 ∷ []) ∷ (not (eqb d.swizzle 0) || eqb d.base 0) ∷ []

-- what decoding answers: 0 and the descriptor, or 12 and zeros
pub record SharedRead : Type 0 where
  pub reason : ℕ
  pub descriptor : Shared

-- what encoding answers: 0 and the word, or 12 and 0
pub record SharedWord : Type 0 where
  pub reason : ℕ
  pub word : ℕ

-- Answers: 0 with the descriptor or the word, or 12 with a zero value.
abbrev pub found : Shared → SharedRead
found d = record { reason = 0; descriptor = d }

abbrev pub made : ℕ → SharedWord
made w = record { reason = 0; word = w }

abbrev pub zero : Shared
zero = record { start = 0; leading = 0; stride = 0; base = 0; mode = 0; swizzle = 0 }

abbrev pub no_descriptor : SharedRead
no_descriptor = record { reason = 12; descriptor = zero }

abbrev pub no_word : SharedWord
no_word = record { reason = 12; word = 0 }

-- what a word reads as
unfoldable pub decoded : ℕ → SharedRead
decoded = read_by layout named (λ d. all (rules d)) found no_descriptor

-- the word of a descriptor
unfoldable pub encoded : Shared → SharedWord
encoded = word_by layout numbers (λ d. all (rules d)) made no_word

-- what an answer of the code stands for: the descriptor or the word with 0, or the reason with a zero value
abbrev pub read_answer : Result Shared Reason → SharedRead
read_answer (Ok d) = found d
read_answer (Err r) = record { reason = number r; descriptor = zero }

abbrev pub word_answer : Result ℕ Reason → SharedWord
word_answer (Ok w) = made w
word_answer (Err r) = record { reason = number r; word = 0 }
