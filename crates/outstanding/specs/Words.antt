-- The words in which the judge keeps what is outstanding: what each of its functions answers. Assumes nothing.
use Rattle.std.specs.Prelude.{ℕ, ◌+◌, ◌/◌, ◌%◌, ◌^◌, Bool, eqb, fold, get_or, set, replicate, Option, Some, None}
use Rattle.std.specs.Int.Bits.{bit_or}
use Rattle.tokens.specs.declared.Name.{Name}
use Rattle.statement.specs.declared.Transfer.{Transfer}
use Rattle.statement.specs.declared.Transfer.TheVariants.{Load, Store}
use Rattle.ledger.specs.declared.Ledger.{Ledger}
use Rattle.ledger.specs.declared.Span.{Span}
use Rattle.ledger.specs.Booking.{found}
use Rattle.outstanding.specs.declared.Outstanding.{Outstanding}

-- the words of loads by warp, then those of stores
abbrev pub word_of : Transfer → ℕ → ℕ
word_of Load w = w
word_of Store w = w + 4

-- bit i of a word
abbrev pub bit_at : ℕ → ℕ → Bool
bit_at word i = eqb (word / 2 ^ i % 2) 1

-- a load, or a store, by a warp is outstanding on the allocation of slot i
unfoldable pub marked : Outstanding → Transfer → (w i : ℕ) → Bool
marked o x w i = bit_at (get_or o.words (word_of x w) 0) i

-- nothing is
abbrev pub none : Outstanding
none = record { words = replicate 8 0 }

-- the bit is set
unfoldable pub begun : Outstanding → Transfer → (w i : ℕ) → Outstanding
begun o x w i = record { words = set o.words (word_of x w) (bit_or (get_or o.words (word_of x w) 0) (2 ^ i)) }

-- all bits of the word are cleared
unfoldable pub waited : Outstanding → Transfer → ℕ → Outstanding
waited o x w = record { words = set o.words (word_of x w) 0 }

-- the slots on which anything is outstanding: the bits of all words
unfoldable pub slots_of : Outstanding → ℕ
slots_of o = fold bit_or 0 o.words

-- anything is outstanding on the allocation that is found of a name, which is to be live (of another name slot 0 is looked at)
abbrev pub busy_at : Outstanding → Option Span → Bool
busy_at o (Some span) = bit_at (slots_of o) (span.start / 32)
busy_at o None = bit_at (slots_of o) 0

abbrev pub busy_on : Outstanding → Ledger → Name → Bool
busy_on o l n = busy_at o (found l n)
