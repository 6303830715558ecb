-- What the functions on plain numbers answer: those of the crates `instruction` and `shared_memory`, and for a number that is no kind, or a flag that is not 0 or 1, what
-- they answer to a refusal. Assumes nothing.
use Rattle.std.specs.Prelude.{ℕ, ◌&&◌, cond, [], ◌∷◌, eqb, leb, find, Option, None, Some, Result, Ok, Err}
use Rattle.reasons.specs.declared.Reason.{Reason}
use Rattle.reasons.specs.Reasons.{number}
use Rattle.instruction.specs.Instruction as I
use Rattle.instruction.specs.declared.Kind.{Kind}
use Rattle.instruction.specs.declared.Fields.{Fields}
use Rattle.instruction.specs.declared.Opcode.{Opcode}
use Rattle.instruction.specs.Descriptor.{InstructionRead, InstructionWord}

-- the kind of a number: 0 f16, 1 tf32, 2 f8f6f4, 3 i8
abbrev pub kind_of : ℕ → Option Kind
kind_of n = find (λ k. eqb n (I.kind_number k)) (Kind.F16 ∷ Kind.Tf32 ∷ Kind.F8f6f4 ∷ Kind.I8 ∷ [])

-- the opcode of a kind's number and two flags
abbrev pub with_flags : ℕ → ℕ → Option Kind → Option Opcode
with_flags ws sp None = None
with_flags ws sp (Some k) = cond (leb ws 1 && leb sp 1) (Some (record { kind = k; ws = eqb ws 1; sp = eqb sp 1 })) None

unfoldable pub opcode_of : ℕ → ℕ → ℕ → Option Opcode
opcode_of kind ws sp = with_flags ws sp (kind_of kind)

-- what a word reads as
abbrev pub decoded_for : Option Opcode → ℕ → InstructionRead
decoded_for None word = I.no_descriptor
decoded_for (Some o) word = I.decoded o.kind o.ws o.sp word

-- the word of fields
abbrev pub encoded_for : Option Opcode → Fields → InstructionWord
encoded_for None f = I.no_word
encoded_for (Some o) f = I.encoded_numbers o.kind o.ws o.sp (I.values f)

-- the reason of a word
abbrev pub judged_for : Option Opcode → ℕ → ℕ
judged_for None word = 12
judged_for (Some o) word = I.word_reason o.kind o.ws o.sp word

-- the reason of fields
abbrev pub listed_for : Option Opcode → Fields → ℕ
listed_for None f = 12
listed_for (Some o) f = I.fields_reason o.kind o.ws o.sp f

-- 0 and K, or 12 and 0
pub record KRead : Type 0 where
  pub reason : ℕ
  pub k : ℕ

abbrev pub k_for : Option Opcode → KRead
k_for None = record { reason = 12; k = 0 }
k_for (Some o) = record { reason = 0; k = I.k_of o.kind o.sp }

-- what the code answers of K
abbrev pub k_answer : Result ℕ Reason → KRead
k_answer (Ok k) = record { reason = 0; k = k }
k_answer (Err r) = record { reason = number r; k = 0 }
