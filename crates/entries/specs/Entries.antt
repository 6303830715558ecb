-- Descriptors, words and requests that are given whole: one table under one claim. Assumes nothing.
use Rattle.std.specs.Prelude.{ℕ, ◌≡◌, false, List, [], ◌∷◌}
use Rattle.instruction.specs.Instruction as I
use Rattle.shared_memory.specs.Shared as S
use Rattle.request.specs.Request.{request_reason}
use Rattle.instruction.specs.declared.Kind.{Kind}
use Rattle.instruction.specs.Descriptor.{Dtype, Element, Instruction}
use Rattle.shared_memory.specs.declared.Shared.{Shared}

-- an entry of each sort: a kind, a dense descriptor without `.ws`, its word and the word's reason; a shared memory descriptor and its word; an address
-- and the reason of encoding it; a request and its reason
pub data Entry : Type 0 where
  instruction : Kind → Instruction → ℕ → ℕ → Entry
  shared : Shared → ℕ → Entry
  address : ℕ → ℕ → Entry
  request : ℕ → ℕ → Entry

-- what an entry claims: the descriptor encodes to the word, the word reads as the descriptor and has the reason; and so for the others
abbrev pub Claim : Entry → Type 0
Claim (instruction kind d word reason) =
    (I.encoded kind false false d ≡ I.made word)
    × (I.decoded kind false false word ≡ I.found d)
    × (I.word_reason kind false false word ≡ reason)
Claim (shared d word) = (S.encoded d ≡ S.made word) × (S.decoded word ≡ S.found d)
Claim (address a reason) =
    ((S.encoded (record { start = a; leading = 0; stride = 0; base = 0; mode = 0; swizzle = 0 })).reason ≡ reason)
    × ((S.encoded (record { start = 0; leading = a; stride = 0; base = 0; mode = 0; swizzle = 0 })).reason ≡ reason)
    × ((S.encoded (record { start = 0; leading = 0; stride = a; base = 0; mode = 0; swizzle = 0 })).reason ≡ reason)
Claim (request columns reason) = request_reason columns ≡ reason

abbrev pub Each : List Entry → Type 0
Each [] = Unit
Each (e ∷ es) = Claim e × Each es

-- dtype, the two types, M and N, with nothing else set
abbrev pub dense : Dtype → Element → Element → ℕ → ℕ → Instruction
dense d a b m n = record {
  selector = 0;
  sparse = false;
  saturate = false;
  dtype = d;
  atype = a;
  btype = b;
  anegate = false;
  bnegate = false;
  atranspose = false;
  btranspose = false;
  n = n;
  m = m;
  shift = 0;
}

abbrev pub table : List Entry
table =
    instruction Kind.F16 (dense Dtype.F32 Element.F16 Element.F16 128 64) 0x08100010 0
    ∷ instruction Kind.Tf32 (dense Dtype.F32 Element.Tf32 Element.Tf32 64 8) 0x04020910 0
    ∷ instruction Kind.I8 (dense Dtype.S32 Element.S8 Element.U8 128 48) 0x080C00A0 0
    ∷ instruction Kind.I8 (dense Dtype.S32 Element.S8 Element.U8 128 40) 0x080A00A0 20
    ∷ shared (record { start = 0; leading = 256; stride = 128; base = 0; mode = 0; swizzle = 0 }) 0x0000400800100000
    ∷ address 262128 0
    ∷ address 262144 12
    ∷ address 8 12
    ∷ request 32 0
    ∷ request 512 0
    ∷ request 16 9
    ∷ request 96 9
    ∷ request 1024 9
    ∷ []
