-- A descriptor with its types by name: the view that the claims speak of. Assumes nothing.
use Rattle.std.specs.Prelude.{ℕ, Bool}
use Rattle.instruction.specs.declared.Fields.{Fields}

-- the type of D
pub data Dtype : Type 0 where
  F16 : Dtype
  F32 : Dtype
  S32 : Dtype

-- the type of an element of A or B
pub data Element : Type 0 where
  F16 : Element
  Bf16 : Element
  Tf32 : Element
  E4m3 : Element
  E5m2 : Element
  E2m3 : Element
  E3m2 : Element
  E2m1 : Element
  U8 : Element
  S8 : Element

pub record Instruction : Type 0 where
  pub selector : ℕ
  pub sparse : Bool
  pub saturate : Bool
  pub dtype : Dtype
  pub atype : Element
  pub btype : Element
  pub anegate : Bool
  pub bnegate : Bool
  pub atranspose : Bool
  pub btranspose : Bool
  pub n : ℕ
  pub m : ℕ
  pub shift : ℕ

-- what reading answers: 0 and the descriptor, or 12 and zeros
pub record InstructionRead : Type 0 where
  pub reason : ℕ
  pub descriptor : Instruction

-- the same with the descriptor as numbers
pub record FieldsRead : Type 0 where
  pub reason : ℕ
  pub fields : Fields

-- what writing answers: 0 and the word, or 12 and 0
pub record InstructionWord : Type 0 where
  pub reason : ℕ
  pub word : ℕ

-- what an mma needs of its instruction descriptor: the reason of the word, and N where it reads
pub record JudgedWord : Type 0 where
  pub reason : ℕ
  pub n : ℕ
