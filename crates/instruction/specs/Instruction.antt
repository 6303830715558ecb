-- The instruction descriptor (docs/FORMAT.md, 'Descriptor words'): 32 bits, read under an opcode, that is a kind, `.ws` and `.sp`. The code goes by
-- the fields as numbers; a descriptor with named types is a view of them. Assumes nothing.
use Rattle.std.specs.Prelude.{ℕ, ◌*◌, ◌%◌, Bool, true, false, ◌&&◌, ◌||◌, not, cond, List, [], ◌∷◌, eqb, leb, get_or, Result, Ok, Err}
use Rattle.std.specs.Bool.{beq}
use Rattle.std.proofs.Math.Option.{Option, none, some}
use Rattle.laws.specs.Tests.{all, among, find, bit, is_some}
use Rattle.laws.specs.Layout.{Part, plain, scaled, fixed, ranges, pack}
use Rattle.laws.specs.Format.{read_by, word_by}
use Rattle.laws.specs.Rules.{Rule, rule, first_broken}
use Rattle.instruction.specs.Descriptor.{Dtype, Element, Instruction, InstructionRead, FieldsRead, InstructionWord, JudgedWord}
use Rattle.reasons.specs.declared.Reason.{Reason}
use Rattle.reasons.specs.Reasons.{number, answered}
use Rattle.instruction.specs.declared.Kind.{Kind}
use Rattle.instruction.specs.declared.Fields.{Fields}
use Rattle.instruction.specs.declared.Judged.{Judged}

-- Bits 0-1 sparsity selector, 2 sparse, 3 saturate, 4-5 dtype, 7-9 atype, 10-12 btype, 13 and 14 negate A and B, 15 and 16 transpose A and B,
-- 17-22 N/8, 24-28 M/16, 30-31 max shift. Bits 6, 23 and 29 are 0.
abbrev pub layout : List Part
layout =
    plain 0 1
    ∷ plain 2 2
    ∷ plain 3 3
    ∷ plain 4 5
    ∷ fixed 6 6 0
    ∷ plain 7 9
    ∷ plain 10 12
    ∷ plain 13 13
    ∷ plain 14 14
    ∷ plain 15 15
    ∷ plain 16 16
    ∷ scaled 17 22 8
    ∷ fixed 23 23 0
    ∷ scaled 24 28 16
    ∷ fixed 29 29 0
    ∷ plain 30 31
    ∷ []

-- dtype codes: f16 0, f32 1, s32 2
abbrev pub dtype_code : Dtype → ℕ
dtype_code Dtype.F16 = 0
dtype_code Dtype.F32 = 1
dtype_code Dtype.S32 = 2

abbrev pub dtypes : List Dtype
dtypes = Dtype.F16 ∷ Dtype.F32 ∷ Dtype.S32 ∷ []

-- the kinds by number
abbrev pub kind_number : Kind → ℕ
kind_number Kind.F16 = 0
kind_number Kind.Tf32 = 1
kind_number Kind.F8f6f4 = 2
kind_number Kind.I8 = 3

-- the kind that an element type is of
abbrev pub kind_of : Element → Kind
kind_of Element.F16 = Kind.F16
kind_of Element.Bf16 = Kind.F16
kind_of Element.Tf32 = Kind.Tf32
kind_of Element.E4m3 = Kind.F8f6f4
kind_of Element.E5m2 = Kind.F8f6f4
kind_of Element.E2m3 = Kind.F8f6f4
kind_of Element.E3m2 = Kind.F8f6f4
kind_of Element.E2m1 = Kind.F8f6f4
kind_of Element.U8 = Kind.I8
kind_of Element.S8 = Kind.I8

-- its code: f16 0, bf16 1; tf32 2; e4m3 0, e5m2 1, e2m3 3, e3m2 4, e2m1 5; u8 0, s8 1
abbrev pub code : Element → ℕ
code Element.F16 = 0
code Element.Bf16 = 1
code Element.Tf32 = 2
code Element.E4m3 = 0
code Element.E5m2 = 1
code Element.E2m3 = 3
code Element.E3m2 = 4
code Element.E2m1 = 5
code Element.U8 = 0
code Element.S8 = 1

abbrev pub elements : List Element
elements =
    Element.F16
    ∷ Element.Bf16
    ∷ Element.Tf32
    ∷ Element.E4m3
    ∷ Element.E5m2
    ∷ Element.E2m3
    ∷ Element.E3m2
    ∷ Element.E2m1
    ∷ Element.U8
    ∷ Element.S8
    ∷ []

abbrev pub of_kind : Kind → Element → Bool
of_kind kind t = eqb (kind_number (kind_of t)) (kind_number kind)

-- the dtype of a code, and the element type of a kind with a code
abbrev pub dtype_of : ℕ → Option Dtype
dtype_of c = find (λ d. eqb c (dtype_code d)) dtypes

abbrev pub element_of : Kind → ℕ → Option Element
element_of kind c = find (λ t. of_kind kind t && eqb c (code t)) elements

-- the fields of a descriptor as numbers
abbrev pub fields : Instruction → Fields
fields d = record {
  selector = d.selector;
  sparse = bit d.sparse;
  saturate = bit d.saturate;
  dtype = dtype_code d.dtype;
  atype = code d.atype;
  btype = code d.btype;
  anegate = bit d.anegate;
  bnegate = bit d.bnegate;
  atranspose = bit d.atranspose;
  btranspose = bit d.btranspose;
  n = d.n;
  m = d.m;
  shift = d.shift;
}

-- in the order of the layout
abbrev pub values : Fields → List ℕ
values f =
    f.selector
    ∷ f.sparse
    ∷ f.saturate
    ∷ f.dtype
    ∷ f.atype
    ∷ f.btype
    ∷ f.anegate
    ∷ f.bnegate
    ∷ f.atranspose
    ∷ f.btranspose
    ∷ f.n
    ∷ f.m
    ∷ f.shift
    ∷ []

-- the fields in a list of thirteen numbers
abbrev pub fields_in : List ℕ → Fields
fields_in l = record {
  selector = get_or l 0 0;
  sparse = get_or l 1 0;
  saturate = get_or l 2 0;
  dtype = get_or l 3 0;
  atype = get_or l 4 0;
  btype = get_or l 5 0;
  anegate = get_or l 6 0;
  bnegate = get_or l 7 0;
  atranspose = get_or l 8 0;
  btranspose = get_or l 9 0;
  n = get_or l 10 0;
  m = get_or l 11 0;
  shift = get_or l 12 0;
}

abbrev pub numbers : Instruction → List ℕ
numbers d = values (fields d)

-- the descriptor of a list of numbers, once its types are known
abbrev pub filled : List ℕ → Dtype → Element → Element → Instruction
filled l d a b = record {
  selector = get_or l 0 0;
  sparse = eqb (get_or l 1 0) 1;
  saturate = eqb (get_or l 2 0) 1;
  dtype = d;
  atype = a;
  btype = b;
  anegate = eqb (get_or l 6 0) 1;
  bnegate = eqb (get_or l 7 0) 1;
  atranspose = eqb (get_or l 8 0) 1;
  btranspose = eqb (get_or l 9 0) 1;
  n = get_or l 10 0;
  m = get_or l 11 0;
  shift = get_or l 12 0;
}

abbrev pub named3 : List ℕ → Option Dtype → Option Element → Option Element → Option Instruction
named3 l (some d) (some a) (some b) = some (filled l d a b)
named3 l (some d) (some a) none = none
named3 l (some d) none b = none
named3 l none a b = none

-- the descriptor that a list of numbers names under a kind: none if dtype has code 3, or a type a code that is not of the kind
abbrev pub named : Kind → List ℕ → Option Instruction
named kind l = named3 l (dtype_of (get_or l 3 0)) (element_of kind (get_or l 4 0)) (element_of kind (get_or l 5 0))

abbrev pub is_i8 : Kind → Bool
is_i8 kind = eqb (kind_number kind) (kind_number Kind.I8)

-- Both types are of the kind. Sparse stands exactly with `.sp`. Selector is 0 when dense. Saturate only for i8, negate not for i8. Max shift
-- only with `.ws`.
abbrev pub rules : Kind → Bool → Bool → Instruction → List Bool
rules kind ws sp d =
    of_kind kind d.atype
    ∷ of_kind kind d.btype
    ∷ beq d.sparse sp
    ∷ (d.sparse || eqb d.selector 0)
    ∷ (not d.saturate || is_i8 kind)
    ∷ (not (d.anegate || d.bnegate) || not (is_i8 kind))
    ∷ (eqb d.shift 0 || ws)
    ∷ []

-- the same on numbers: their codes name types,
abbrev pub typed : Kind → List ℕ → Bool
typed kind l = all (is_some (dtype_of (get_or l 3 0)) ∷ is_some (element_of kind (get_or l 4 0)) ∷ is_some (element_of kind (get_or l 5 0)) ∷ [])

-- and they keep the rules that do not look at the types
abbrev pub flags : Kind → Bool → Bool → List ℕ → List Bool
flags kind ws sp l =
    beq (eqb (get_or l 1 0) 1) sp
    ∷ (eqb (get_or l 1 0) 1 || eqb (get_or l 0 0) 0)
    ∷ (not (eqb (get_or l 2 0) 1) || is_i8 kind)
    ∷ (not (eqb (get_or l 6 0) 1 || eqb (get_or l 7 0) 1) || not (is_i8 kind))
    ∷ (eqb (get_or l 12 0) 0 || ws)
    ∷ []

-- a descriptor is named and keeps the rules
abbrev pub keeps : Kind → Bool → Bool → Option Instruction → Bool
keeps kind ws sp none = false
keeps kind ws sp (some d) = all (rules kind ws sp d)

-- Answers: 0 with the descriptor or the word, or 12 with a zero value.
abbrev pub found : Instruction → InstructionRead
found d = record { reason = 0; descriptor = d }

abbrev pub made : ℕ → InstructionWord
made w = record { reason = 0; word = w }

-- every number of it is 0
abbrev pub zero : Instruction
zero = filled [] Dtype.F16 Element.F16 Element.F16

abbrev pub no_descriptor : InstructionRead
no_descriptor = record { reason = 12; descriptor = zero }

-- an answer with its descriptor as numbers
abbrev pub good : Fields → FieldsRead
good f = record { reason = 0; fields = f }

abbrev pub fields_read : InstructionRead → FieldsRead
fields_read a = record { reason = a.reason; fields = fields a.descriptor }

abbrev pub no_word : InstructionWord
no_word = record { reason = 12; word = 0 }

-- what a word reads as under an opcode
unfoldable pub decoded : Kind → Bool → Bool → ℕ → InstructionRead
decoded kind ws sp = read_by layout (named kind) (λ d. all (rules kind ws sp d)) found no_descriptor

-- the word of a descriptor under an opcode; N 0 to 504 in eights and M 0 to 496 in sixteens are in range
unfoldable pub encoded : Kind → Bool → Bool → Instruction → InstructionWord
encoded kind ws sp = word_by layout numbers (λ d. all (rules kind ws sp d)) made no_word

-- the word of thirteen numbers under an opcode: they are in range, and name a descriptor that keeps the rules
unfoldable pub encoded_numbers : Kind → Bool → Bool → List ℕ → InstructionWord
encoded_numbers kind ws sp l = cond (all (ranges layout l) && keeps kind ws sp (named kind l)) (made (pack layout l)) no_word

-- a multiple of `by`, from `least` to `most`
abbrev pub steps : ℕ → ℕ → ℕ → ℕ → Bool
steps least most by n = all (leb least n ∷ leb n most ∷ eqb (n % by) 0 ∷ [])

-- M is 64 or 128; with `.ws` 32, 64 or 128.
abbrev pub m_listed : Bool → ℕ → Bool
m_listed ws m = cond ws (among m (32 ∷ 64 ∷ 128 ∷ [])) (among m (64 ∷ 128 ∷ []))

-- N by the rows of the PTX ISA's table of kinds and shapes. Without `.ws`, dense or sparse: 8 to 256 in eights; for i8 8 to 32 in eights, then 48 to 256
-- in sixteens. With `.ws`, in every kind: 64, 128 or 256 when dense, 64 or 128 when sparse.
abbrev pub n_listed : Kind → Bool → Bool → ℕ → Bool
n_listed kind false sp n = cond (is_i8 kind) (steps 8 32 8 n || steps 48 256 16 n) (steps 8 256 8 n)
n_listed kind true false n = among n (64 ∷ 128 ∷ 256 ∷ [])
n_listed kind true true n = among n (64 ∷ 128 ∷ [])

-- The listed N themselves; `n_exact` (proofs/ListedN.antt) shows that rule and lists agree for N 0, 8, .. 504.
-- f16, tf32 and f8f6f4 without `.ws`
abbrev pub float_numbers : List ℕ
float_numbers = 8 ∷ 16 ∷ 24 ∷ 32 ∷ 40 ∷ 48 ∷ 56 ∷ 64 ∷ 72 ∷ 80 ∷ 88 ∷ 96 ∷ 104 ∷ 112 ∷ 120 ∷ 128 ∷ 136 ∷ 144 ∷ 152 ∷ 160 ∷ 168 ∷ 176 ∷ 184 ∷ 192 ∷ 200 ∷ 208 ∷ 216 ∷ 224 ∷ 232 ∷ 240 ∷ 248 ∷ 256 ∷ []

-- i8 without `.ws`
abbrev pub i8_numbers : List ℕ
i8_numbers = 8 ∷ 16 ∷ 24 ∷ 32 ∷ 48 ∷ 64 ∷ 80 ∷ 96 ∷ 112 ∷ 128 ∷ 144 ∷ 160 ∷ 176 ∷ 192 ∷ 208 ∷ 224 ∷ 240 ∷ 256 ∷ []

-- a kind without `.ws`
abbrev pub without_ws : Kind → List ℕ
without_ws Kind.F16 = float_numbers
without_ws Kind.Tf32 = float_numbers
without_ws Kind.F8f6f4 = float_numbers
without_ws Kind.I8 = i8_numbers

-- an opcode: a kind, then whether `.ws` stands, then whether `.sp` does
abbrev pub n_table : Kind → Bool → Bool → List ℕ
n_table kind false sp = without_ws kind
n_table kind true false = 64 ∷ 128 ∷ 256 ∷ []
n_table kind true true = 64 ∷ 128 ∷ []

-- what bits 17-22 can say: 0 to 504 in eights
abbrev pub n_fits : ℕ → Bool
n_fits n = steps 0 504 8 n

-- By codes, the dtypes of a kind: f16 has f32, and f16 with two f16; both its types agree. tf32 has f32; f8f6f4 f16 or f32; i8 s32.
abbrev pub types_listed : Kind → ℕ → ℕ → ℕ → Bool
types_listed Kind.F16 d a b =
    eqb a b && (eqb d (dtype_code Dtype.F32) || (eqb d (dtype_code Dtype.F16) && eqb a (code Element.F16)))
types_listed Kind.Tf32 d a b = eqb d (dtype_code Dtype.F32)
types_listed Kind.F8f6f4 d a b = eqb d (dtype_code Dtype.F16) || eqb d (dtype_code Dtype.F32)
types_listed Kind.I8 d a b = eqb d (dtype_code Dtype.S32)

-- the listing rules in their order, each with its reason: M, N and the types
abbrev pub listing : Kind → Bool → Bool → Fields → List Rule
listing kind ws sp f =
    rule 13 (m_listed ws f.m)
    ∷ rule 20 (n_listed kind ws sp f.n)
    ∷ rule 21 (types_listed kind f.dtype f.atype f.btype)
    ∷ []

-- the reason of some numbers under an opcode: 12 if no word reads as them, else the first listing rule that they break
abbrev pub fields_reason : Kind → Bool → Bool → Fields → ℕ
fields_reason kind ws sp f = cond (eqb (encoded_numbers kind ws sp (values f)).reason 0) (first_broken (listing kind ws sp f)) 12

-- K is 16, 8, 32, 32 in the order of the kinds, doubled when sparse.
abbrev pub dense_k : Kind → ℕ
dense_k Kind.F16 = 16
dense_k Kind.Tf32 = 8
dense_k Kind.F8f6f4 = 32
dense_k Kind.I8 = 32

abbrev pub k_of : Kind → Bool → ℕ
k_of kind sp = cond sp (dense_k kind * 2) (dense_k kind)

-- the reason of a word under an opcode: 12 if it has no reading, else the first listing rule that it breaks
abbrev pub read_reason : Kind → Bool → Bool → InstructionRead → ℕ
read_reason kind ws sp a = cond (eqb a.reason 0) (first_broken (listing kind ws sp (fields a.descriptor))) a.reason

abbrev pub word_reason : Kind → Bool → Bool → ℕ → ℕ
word_reason kind ws sp word = read_reason kind ws sp (decoded kind ws sp word)

-- what an mma needs of a word: its reason, and N where it reads
abbrev pub judged : Kind → Bool → Bool → ℕ → JudgedWord
judged kind ws sp word = record { reason = word_reason kind ws sp word; n = (decoded kind ws sp word).descriptor.n }

-- what an answer of the code stands for: the fields or the word with 0, or the reason with a zero value
abbrev pub read_answer : Result Fields Reason → FieldsRead
read_answer (Ok f) = good f
read_answer (Err r) = record { reason = number r; fields = fields zero }

abbrev pub word_answer : Result ℕ Reason → InstructionWord
word_answer (Ok w) = made w
word_answer (Err r) = record { reason = number r; word = 0 }

abbrev pub judged_answer : Judged → JudgedWord
judged_answer j = record { reason = answered j.listed; n = j.n }
