-- Worked examples at both sides of each figure of docs/FORMAT.md, 'Descriptor words', and of a request: tables under one claim, so that a wrong figure in
-- a definition is seen here. Assumes nothing.
use Rattle.std.specs.Prelude.{ℕ, ◌≡◌, Bool, true, false, List, [], ◌∷◌, ◌++◌, map}
use Rattle.std.proofs.Math.Option.{Option, none, some}
use Rattle.laws.specs.Tests.{bit}
use Rattle.laws.specs.Layout.{pack}
use Rattle.laws.specs.Worked.{Gives}
use Rattle.instruction.specs.Instruction as I
use Rattle.instruction.specs.Descriptor.{Dtype, Element}
use Rattle.instruction.specs.declared.Kind.{Kind}
use Rattle.instruction.specs.declared.Fields.{Fields}
use Rattle.shared_memory.specs.Shared as S
use Rattle.request.specs.Request.{request_reason}

-- a row: what is held, the cases, and the answer that each of them has
abbrev pub Row : Type 0 → Type 0 → Type 0 → Type 0
Row C A B = C × List A × B

-- a function gives each case of each row the row's answer
abbrev pub Right : {C A B : Type 0} → (C → A → B) → List (Row C A B) → Type 0
Right f rows = map (λ row. map (f row.0) row.1) rows ≡ map (λ row. map (λ _. row.2) row.1) rows

-- each of some with each of others
abbrev pub each : {A B : Type 0} → List A → List B → List (A × B)
each [] bs = []
each (a ∷ others) bs = map (λ b. (a, b)) bs ++ each others bs

-- ---- instruction descriptors. The fields by codes: sparse, dtype, the two types, M and N, with nothing else set
abbrev pub coded : Bool → ℕ → ℕ → ℕ → ℕ → ℕ → Fields
coded sp d a b m n = I.fields_in (0 ∷ bit sp ∷ 0 ∷ d ∷ a ∷ b ∷ 0 ∷ 0 ∷ 0 ∷ 0 ∷ n ∷ m ∷ 0 ∷ [])

-- the same with types that each kind lists
abbrev pub shaped : Kind → Bool → ℕ → ℕ → Fields
shaped Kind.F16 sp m n = coded sp 1 0 0 m n
shaped Kind.Tf32 sp m n = coded sp 1 2 2 m n
shaped Kind.F8f6f4 sp m n = coded sp 1 0 0 m n
shaped Kind.I8 sp m n = coded sp 2 0 0 m n

-- sparsity selector, sparse, saturate, negate A, negate B and max shift, of a listed shape
abbrev pub Flags : Type 0
Flags = ℕ × ℕ × ℕ × ℕ × ℕ × ℕ

abbrev pub flagged : Kind → Flags → Fields
flagged kind x =
    let f = shaped kind false 128 64 in
    I.fields_in (x.0 ∷ x.1 ∷ x.2 ∷ f.dtype ∷ f.atype ∷ f.btype ∷ x.3 ∷ x.4 ∷ 0 ∷ 0 ∷ f.n ∷ f.m ∷ x.5 ∷ [])

-- the reason of some fields, and that of their word
abbrev pub of_fields : Kind → Bool → Bool → Fields → ℕ
of_fields kind ws sp f = I.fields_reason kind ws sp f

abbrev pub of_word : Kind → Bool → Bool → Fields → ℕ
of_word kind ws sp f = I.word_reason kind ws sp (pack I.layout (I.values f))

-- K of the kinds, dense and sparse
abbrev pub ks : List (Row Bool Kind ℕ)
ks =
    (false, Kind.F16 ∷ [], 16)
    ∷ (false, Kind.Tf32 ∷ [], 8)
    ∷ (false, Kind.F8f6f4 ∷ Kind.I8 ∷ [], 32)
    ∷ (true, Kind.F16 ∷ [], 32)
    ∷ (true, Kind.Tf32 ∷ [], 16)
    ∷ (true, Kind.F8f6f4 ∷ Kind.I8 ∷ [], 64)
    ∷ []

-- the type of each code under each kind
abbrev pub codes : List (Row Kind ℕ (Option Element))
codes =
    (Kind.F16, 0 ∷ [], some Element.F16)
    ∷ (Kind.F16, 1 ∷ [], some Element.Bf16)
    ∷ (Kind.F16, 2 ∷ 3 ∷ 4 ∷ 5 ∷ 6 ∷ 7 ∷ [], none)
    ∷ (Kind.Tf32, 2 ∷ [], some Element.Tf32)
    ∷ (Kind.Tf32, 0 ∷ 1 ∷ 3 ∷ 4 ∷ 5 ∷ 6 ∷ 7 ∷ [], none)
    ∷ (Kind.F8f6f4, 0 ∷ [], some Element.E4m3)
    ∷ (Kind.F8f6f4, 1 ∷ [], some Element.E5m2)
    ∷ (Kind.F8f6f4, 3 ∷ [], some Element.E2m3)
    ∷ (Kind.F8f6f4, 4 ∷ [], some Element.E3m2)
    ∷ (Kind.F8f6f4, 5 ∷ [], some Element.E2m1)
    ∷ (Kind.F8f6f4, 2 ∷ 6 ∷ 7 ∷ [], none)
    ∷ (Kind.I8, 0 ∷ [], some Element.U8)
    ∷ (Kind.I8, 1 ∷ [], some Element.S8)
    ∷ (Kind.I8, 2 ∷ 3 ∷ 4 ∷ 5 ∷ 6 ∷ 7 ∷ [], none)
    ∷ []

-- the dtype of each code
abbrev pub dtypes : List (ℕ × Option Dtype)
dtypes = (0, some Dtype.F16) ∷ (1, some Dtype.F32) ∷ (2, some Dtype.S32) ∷ (3, none) ∷ []

-- codes of dtype, A and B under each kind: listed, not listed, and with no reading
abbrev pub types : List (Row Kind (ℕ × ℕ × ℕ) ℕ)
types =
    (Kind.F16, (0, 0, 0) ∷ (1, 0, 0) ∷ (1, 1, 1) ∷ [], 0)
    ∷ (Kind.F16, (0, 1, 1) ∷ (1, 0, 1) ∷ (1, 1, 0) ∷ (0, 0, 1) ∷ (0, 1, 0) ∷ (2, 0, 0) ∷ (2, 1, 1) ∷ [], 21)
    ∷ (Kind.F16, (3, 0, 0) ∷ (1, 2, 2) ∷ (1, 2, 0) ∷ (1, 0, 2) ∷ [], 12)
    ∷ (Kind.Tf32, (1, 2, 2) ∷ [], 0)
    ∷ (Kind.Tf32, (0, 2, 2) ∷ (2, 2, 2) ∷ [], 21)
    ∷ (Kind.Tf32, (3, 2, 2) ∷ (1, 0, 2) ∷ (1, 2, 1) ∷ [], 12)
    ∷ (Kind.F8f6f4, (0, 0, 0) ∷ (0, 1, 3) ∷ (0, 4, 5) ∷ (1, 0, 0) ∷ (1, 1, 3) ∷ (1, 5, 4) ∷ [], 0)
    ∷ (Kind.F8f6f4, (2, 0, 0) ∷ (2, 4, 5) ∷ [], 21)
    ∷ (Kind.F8f6f4, (3, 0, 0) ∷ (1, 2, 0) ∷ (1, 0, 2) ∷ (1, 6, 0) ∷ (1, 0, 7) ∷ [], 12)
    ∷ (Kind.I8, (2, 0, 0) ∷ (2, 0, 1) ∷ (2, 1, 0) ∷ (2, 1, 1) ∷ [], 0)
    ∷ (Kind.I8, (0, 0, 0) ∷ (1, 1, 1) ∷ [], 21)
    ∷ (Kind.I8, (3, 0, 0) ∷ (2, 2, 0) ∷ (2, 0, 2) ∷ [], 12)
    ∷ []

-- without `.sp`, with it, and either
abbrev pub without_sp : List Bool
without_sp = false ∷ []

abbrev pub with_sp : List Bool
with_sp = true ∷ []

abbrev pub either_sp : List Bool
either_sp = without_sp ++ with_sp

-- the kinds but i8, i8, and all
abbrev pub floats : List Kind
floats = Kind.F16 ∷ Kind.Tf32 ∷ Kind.F8f6f4 ∷ []

abbrev pub integers : List Kind
integers = Kind.I8 ∷ []

abbrev pub kinds : List Kind
kinds = floats ++ integers

-- `.sp`, a kind, and M or N
abbrev pub Case : Type 0
Case = Bool × (Kind × ℕ)

-- the reason of a case that has its M and N 64, and of one that has its N and M 64
abbrev pub with_m : (Kind → Bool → Bool → Fields → ℕ) → Bool → Case → ℕ
with_m reason ws c = reason c.1.0 ws c.0 (shaped c.1.0 c.0 c.1.1 64)

abbrev pub with_n : (Kind → Bool → Bool → Fields → ℕ) → Bool → Case → ℕ
with_n reason ws c = reason c.1.0 ws c.0 (shaped c.1.0 c.0 64 c.1.1)

-- M without and with `.ws`
abbrev pub ms : List (Row Bool Case ℕ)
ms =
    (false, each either_sp (each kinds (64 ∷ 128 ∷ [])), 0)
    ∷ (false, each either_sp (each kinds (0 ∷ 32 ∷ 48 ∷ 80 ∷ 96 ∷ 112 ∷ 144 ∷ 256 ∷ [])), 13)
    ∷ (true, each either_sp (each kinds (32 ∷ 64 ∷ 128 ∷ [])), 0)
    ∷ (true, each either_sp (each kinds (0 ∷ 16 ∷ 48 ∷ 80 ∷ 96 ∷ 112 ∷ 144 ∷ 256 ∷ [])), 13)
    ∷ []

-- N without and with `.ws`, dense and sparse
abbrev pub ns : List (Row Bool Case ℕ)
ns =
    (false, each either_sp (each floats (8 ∷ 16 ∷ 24 ∷ 40 ∷ 248 ∷ 256 ∷ [])), 0)
    ∷ (false, each either_sp (each floats (0 ∷ 264 ∷ 504 ∷ [])), 20)
    ∷ (false, each either_sp (each integers (8 ∷ 16 ∷ 24 ∷ 32 ∷ 48 ∷ 64 ∷ 240 ∷ 256 ∷ [])), 0)
    ∷ (false, each either_sp (each integers (0 ∷ 40 ∷ 56 ∷ 72 ∷ 248 ∷ 264 ∷ 272 ∷ 504 ∷ [])), 20)
    ∷ (true, each without_sp (each kinds (64 ∷ 128 ∷ 256 ∷ [])), 0)
    ∷ (true, each without_sp (each kinds (0 ∷ 8 ∷ 32 ∷ 48 ∷ 56 ∷ 72 ∷ 120 ∷ 136 ∷ 192 ∷ 248 ∷ 264 ∷ 504 ∷ [])), 20)
    ∷ (true, each with_sp (each kinds (64 ∷ 128 ∷ [])), 0)
    ∷ (true, each with_sp (each kinds (0 ∷ 8 ∷ 32 ∷ 48 ∷ 56 ∷ 72 ∷ 120 ∷ 136 ∷ 192 ∷ 248 ∷ 256 ∷ 264 ∷ 504 ∷ [])), 20)
    ∷ []

-- of several that are not listed M comes first, then N: dtype, M and N of kind f16 with two types f16
abbrev pub several : List ((ℕ × ℕ × ℕ) × ℕ)
several =
    ((2, 256, 264), 13)
    ∷ ((2, 256, 64), 13)
    ∷ ((1, 256, 264), 13)
    ∷ ((2, 128, 264), 20)
    ∷ ((2, 128, 64), 21)
    ∷ ((3, 256, 264), 12)
    ∷ []

-- flags under a kind, `.ws` and `.sp`
abbrev pub flags : List (Row (Kind × Bool × Bool) Flags ℕ)
flags =
    -- sparse exactly with `.sp`; the selector is 0 when dense
    ((Kind.F16, false, true), (0, 1, 0, 0, 0, 0) ∷ (1, 1, 0, 0, 0, 0) ∷ (3, 1, 0, 0, 0, 0) ∷ [], 0)
    ∷ ((Kind.F16, false, true), (0, 0, 0, 0, 0, 0) ∷ [], 12)
    ∷ ((Kind.F16, false, false), (0, 0, 0, 0, 0, 0) ∷ [], 0)
    ∷ ((Kind.F16, false, false), (0, 1, 0, 0, 0, 0) ∷ (1, 0, 0, 0, 0, 0) ∷ (3, 0, 0, 0, 0, 0) ∷ [], 12)
    -- saturate only for i8
    ∷ ((Kind.F16, false, false), (0, 0, 1, 0, 0, 0) ∷ [], 12)
    ∷ ((Kind.Tf32, false, false), (0, 0, 1, 0, 0, 0) ∷ [], 12)
    ∷ ((Kind.F8f6f4, false, false), (0, 0, 1, 0, 0, 0) ∷ [], 12)
    ∷ ((Kind.I8, false, false), (0, 0, 1, 0, 0, 0) ∷ [], 0)
    -- negate not for i8
    ∷ ((Kind.F16, false, false), (0, 0, 0, 1, 0, 0) ∷ (0, 0, 0, 0, 1, 0) ∷ (0, 0, 0, 1, 1, 0) ∷ [], 0)
    ∷ ((Kind.Tf32, false, false), (0, 0, 0, 1, 0, 0) ∷ (0, 0, 0, 0, 1, 0) ∷ [], 0)
    ∷ ((Kind.F8f6f4, false, false), (0, 0, 0, 1, 0, 0) ∷ (0, 0, 0, 0, 1, 0) ∷ [], 0)
    ∷ ((Kind.I8, false, false), (0, 0, 0, 1, 0, 0) ∷ (0, 0, 0, 0, 1, 0) ∷ (0, 0, 0, 1, 1, 0) ∷ [], 12)
    -- max shift only with `.ws`
    ∷ ((Kind.F16, true, false), (0, 0, 0, 0, 0, 0) ∷ (0, 0, 0, 0, 0, 1) ∷ (0, 0, 0, 0, 0, 3) ∷ [], 0)
    ∷ ((Kind.F16, false, false), (0, 0, 0, 0, 0, 1) ∷ (0, 0, 0, 0, 0, 3) ∷ [], 12)
    ∷ []

-- under a kind, `.ws` and `.sp`, a word with one field set beside M, N and the types, and what it says: each field in its place
abbrev pub words : List ((Kind × Bool × Bool × ℕ) × List ℕ)
words =
    ((Kind.F16, false, true, 0x08100016), 2 ∷ 1 ∷ 0 ∷ 1 ∷ 0 ∷ 0 ∷ 0 ∷ 0 ∷ 0 ∷ 0 ∷ 64 ∷ 128 ∷ 0 ∷ [])
    ∷ ((Kind.I8, false, false, 0x08100028), 0 ∷ 0 ∷ 1 ∷ 2 ∷ 0 ∷ 0 ∷ 0 ∷ 0 ∷ 0 ∷ 0 ∷ 64 ∷ 128 ∷ 0 ∷ [])
    ∷ ((Kind.F8f6f4, false, false, 0x08100E90), 0 ∷ 0 ∷ 0 ∷ 1 ∷ 5 ∷ 3 ∷ 0 ∷ 0 ∷ 0 ∷ 0 ∷ 64 ∷ 128 ∷ 0 ∷ [])
    ∷ ((Kind.F16, false, false, 0x08102010), 0 ∷ 0 ∷ 0 ∷ 1 ∷ 0 ∷ 0 ∷ 1 ∷ 0 ∷ 0 ∷ 0 ∷ 64 ∷ 128 ∷ 0 ∷ [])
    ∷ ((Kind.F16, false, false, 0x08104010), 0 ∷ 0 ∷ 0 ∷ 1 ∷ 0 ∷ 0 ∷ 0 ∷ 1 ∷ 0 ∷ 0 ∷ 64 ∷ 128 ∷ 0 ∷ [])
    ∷ ((Kind.F16, false, false, 0x08108010), 0 ∷ 0 ∷ 0 ∷ 1 ∷ 0 ∷ 0 ∷ 0 ∷ 0 ∷ 1 ∷ 0 ∷ 64 ∷ 128 ∷ 0 ∷ [])
    ∷ ((Kind.F16, false, false, 0x08110010), 0 ∷ 0 ∷ 0 ∷ 1 ∷ 0 ∷ 0 ∷ 0 ∷ 0 ∷ 0 ∷ 1 ∷ 64 ∷ 128 ∷ 0 ∷ [])
    ∷ ((Kind.F16, false, false, 0x087E0010), 0 ∷ 0 ∷ 0 ∷ 1 ∷ 0 ∷ 0 ∷ 0 ∷ 0 ∷ 0 ∷ 0 ∷ 504 ∷ 128 ∷ 0 ∷ [])
    ∷ ((Kind.F16, false, false, 0x1F100010), 0 ∷ 0 ∷ 0 ∷ 1 ∷ 0 ∷ 0 ∷ 0 ∷ 0 ∷ 0 ∷ 0 ∷ 64 ∷ 496 ∷ 0 ∷ [])
    ∷ ((Kind.F16, true, false, 0xC8100010), 0 ∷ 0 ∷ 0 ∷ 1 ∷ 0 ∷ 0 ∷ 0 ∷ 0 ∷ 0 ∷ 0 ∷ 64 ∷ 128 ∷ 3 ∷ [])
    ∷ []

-- a word of kind f16 that reads, and each of the bits 6, 23 and 29 set in it
abbrev pub fixed_bits : List (ℕ × ℕ)
fixed_bits = (0x08100010, 0) ∷ (0x08100050, 12) ∷ (0x08900010, 12) ∷ (0x28100010, 12) ∷ []

-- what encoding takes of M and N: 0 to 496 in sixteens, 0 to 504 in eights
abbrev pub ranges : List ((ℕ × ℕ) × ℕ)
ranges =
    ((0, 0), 0)
    ∷ ((16, 8), 0)
    ∷ ((496, 504), 0)
    ∷ ((512, 64), 12)
    ∷ ((24, 64), 12)
    ∷ ((8, 64), 12)
    ∷ ((128, 512), 12)
    ∷ ((128, 12), 12)
    ∷ ((128, 4), 12)
    ∷ []

-- ---- shared memory descriptors: swizzle under a base offset
abbrev pub swizzles : List (Row ℕ ℕ ℕ)
swizzles =
    (0, 0 ∷ 1 ∷ 2 ∷ 4 ∷ 6 ∷ [], 0)
    ∷ (0, 3 ∷ 5 ∷ 7 ∷ [], 12)
    ∷ (1, 1 ∷ 2 ∷ 4 ∷ 6 ∷ [], 0)
    ∷ (1, 0 ∷ 3 ∷ 5 ∷ 7 ∷ [], 12)
    ∷ (7, 1 ∷ 2 ∷ 4 ∷ 6 ∷ [], 0)
    ∷ (7, 0 ∷ 3 ∷ 5 ∷ 7 ∷ [], 12)
    ∷ []

abbrev pub swizzled : ℕ → ℕ → List ℕ
swizzled base swizzle = 64 ∷ 256 ∷ 128 ∷ base ∷ 0 ∷ swizzle ∷ []

-- the reason of writing a list of numbers, and of reading their word
abbrev pub shared_reason : List ℕ → ℕ
shared_reason l = (S.encoded (S.shared_in l)).reason

abbrev pub shared_read : List ℕ → ℕ
shared_read l = (S.decoded (pack S.layout l)).reason

-- a word with one field set, and what it says: start, leading and stride offset, base offset, leading mode, swizzle
abbrev pub shared_words : List (ℕ × List ℕ)
shared_words =
    (0x0000400000003FFF, 262128 ∷ 0 ∷ 0 ∷ 0 ∷ 0 ∷ 0 ∷ [])
    ∷ (0x000040003FFF0000, 0 ∷ 262128 ∷ 0 ∷ 0 ∷ 0 ∷ 0 ∷ [])
    ∷ (0x00007FFF00000000, 0 ∷ 0 ∷ 262128 ∷ 0 ∷ 0 ∷ 0 ∷ [])
    ∷ (0x200E400000000000, 0 ∷ 0 ∷ 0 ∷ 7 ∷ 0 ∷ 1 ∷ [])
    ∷ (0x0010400000000000, 0 ∷ 0 ∷ 0 ∷ 0 ∷ 1 ∷ 0 ∷ [])
    ∷ (0xC000400000000000, 0 ∷ 0 ∷ 0 ∷ 0 ∷ 0 ∷ 6 ∷ [])
    ∷ []

-- a word that reads, and each of the fixed bits turned in it: 14, 15, 30, 31, 46 to 48 and 53 to 60
abbrev pub shared_bits : List (ℕ × ℕ)
shared_bits =
    (0x0000400000000000, 0)
    ∷ (0x0000400000004000, 12)
    ∷ (0x0000400000008000, 12)
    ∷ (0x0000400040000000, 12)
    ∷ (0x0000400080000000, 12)
    ∷ (0x0000000000000000, 12)
    ∷ (0x0000C00000000000, 12)
    ∷ (0x0001400000000000, 12)
    ∷ (0x0020400000000000, 12)
    ∷ (0x0040400000000000, 12)
    ∷ (0x0080400000000000, 12)
    ∷ (0x0100400000000000, 12)
    ∷ (0x0200400000000000, 12)
    ∷ (0x0400400000000000, 12)
    ∷ (0x0800400000000000, 12)
    ∷ (0x1000400000000000, 12)
    ∷ []

-- a mode, a base offset or a swizzle with no room in its field, and numbers that just fit
abbrev pub shared_ranges : List (List ℕ × ℕ)
shared_ranges =
    (0 ∷ 0 ∷ 0 ∷ 7 ∷ 1 ∷ 6 ∷ [], 0)
    ∷ (0 ∷ 0 ∷ 0 ∷ 8 ∷ 1 ∷ 6 ∷ [], 12)
    ∷ (0 ∷ 0 ∷ 0 ∷ 7 ∷ 2 ∷ 6 ∷ [], 12)
    ∷ (0 ∷ 0 ∷ 0 ∷ 7 ∷ 1 ∷ 8 ∷ [], 12)
    ∷ []

-- ---- requests for columns
abbrev pub requests : List (ℕ × ℕ)
requests =
    (0, 9)
    ∷ (16, 9)
    ∷ (31, 9)
    ∷ (32, 0)
    ∷ (33, 9)
    ∷ (48, 9)
    ∷ (64, 0)
    ∷ (96, 9)
    ∷ (128, 0)
    ∷ (256, 0)
    ∷ (384, 9)
    ∷ (511, 9)
    ∷ (512, 0)
    ∷ (513, 9)
    ∷ (1024, 9)
    ∷ []

-- THE CLAIM. The definitions give what the tables say, fields and words alike.
pub record Worked : Type 0 where
  pub k : Right (λ sp kind. I.k_of kind sp) ks
  pub code : Right I.element_of codes
  pub dtype : Gives I.dtype_of dtypes
  pub types_fields : Right (λ kind t. of_fields kind false false (coded false t.0 t.1 t.2 128 64)) types
  pub types_word : Right (λ kind t. of_word kind false false (coded false t.0 t.1 t.2 128 64)) types
  pub m_fields : Right (with_m of_fields) ms
  pub m_word : Right (with_m of_word) ms
  pub n_fields : Right (with_n of_fields) ns
  pub n_word : Right (with_n of_word) ns
  pub several_fields : Gives (λ p. of_fields Kind.F16 false false (coded false p.0 0 0 p.1 p.2)) several
  pub several_word : Gives (λ p. of_word Kind.F16 false false (coded false p.0 0 0 p.1 p.2)) several
  pub flags_fields : Right (λ o x. of_fields o.0 o.1 o.2 (flagged o.0 x)) flags
  pub flags_word : Right (λ o x. of_word o.0 o.1 o.2 (flagged o.0 x)) flags
  pub reads : Gives (λ w. I.values (I.fields_read (I.decoded w.0 w.1 w.2 w.3)).fields) words
  pub fixed : Gives (I.word_reason Kind.F16 false false) fixed_bits
  pub range : Gives (λ p. (I.encoded_numbers Kind.F16 false false (I.values (coded false 1 0 0 p.0 p.1))).reason) ranges
  pub swizzle_fields : Right (λ base swizzle. shared_reason (swizzled base swizzle)) swizzles
  pub swizzle_word : Right (λ base swizzle. shared_read (swizzled base swizzle)) swizzles
  pub shared_reads : Gives (λ w. S.numbers (S.decoded w).descriptor) shared_words
  pub shared_fixed : Gives (λ w. (S.decoded w).reason) shared_bits
  pub shared_range : Gives shared_reason shared_ranges
  pub request : Gives request_reason requests
