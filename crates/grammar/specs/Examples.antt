-- Worked examples, as tables: texts with their reasons, with the typed statements that they read as, with places, with those of their operands, and with
-- canonical texts. Assumes nothing.
use Rattle.std.specs.Prelude.{ℕ, List, [], ◌∷◌, ◌++◌, map, Bool, true, false, drop, Ok, Err, Some, None}
use Prim.Native.String.{String}
use Rattle.laws.specs.Worked.{Gives}
use Rattle.instruction.specs.declared.Kind.{Kind}
use Rattle.instruction.specs.declared.Kind.TheVariants.{F16, Tf32, F8f6f4, I8}
use Rattle.tokens.specs.declared.Name.{Name}
use Rattle.tokens.specs.Names.{packed}
use Rattle.statement.specs.Forms.{Metadata}
use Rattle.statement.specs.declared.Shape.{Shape}
use Rattle.statement.specs.declared.Shape.TheVariants.{S32x32, S16x64, S16x128, S16x256}
use Rattle.statement.specs.declared.Num.{Num}
use Rattle.statement.specs.declared.Num.TheVariants.{X1, X2, X4, X8, X16, X32, X64, X128}
use Rattle.statement.specs.declared.Address.{Address}
use Rattle.statement.specs.declared.Operand.{Operand}
use Rattle.statement.specs.declared.Operand.TheVariants as operand
use Rattle.statement.specs.declared.Statement.{Statement}
use Rattle.statement.specs.declared.Statement.TheVariants.{Mov32, Mov64, Alloc, Dealloc, Relinquish, Load, Store, WaitLoad, WaitStore, FenceBefore, FenceAfter, Multiply, Exit}
use Rattle.statement.specs.declared.Misread.TheVariants.{NoForm, TooLarge}
use Rattle.tokens.specs.Text.{bytes}
use Rattle.statement.specs.Reading.{Reading, read_of, reason_of, registers_of}
use Rattle.statement.specs.Positions.{operand_place, name_place}
use Rattle.statement.specs.Canonical.{text_of}
use Rattle.grammar.specs.Spells.{spaces}
use Rattle.grammar.specs.Claims.{Reads}

-- the reason of a text, 0 if it reads
abbrev pub reason_for : String → ℕ
reason_for text = reason_of (read_of (bytes text))

-- what it reads as
abbrev pub reading : String → Reading
reading text = read_of (bytes text)

-- each text reads as the statement beside it, with the names of its registers
abbrev pub AllRead : List (String × Statement × List Name) → Type 0
AllRead [] = Unit {0}
AllRead ((text, t, regs) ∷ l) = Reads (bytes text) t regs × AllRead l

-- its canonical text: nothing if it does not read
abbrev pub written_by : Reading → List Name → List ℕ
written_by (Ok t) regs = text_of t regs
written_by (Err (NoForm at)) regs = []
written_by (Err (TooLarge at)) regs = []

abbrev pub canonical : String → List ℕ
canonical text = written_by (reading text) (registers_of (bytes text))

-- Spaces may stand between tokens, and need not.
abbrev pub spacing : List (String × ℕ)
spacing =
    ("exit;", 0) ∷
    ("exit     ;", 0) ∷
    ("mov.b32%x,1;", 0) ∷
    ("mov.b32$x,1;", 0) ∷
    ("mov.b32_x,1;", 3) ∷
    ("tcgen05.alloc.cta_group::1.sync.aligned.b32[t],32;", 0) ∷
    ("tcgen05.ld.sync.aligned.32x32b.x1.b32 { r } , [ t + 3 ] ;", 0) ∷
    (" exit;", 3) ∷
    ("exit; ", 3) ∷
    []

-- A run of word bytes is one token, and names have up to 16 bytes.
abbrev pub words : List (String × ℕ)
words =
    ("mov.b32 x, 64abc;", 3) ∷
    ("mov.b32 x, 0x1g;", 3) ∷
    ("mov.b32 rrrrrrrrrrrrrrrr, 1;", 0) ∷
    ("mov.b32 rrrrrrrrrrrrrrrrr, 1;", 3) ∷
    ("mov.b32 %rrrrrrrrrrrrrrr, 1;", 0) ∷
    ("mov.b32 %rrrrrrrrrrrrrrrr, 1;", 3) ∷
    ("mov.b32 %r0, 1;", 0) ∷
    ("mov.b32 %1, 1;", 0) ∷
    ("mov.b32 _1, 1;", 0) ∷
    ("mov.b32 $$, 1;", 0) ∷
    ("mov.b32 %%, 1;", 3) ∷
    ("mov.b32 _%, 1;", 3) ∷
    ("mov.b32 a%, 1;", 3) ∷
    ("mov.b32 _, 1;", 3) ∷
    ("mov.b32 $, 1;", 3) ∷
    ("mov.b32 %, 1;", 3) ∷
    ("EXIT;", 3) ∷
    ("mov.b32 exit, 1;", 0) ∷
    []

-- Numbers: 4 by value, and 3 before 4.
abbrev pub numbers : List (String × ℕ)
numbers =
    ("mov.b32 x, 0;", 0) ∷
    ("mov.b32 x, 0X00fF;", 0) ∷
    ("mov.b32 x, 064;", 0) ∷
    ("mov.b32 x, 00;", 0) ∷
    ("mov.b32 x, 0x;", 3) ∷
    ("mov.b32 x, 64U;", 0) ∷
    ("mov.b32 x, 0b1;", 0) ∷
    ("mov.b32 x, -1;", 4) ∷
    ("mov.b32 x, +1;", 3) ∷
    ("mov.b32 x, 4294967295;", 0) ∷
    ("mov.b32 x, 4294967296;", 4) ∷
    ("mov.b32 x, 4294967296", 3) ∷
    ("mov.b32 x, 4294967296;;", 3) ∷
    ("mov.b32 x, 0x00000000000000000000000000000001;", 0) ∷
    ("mov.b32 x, 99999999999999999999999999999999999999999999999999999999999999999999999999999999999999999999999999999999999999999999999999999999999999999999999999999999999999999999999999999999999999999999999999999999;", 4) ∷
    ("mov.b32 x, 0x000000000000000000000000000000000000000000000000000000000000000000000000000000000000000000000000000000000000000000000000000000000000000000000000000000000000000000000000000000000000000000000000000000001;", 0) ∷
    ("mov.b64 x, 18446744073709551615;", 0) ∷
    ("mov.b64 x, 18446744073709551616;", 4) ∷
    ("tcgen05.alloc.cta_group::1.sync.aligned.b32 [t], 4294967295;", 0) ∷
    ("tcgen05.alloc.cta_group::1.sync.aligned.b32 [t], 4294967296;", 4) ∷
    ("tcgen05.dealloc.cta_group::1.sync.aligned.b32 t, 4294967295;", 0) ∷
    ("tcgen05.dealloc.cta_group::1.sync.aligned.b32 t, 4294967296;", 4) ∷
    ("tcgen05.ld.sync.aligned.32x32b.x1.b32 {r}, [t+4294967295];", 0) ∷
    ("tcgen05.ld.sync.aligned.32x32b.x1.b32 {r}, [t+4294967296];", 4) ∷
    ("tcgen05.mma.cta_group::1.kind::f16 [d], [a+4294967295], b, i, p;", 0) ∷
    ("tcgen05.mma.cta_group::1.kind::f16 [d], [a+4294967296], b, i, p;", 4) ∷
    []

-- In each base, on both sides of the limit: 4 goes by the value, however many digits there are, and a U is no digit.
abbrev pub limits : List (String × ℕ)
limits =
    ("mov.b32 x, 0xFFFFFFFF;", 0) ∷
    ("mov.b32 x, 0x100000000;", 4) ∷
    ("mov.b32 x, 0b11111111111111111111111111111111;", 0) ∷
    ("mov.b32 x, 0b100000000000000000000000000000000;", 4) ∷
    ("mov.b32 x, 037777777777;", 0) ∷
    ("mov.b32 x, 040000000000;", 4) ∷
    ("mov.b32 x, 4294967295U;", 0) ∷
    ("mov.b32 x, 4294967296U;", 4) ∷
    ("mov.b32 x, 0XffffffffU;", 0) ∷
    ("mov.b32 x, 0X100000000U;", 4) ∷
    ("mov.b32 x, 0B11111111111111111111111111111111U;", 0) ∷
    ("mov.b32 x, 0B100000000000000000000000000000000U;", 4) ∷
    ("mov.b32 x, 037777777777U;", 0) ∷
    ("mov.b32 x, 040000000000U;", 4) ∷
    ("mov.b64 x, 0xFFFFFFFFFFFFFFFF;", 0) ∷
    ("mov.b64 x, 0x10000000000000000;", 4) ∷
    ("mov.b64 x, 0b1111111111111111111111111111111111111111111111111111111111111111;", 0) ∷
    ("mov.b64 x, 0b10000000000000000000000000000000000000000000000000000000000000000;", 4) ∷
    ("mov.b64 x, 01777777777777777777777;", 0) ∷
    ("mov.b64 x, 02000000000000000000000;", 4) ∷
    ("mov.b64 x, 18446744073709551615U;", 0) ∷
    ("mov.b64 x, 18446744073709551616U;", 4) ∷
    ("mov.b64 x, 0x10000000000000001;", 4) ∷
    ("mov.b64 x, 0b10000000000000000000000000000000000000000000000000000000000000001;", 4) ∷
    ("mov.b64 x, 02000000000000000000001;", 4) ∷
    ("mov.b64 x, 18446744073709551617U;", 4) ∷
    ("mov.b32 x, 0x000000000000000000000000000000000000000000000000000000000000000000000000000000001U;", 0) ∷
    ("mov.b32 x, 0b000000000000000000000000000000000000000000000000000000000000000000000000000000001;", 0) ∷
    ("mov.b32 x, 000000000000000000000000000000000000000000000000000000000000000000000000000000001;", 0) ∷
    ("mov.b32 x, 0b10000000000000000000000000000000000000000000000000000000000000000000000000000000000000000000000000000000000000000000000000000000000000000000000000000000000000000;", 4) ∷
    ("mov.b32 x, 0707070707070707070707070707070707070707070707070707070707070707070707070707070707070707070707070707070707070707070707070707070707070707070707070707070707070707;", 4) ∷
    ("tcgen05.alloc.cta_group::1.sync.aligned.b32 [t], 037777777777U;", 0) ∷
    ("tcgen05.alloc.cta_group::1.sync.aligned.b32 [t], 040000000000U;", 4) ∷
    ("tcgen05.dealloc.cta_group::1.sync.aligned.b32 t, 037777777777U;", 0) ∷
    ("tcgen05.dealloc.cta_group::1.sync.aligned.b32 t, 040000000000U;", 4) ∷
    ("tcgen05.ld.sync.aligned.32x32b.x1.b32 {r}, [t+037777777777U];", 0) ∷
    ("tcgen05.ld.sync.aligned.32x32b.x1.b32 {r}, [t+040000000000U];", 4) ∷
    ("tcgen05.st.sync.aligned.32x32b.x1.b32 [t+037777777777U], {r};", 0) ∷
    ("tcgen05.st.sync.aligned.32x32b.x1.b32 [t+040000000000U], {r};", 4) ∷
    ("tcgen05.mma.sp.cta_group::1.kind::f16 [d+0xFFFFFFFFU], [a+0b11111111111111111111111111111111], b, [m+037777777777], i, p;", 0) ∷
    ("tcgen05.mma.sp.cta_group::1.kind::f16 [d+040000000000], [a+0b1], b, [m+0x1U], i, p;", 4) ∷
    ("tcgen05.mma.sp.cta_group::1.kind::f16 [d+01], [a+0b100000000000000000000000000000000], b, [m+0x1U], i, p;", 4) ∷
    ("tcgen05.mma.sp.cta_group::1.kind::f16 [d+01], [a+0b1], b, [m+0x100000000U], i, p;", 4) ∷
    ("mov.b32 x, 040000000000U", 3) ∷
    ("mov.b32 x, 0b100000000000000000000000000000000;;", 3) ∷
    []

-- Forms.
abbrev pub forms : List (String × ℕ)
forms =
    ("", 3) ∷
    ("  ", 3) ∷
    ("tcgen05.ld.sync.aligned.32x32b.x1.b32 {}, [t];", 3) ∷
    ("tcgen05.ld.sync.aligned.32x32b.x128.b32 {r,r,r,r,r,r,r,r,r,r,r,r,r,r,r,r,r,r,r,r,r,r,r,r,r,r,r,r,r,r,r,r,r,r,r,r,r,r,r,r,r,r,r,r,r,r,r,r,r,r,r,r,r,r,r,r,r,r,r,r,r,r,r,r,r,r,r,r,r,r,r,r,r,r,r,r,r,r,r,r,r,r,r,r,r,r,r,r,r,r,r,r,r,r,r,r,r,r,r,r,r,r,r,r,r,r,r,r,r,r,r,r,r,r,r,r,r,r,r,r,r,r,r,r,r,r,r,r}, [t];", 0) ∷
    ("tcgen05.ld.sync.aligned.32x32b.x128.b32 {r,r,r,r,r,r,r,r,r,r,r,r,r,r,r,r,r,r,r,r,r,r,r,r,r,r,r,r,r,r,r,r,r,r,r,r,r,r,r,r,r,r,r,r,r,r,r,r,r,r,r,r,r,r,r,r,r,r,r,r,r,r,r,r,r,r,r,r,r,r,r,r,r,r,r,r,r,r,r,r,r,r,r,r,r,r,r,r,r,r,r,r,r,r,r,r,r,r,r,r,r,r,r,r,r,r,r,r,r,r,r,r,r,r,r,r,r,r,r,r,r,r,r,r,r,r,r,r,r}, [t];", 3) ∷
    ("tcgen05.alloc.cta_group::1.sync.aligned.b32 [t+0], 32;", 3) ∷
    ("tcgen05.ld.sync.aligned.32x32b.x3.b32 {r}, [t];", 3) ∷
    ("tcgen05.ld.sync.aligned.32x32b.x01.b32 {r}, [t];", 3) ∷
    ("tcgen05.st.sync.aligned.32x32b.x256.b32 [t], {r};", 3) ∷
    ("tcgen05.st.sync.aligned.16x256b.x128.b32 [t], {r};", 0) ∷
    ("tcgen05.mma.ws.sp.cta_group::1.kind::f8f6f4 [d], [a+1], b, [m], i, p;", 0) ∷
    ("tcgen05.mma.sp.ws.cta_group::1.kind::f16 [d], a, b, [m], i, p;", 3) ∷
    ("tcgen05.mma.cta_group::2.kind::f16 [d], a, b, i, p;", 3) ∷
    ("tcgen05.mma.cta_group::1.kind::f16 [d], a, b, [m], i, p;", 3) ∷
    ("tcgen05.dealloc.cta_group::1.sync.aligned.shared::cta.b32 t, 32;", 3) ∷
    ("exit;;", 3) ∷
    ("exit; exit;", 3) ∷
    ("@p exit;", 3) ∷
    []

-- a name, and an address
abbrev pub named : String → Name
named text = packed (bytes text)

abbrev pub offset_by : String → ℕ → Address
offset_by text offset = record { base = named text; offset = offset }

-- Each form, with its typed statement.
abbrev pub typed : List (String × Statement × List Name)
typed =
    ("mov.b32 x, 7;", (Mov32 (named "x") 7), []) ∷
    ("mov.b64 x, 7;", (Mov64 (named "x") 7), []) ∷
    ("tcgen05.alloc.cta_group::1.sync.aligned.b32 [t], 64;", (Alloc (named "t") 64), []) ∷
    ("tcgen05.dealloc.cta_group::1.sync.aligned.b32 t, 64;", (Dealloc (named "t") 64), []) ∷
    ("tcgen05.relinquish_alloc_permit.cta_group::1.sync.aligned;", Relinquish, []) ∷
    ("tcgen05.wait::ld.sync.aligned;", WaitLoad, []) ∷
    ("tcgen05.wait::st.sync.aligned;", WaitStore, []) ∷
    ("tcgen05.fence::before_thread_sync;", FenceBefore, []) ∷
    ("tcgen05.fence::after_thread_sync;", FenceAfter, []) ∷
    ("exit;", Exit, []) ∷
    []

-- Each SHAPE and each NUM, of ld and st. The registers stand in the order of the text.
abbrev pub loads : Shape → Num → Statement
loads shape num = Load (record { shape = shape; num = num; registers = 2; address = offset_by "t" 3 })

abbrev pub stores : Shape → Num → Statement
stores shape num = Store (record { shape = shape; num = num; registers = 2; address = offset_by "t" 3 })

abbrev pub both : List Name
both = named "r0" ∷ named "r1" ∷ []

abbrev pub accesses : List (String × Statement × List Name)
accesses =
    ("tcgen05.ld.sync.aligned.32x32b.x1.b32 {r0, r1}, [t+3];", (loads S32x32 X1), both) ∷
    ("tcgen05.ld.sync.aligned.16x64b.x2.b32 {r0, r1}, [t+3];", (loads S16x64 X2), both) ∷
    ("tcgen05.ld.sync.aligned.16x128b.x4.b32 {r0, r1}, [t+3];", (loads S16x128 X4), both) ∷
    ("tcgen05.ld.sync.aligned.16x256b.x8.b32 {r0, r1}, [t+3];", (loads S16x256 X8), both) ∷
    ("tcgen05.ld.sync.aligned.32x32b.x16.b32 {r0, r1}, [t+3];", (loads S32x32 X16), both) ∷
    ("tcgen05.ld.sync.aligned.16x64b.x32.b32 {r0, r1}, [t+3];", (loads S16x64 X32), both) ∷
    ("tcgen05.ld.sync.aligned.16x128b.x64.b32 {r0, r1}, [t+3];", (loads S16x128 X64), both) ∷
    ("tcgen05.ld.sync.aligned.16x256b.x128.b32 {r0, r1}, [t+3];", (loads S16x256 X128), both) ∷
    ("tcgen05.st.sync.aligned.16x256b.x1.b32 [t+3], {r0, r1};", (stores S16x256 X1), both) ∷
    ("tcgen05.st.sync.aligned.16x128b.x2.b32 [t+3], {r0, r1};", (stores S16x128 X2), both) ∷
    ("tcgen05.st.sync.aligned.16x64b.x4.b32 [t+3], {r0, r1};", (stores S16x64 X4), both) ∷
    ("tcgen05.st.sync.aligned.32x32b.x8.b32 [t+3], {r0, r1};", (stores S32x32 X8), both) ∷
    ("tcgen05.st.sync.aligned.16x256b.x16.b32 [t+3], {r0, r1};", (stores S16x256 X16), both) ∷
    ("tcgen05.st.sync.aligned.16x128b.x32.b32 [t+3], {r0, r1};", (stores S16x128 X32), both) ∷
    ("tcgen05.st.sync.aligned.16x64b.x64.b32 [t+3], {r0, r1};", (stores S16x64 X64), both) ∷
    ("tcgen05.st.sync.aligned.32x32b.x128.b32 [t+3], {r0, r1};", (stores S32x32 X128), both) ∷
    []

-- Each kind of mma, with .ws and .sp or not, a descriptor or an address.
abbrev pub multiplies : Bool → Kind → Operand → Metadata → Statement
multiplies ws kind a metadata = Multiply (record { ws = ws; kind = kind; d = offset_by "d" 1; a = a; b = named "b"; metadata = metadata; idesc = named "i"; predicate = named "p" })

abbrev pub mmas : List (String × Statement × List Name)
mmas =
    ("tcgen05.mma.cta_group::1.kind::f16 [d+1], a, b, i, p;", (multiplies false F16 (operand.Descriptor (named "a")) None), []) ∷
    ("tcgen05.mma.cta_group::1.kind::tf32 [d+1], [a+2], b, i, p;", (multiplies false Tf32 (operand.Address (offset_by "a" 2)) None), []) ∷
    ("tcgen05.mma.ws.cta_group::1.kind::f8f6f4 [d+1], a, b, i, p;", (multiplies true F8f6f4 (operand.Descriptor (named "a")) None), []) ∷
    ("tcgen05.mma.sp.cta_group::1.kind::i8 [d+1], a, b, [m+3], i, p;", (multiplies false I8 (operand.Descriptor (named "a")) (Some (offset_by "m" 3))), []) ∷
    ("tcgen05.mma.ws.sp.cta_group::1.kind::f16 [d+1], [a+2], b, [m+3], i, p;", (multiplies true F16 (operand.Address (offset_by "a" 2)) (Some (offset_by "m" 3))), []) ∷
    []

-- The place of 3 is that of the first token at which no form can go on, of 4 that of the first number out of range.
abbrev pub places : List (String × Reading)
places =
    ("mov.b32 x y", Err (NoForm 10)) ∷
    ("mov.b33 x, 1;", Err (NoForm 0)) ∷
    ("mov.b32 x, 4294967296, 1;", Err (NoForm 21)) ∷
    ("mov.b32 x, 4294967296;", Err (TooLarge 11)) ∷
    ("tcgen05.ld.sync.aligned.32x32b.x1.b32 {r0, 5}, [t];", Err (NoForm 43)) ∷
    ("exit", Err (NoForm 4)) ∷
    ("", Err (NoForm 0)) ∷
    (" exit;", Err (NoForm 0)) ∷
    ("exit; ", Err (NoForm 5)) ∷
    ("exit; exit;", Err (NoForm 5)) ∷
    ("mov.b32 rrrrrrrrrrrrrrrrr, 1;", Err (NoForm 8)) ∷
    ("mov.b32 %, 1;", Err (NoForm 8)) ∷
    ("tcgen05.ld.sync.aligned.32x32b.x128.b32 {r,r,r,r,r,r,r,r,r,r,r,r,r,r,r,r,r,r,r,r,r,r,r,r,r,r,r,r,r,r,r,r,r,r,r,r,r,r,r,r,r,r,r,r,r,r,r,r,r,r,r,r,r,r,r,r,r,r,r,r,r,r,r,r,r,r,r,r,r,r,r,r,r,r,r,r,r,r,r,r,r,r,r,r,r,r,r,r,r,r,r,r,r,r,r,r,r,r,r,r,r,r,r,r,r,r,r,r,r,r,r,r,r,r,r,r,r,r,r,r,r,r,r,r,r,r,r,r,r}, [t];", Err (NoForm 296)) ∷
    []

-- The places of 3 and 4 are those of the token's first byte, wherever in it a wrong byte stands (`tokens/specs/Worked.antt` has more tokens). Digits of an opcode are no number.
abbrev pub number_places : List (String × Reading)
number_places =
    ("mov.b32 x, 08;", Err (NoForm 11)) ∷
    ("mov.b32 x, 0b102;", Err (NoForm 11)) ∷
    ("mov.b32 x, 0xU;", Err (NoForm 11)) ∷
    ("mov.b32 x, 64u;", Err (NoForm 11)) ∷
    ("mov.b32 x, 0UU;", Err (NoForm 11)) ∷
    ("mov.b32 x, %0;", Err (NoForm 11)) ∷
    ("mov.b32 x, 0%;", Err (NoForm 12)) ∷
    ("mov.b32 x,   0000000000000008;", Err (NoForm 13)) ∷
    ("tcgen05.alloc.cta_group::1.sync.aligned.b32 [t], 0b2U;", Err (NoForm 49)) ∷
    ("tcgen05.dealloc.cta_group::1.sync.aligned.b32 t, 09;", Err (NoForm 49)) ∷
    ("tcgen05.ld.sync.aligned.32x32b.x1.b32 {r}, [t+0b];", Err (NoForm 46)) ∷
    ("tcgen05.mma.sp.cta_group::1.kind::f16 [d+0], [a+0], b, [m+08], i, p;", Err (NoForm 58)) ∷
    ("mov.b32 x, 040000000000U, 1;", Err (NoForm 24)) ∷
    ("mov.b32 x, 040000000000U;", Err (TooLarge 11)) ∷
    ("tcgen05.ld.sync.aligned.32x32b.x1.b32 {r}, [t+ 0b100000000000000000000000000000000];", Err (TooLarge 47)) ∷
    ("tcgen05.mma.sp.cta_group::1.kind::f16 [d+040000000000U], [a+0x100000000U], b, [m+0], i, p;", Err (TooLarge 41)) ∷
    ("tcgen05.ld.sync.aligned.32x32b.x1U.b32 {r}, [t];", Err (NoForm 0)) ∷
    ("tcgen05.alloc.cta_group::01.sync.aligned.b32 [t], 32;", Err (NoForm 0)) ∷
    []

-- In a text of over 4,096 bytes it is that of the token too, or, where there is none, the end. Four texts with n spaces in them.
abbrev pub spaced : ℕ → List (List ℕ)
spaced n =
    (bytes "exit" ++ (spaces n ++ bytes ";")) ∷
    (bytes "exit" ++ (spaces n ++ bytes "x;")) ∷
    (bytes "mov.b32 x y" ++ (spaces n ++ bytes ";")) ∷
    (bytes "mov.b32 x, 4294967296" ++ (spaces n ++ bytes ";")) ∷
    []

abbrev pub lengths : List (ℕ × List Reading)
lengths =
    (4074, Ok Exit ∷ Err (NoForm 4078) ∷ Err (NoForm 10) ∷ Err (TooLarge 11) ∷ []) ∷
    (4075, Ok Exit ∷ Err (NoForm 4079) ∷ Err (NoForm 10) ∷ Err (NoForm 4097) ∷ []) ∷
    (4091, Ok Exit ∷ Err (NoForm 4095) ∷ Err (NoForm 10) ∷ Err (NoForm 4113) ∷ []) ∷
    (4092, Err (NoForm 4097) ∷ Err (NoForm 4096) ∷ Err (NoForm 10) ∷ Err (NoForm 4114) ∷ []) ∷
    []

-- The place of an operand, and of its name, each with what stands from there on. Only the commas outside of braces part operands.
abbrev pub places_of : String × ℕ → ℕ × List ℕ × ℕ × List ℕ
places_of (text, i) = (operand_place (bytes text) i, drop (operand_place (bytes text) i) (bytes text), name_place (bytes text) i, drop (name_place (bytes text) i) (bytes text))

abbrev pub operand_places : List ((String × ℕ) × (ℕ × List ℕ × ℕ × List ℕ))
operand_places =
    (("mov.b32%x,1;", 0), (7, bytes "%x,1;", 7, bytes "%x,1;")) ∷
    (("mov.b64   %r1 ,  0xFF ;", 0), (10, bytes "%r1 ,  0xFF ;", 10, bytes "%r1 ,  0xFF ;")) ∷
    (("mov.b64   %r1 ,  0xFF ;", 1), (17, bytes "0xFF ;", 17, bytes "0xFF ;")) ∷
    (("tcgen05.alloc.cta_group::1.sync.aligned.b32[  t ] ,32;", 0), (43, bytes "[  t ] ,32;", 46, bytes "t ] ,32;")) ∷
    (("tcgen05.alloc.cta_group::1.sync.aligned.b32[  t ] ,32;", 1), (51, bytes "32;", 51, bytes "32;")) ∷
    (("tcgen05.ld.sync.aligned.32x32b.x2.b32 {r0 , r1} , [ t + 3 ] ;", 0), (38, bytes "{r0 , r1} , [ t + 3 ] ;", 38, bytes "{r0 , r1} , [ t + 3 ] ;")) ∷
    (("tcgen05.ld.sync.aligned.32x32b.x2.b32 {r0 , r1} , [ t + 3 ] ;", 1), (50, bytes "[ t + 3 ] ;", 52, bytes "t + 3 ] ;")) ∷
    (("tcgen05.st.sync.aligned.32x32b.x2.b32  [t+3],{ r0,r1 };", 0), (39, bytes "[t+3],{ r0,r1 };", 40, bytes "t+3],{ r0,r1 };")) ∷
    (("tcgen05.st.sync.aligned.32x32b.x2.b32  [t+3],{ r0,r1 };", 1), (45, bytes "{ r0,r1 };", 45, bytes "{ r0,r1 };")) ∷
    (("tcgen05.mma.sp.cta_group::1.kind::i8 [ d+1 ] ,a ,  b,[m + 3 ],i , p;", 0), (37, bytes "[ d+1 ] ,a ,  b,[m + 3 ],i , p;", 39, bytes "d+1 ] ,a ,  b,[m + 3 ],i , p;")) ∷
    (("tcgen05.mma.sp.cta_group::1.kind::i8 [ d+1 ] ,a ,  b,[m + 3 ],i , p;", 1), (46, bytes "a ,  b,[m + 3 ],i , p;", 46, bytes "a ,  b,[m + 3 ],i , p;")) ∷
    (("tcgen05.mma.sp.cta_group::1.kind::i8 [ d+1 ] ,a ,  b,[m + 3 ],i , p;", 2), (51, bytes "b,[m + 3 ],i , p;", 51, bytes "b,[m + 3 ],i , p;")) ∷
    (("tcgen05.mma.sp.cta_group::1.kind::i8 [ d+1 ] ,a ,  b,[m + 3 ],i , p;", 3), (53, bytes "[m + 3 ],i , p;", 54, bytes "m + 3 ],i , p;")) ∷
    (("tcgen05.mma.sp.cta_group::1.kind::i8 [ d+1 ] ,a ,  b,[m + 3 ],i , p;", 4), (62, bytes "i , p;", 62, bytes "i , p;")) ∷
    (("tcgen05.mma.sp.cta_group::1.kind::i8 [ d+1 ] ,a ,  b,[m + 3 ],i , p;", 5), (66, bytes "p;", 66, bytes "p;")) ∷
    (("tcgen05.mma.ws.cta_group::1.kind::f16[d],[ a+2 ], b,i,p ;", 1), (41, bytes "[ a+2 ], b,i,p ;", 43, bytes "a+2 ], b,i,p ;")) ∷
    (("tcgen05.mma.ws.cta_group::1.kind::f16[d],[ a+2 ], b,i,p ;", 4), (54, bytes "p ;", 54, bytes "p ;")) ∷
    []

-- One space after the opcode and after each comma, decimals, no +0, no .shared::cta.
abbrev pub canonicals : List (String × List ℕ)
canonicals =
    ("mov.b64   %r1 ,0xFF ;", bytes "mov.b64 %r1, 255;") ∷
    ("tcgen05.alloc.cta_group::1.sync.aligned.shared::cta.b32[t0],64;", bytes "tcgen05.alloc.cta_group::1.sync.aligned.b32 [t0], 64;") ∷
    ("tcgen05.ld.sync.aligned.32x32b.x2.b32 {r0,r1},[ t1 + 0x200000 ];", bytes "tcgen05.ld.sync.aligned.32x32b.x2.b32 {r0, r1}, [t1+2097152];") ∷
    ("tcgen05.st.sync.aligned.16x64b.x1.b32 [t+0],{r};", bytes "tcgen05.st.sync.aligned.16x64b.x1.b32 [t], {r};") ∷
    ("tcgen05.mma.ws.sp.cta_group::1.kind::i8 [d+0x10],[a],b,[m+1],i,p ;", bytes "tcgen05.mma.ws.sp.cta_group::1.kind::i8 [d+16], [a], b, [m+1], i, p;") ∷
    ("tcgen05.wait::ld.sync.aligned ;", bytes "tcgen05.wait::ld.sync.aligned;") ∷
    []

-- Numbers of each base and in each operand, in decimal.
abbrev pub in_decimal : List (String × List ℕ)
in_decimal =
    ("mov.b32 x, 0;", bytes "mov.b32 x, 0;") ∷
    ("mov.b32 x, 00U;", bytes "mov.b32 x, 0;") ∷
    ("mov.b32 x, 0b100000;", bytes "mov.b32 x, 32;") ∷
    ("mov.b32 x, 040U;", bytes "mov.b32 x, 32;") ∷
    ("mov.b32 x, 064;", bytes "mov.b32 x, 52;") ∷
    ("mov.b32 x, 0X20U;", bytes "mov.b32 x, 32;") ∷
    ("mov.b32 x, 64U;", bytes "mov.b32 x, 64;") ∷
    ("mov.b64 x, 0xFFFFFFFFFFFFFFFFU;", bytes "mov.b64 x, 18446744073709551615;") ∷
    ("mov.b64 x, 0b1111111111111111111111111111111111111111111111111111111111111111U;", bytes "mov.b64 x, 18446744073709551615;") ∷
    ("mov.b64 x, 01777777777777777777777U;", bytes "mov.b64 x, 18446744073709551615;") ∷
    ("mov.b64 x, 18446744073709551615U;", bytes "mov.b64 x, 18446744073709551615;") ∷
    ("tcgen05.alloc.cta_group::1.sync.aligned.b32 [x],01000U;", bytes "tcgen05.alloc.cta_group::1.sync.aligned.b32 [x], 512;") ∷
    ("tcgen05.dealloc.cta_group::1.sync.aligned.b32 t, 0b1000000;", bytes "tcgen05.dealloc.cta_group::1.sync.aligned.b32 t, 64;") ∷
    ("tcgen05.ld.sync.aligned.32x32b.x1.b32 {r}, [x+020];", bytes "tcgen05.ld.sync.aligned.32x32b.x1.b32 {r}, [x+16];") ∷
    ("tcgen05.st.sync.aligned.32x32b.x1.b32 [x+0U], {r};", bytes "tcgen05.st.sync.aligned.32x32b.x1.b32 [x], {r};") ∷
    ("tcgen05.mma.sp.cta_group::1.kind::f16 [d+0b10], [a+010U], b, [m+0X1fU], i, p;", bytes "tcgen05.mma.sp.cta_group::1.kind::f16 [d+2], [a+8], b, [m+31], i, p;") ∷
    []

-- ---- the claim: each text of each table has what stands beside it
pub record Examples : Type 0 where
  pub reasons : Gives reason_for (spacing ++ (words ++ (numbers ++ forms)))
  pub limits_are : Gives reason_for limits
  pub statements : AllRead (typed ++ (accesses ++ mmas))
  pub stops : Gives reading places
  pub numbers_stop : Gives reading number_places
  pub long : Gives (λ n. map read_of (spaced n)) lengths
  pub operands : Gives places_of operand_places
  pub canonicals_are : Gives canonical canonicals
  pub decimals_are : Gives canonical in_decimal
