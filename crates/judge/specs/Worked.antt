-- Worked sheets, byte for byte, each with the reason, the line and the column that it is given, so that a wrong column is seen here.
-- proofs/WorkedProved.antt computes them. Assumes nothing.
use Rattle.std.specs.Prelude.{ℕ, ◌≡◌, List, [], ◌∷◌, ◌++◌}
use Prim.Native.String.{String}
use Rattle.laws.specs.Worked.{Gives}
use Rattle.tokens.specs.Text.{bytes, lf}
use Rattle.lines.specs.Sheet.{header}
use Rattle.rules.specs.declared.Answer.{Answer}
use Rattle.rules.specs.Sheet.{answer}
use Rattle.judge.specs.Judged.{judged_of, starts_after}

-- ---- sheets
-- reason, line and column of an answer
abbrev pub answered : Answer → ℕ × ℕ × ℕ
answered a = (a.reason, a.line, a.column)

-- of a sheet, with no place lent for starts
abbrev pub pointed : String → ℕ × ℕ × ℕ
pointed sheet = answered (judged_of (bytes sheet) 0)

-- each line and its LF
abbrev pub lined : List String → List ℕ
lined [] = []
lined (l ∷ ls) = bytes l ++ (lf ∷ lined ls)

-- the sheet of the lines after line 1
abbrev pub sheet_of : List String → List ℕ
sheet_of lines = header ++ (lf ∷ lined lines)

-- its reason, line and column
abbrev pub below : List String → ℕ × ℕ × ℕ
below lines = answered (judged_of (sheet_of lines) 0)

-- the same, with a place lent for one start
abbrev pub lent : List String → ℕ × ℕ × ℕ
lent lines = answered (judged_of (sheet_of lines) 1)

-- ---- lines that come before
abbrev pub alloc32 : String
alloc32 = "0\ttcgen05.alloc.cta_group::1.sync.aligned.b32 [t], 32;"

abbrev pub alloc64 : String
alloc64 = "0\ttcgen05.alloc.cta_group::1.sync.aligned.b32 [t], 64;"

abbrev pub alloc512 : String
alloc512 = "0\ttcgen05.alloc.cta_group::1.sync.aligned.b32 [t], 512;"

abbrev pub dealloc32 : String
dealloc32 = "0\ttcgen05.dealloc.cta_group::1.sync.aligned.b32 t, 32;"

abbrev pub dealloc512 : String
dealloc512 = "0\ttcgen05.dealloc.cta_group::1.sync.aligned.b32 t, 512;"

abbrev pub exit : String
exit = "0\texit;"

abbrev pub shared : String
shared = "0\tmov.b64 a, 0x0000400800100000;"

abbrev pub m128n64 : String
m128n64 = "0\tmov.b32 i, 0x08100010;"

-- an mma of each kind with `.ws` and `.sp`, N being 128
abbrev pub sparse128 : List String
sparse128 =
    "0\tmov.b32 i, 0x08200014;"
    ∷ "0\tmov.b32 j, 0x08200914;"
    ∷ "0\tmov.b32 k, 0x08200024;"
    ∷ "0\ttcgen05.mma.ws.sp.cta_group::1.kind::f16 [t], a, a, [t], i, p;"
    ∷ "0\ttcgen05.mma.ws.sp.cta_group::1.kind::tf32 [t], a, a, [t], j, p;"
    ∷ "0\ttcgen05.mma.ws.sp.cta_group::1.kind::f8f6f4 [t], a, a, [t], i, p;"
    ∷ "0\ttcgen05.mma.ws.sp.cta_group::1.kind::i8 [t], a, a, [t], k, p;"
    ∷ []

-- an mma of each kind with `.ws` alone, N being 256
abbrev pub dense256 : List String
dense256 =
    "0\tmov.b32 i, 0x08400010;"
    ∷ "0\tmov.b32 j, 0x08400910;"
    ∷ "0\tmov.b32 k, 0x08400020;"
    ∷ "0\ttcgen05.mma.ws.cta_group::1.kind::f16 [t], a, a, i, p;"
    ∷ "0\ttcgen05.mma.ws.cta_group::1.kind::tf32 [t], a, a, j, p;"
    ∷ "0\ttcgen05.mma.ws.cta_group::1.kind::f8f6f4 [t], a, a, i, p;"
    ∷ "0\ttcgen05.mma.ws.cta_group::1.kind::i8 [t], a, a, k, p;"
    ∷ []

-- ---- tables
-- A wrong line 1 has column 1.
abbrev pub headers : List (String × (ℕ × ℕ × ℕ))
headers =
    ("", (2, 1, 1)) ∷
    ("sheet\t1\tsm_100a", (2, 1, 1)) ∷
    ("sheet\t1\tsm_100b\n0\texit;\n", (2, 1, 1)) ∷
    ("sheet\t1\tsm_100a\n0\texit;\n", (0, 2, 0)) ∷
    []

-- A passed sheet has column 0; 15 and 16 are in column 1 of the last line, or of a line after exit.
abbrev pub ends : List (List String × (ℕ × ℕ × ℕ))
ends =
    (exit ∷ [], (0, 2, 0)) ∷
    ([], (15, 1, 1)) ∷
    (alloc32 ∷ exit ∷ [], (15, 3, 1)) ∷
    (exit ∷ exit ∷ [], (15, 3, 1)) ∷
    (alloc32 ∷ [], (15, 2, 1)) ∷
    (alloc32 ∷ dealloc32 ∷ exit ∷ [], (16, 4, 1)) ∷
    []

-- What is asked for is given back, each number in whatever base and each shape listed: passed.
abbrev pub passes : List (List String × (ℕ × ℕ × ℕ))
passes =
    (alloc32 ∷ dealloc32 ∷ exit ∷ [], (0, 4, 0)) ∷
    ("0\ttcgen05.alloc.cta_group::1.sync.aligned.b32 [t], 040U;" ∷ dealloc32 ∷ exit ∷ [], (0, 4, 0)) ∷
    (alloc32 ∷ "0\ttcgen05.dealloc.cta_group::1.sync.aligned.b32 t, 0b100000;" ∷ exit ∷ [], (0, 4, 0)) ∷
    -- a star is warp 0, in a load and in its wait
    (alloc32 ∷ "*\ttcgen05.ld.sync.aligned.32x32b.x1.b32 {r}, [t];" ∷ "0\ttcgen05.wait::ld.sync.aligned;" ∷ dealloc32 ∷ exit ∷ [], (0, 6, 0)) ∷
    (alloc32 ∷ "0\ttcgen05.st.sync.aligned.32x32b.x1.b32 [t], {r};" ∷ "*\ttcgen05.wait::st.sync.aligned;" ∷ dealloc32 ∷ exit ∷ [], (0, 6, 0)) ∷
    (alloc512 ∷ shared ∷ (sparse128 ++ (dense256 ++ (dealloc512 ∷ exit ∷ []))), (0, 19, 0)) ∷
    []

-- A line of wrong layout has column 1.
abbrev pub layouts : List (List String × (ℕ × ℕ × ℕ))
layouts =
    ("4\texit;" ∷ [], (2, 2, 1)) ∷
    ("0 exit;" ∷ [], (2, 2, 1)) ∷
    ("" ∷ [], (2, 2, 1)) ∷
    (exit ∷ "0\texit;\t" ∷ [], (2, 3, 1)) ∷
    []

-- 3 is at the token at which no form can go on, 4 at the first number out of range; a statement starts in column 3.
abbrev pub stops : List (List String × (ℕ × ℕ × ℕ))
stops =
    ("0\t" ∷ [], (3, 2, 3)) ∷
    ("0\tEXIT;" ∷ [], (3, 2, 3)) ∷
    ("0\t exit;" ∷ [], (3, 2, 3)) ∷
    ("0\texit" ∷ [], (3, 2, 7)) ∷
    ("0\texit; " ∷ [], (3, 2, 8)) ∷
    ("*\texit ;;" ∷ [], (3, 2, 9)) ∷
    ("0\tmov.b32 x y" ∷ [], (3, 2, 13)) ∷
    ("0\tmov.b32 x, 08;" ∷ [], (3, 2, 14)) ∷
    ("0\tmov.b32 x, 4294967296, 1;" ∷ [], (3, 2, 24)) ∷
    ("0\tmov.b32 x, 4294967296;" ∷ [], (4, 2, 14)) ∷
    ("0\tmov.b32 x, 0b100000000000000000000000000000000;" ∷ [], (4, 2, 14)) ∷
    ("0\tmov.b32%x   ,   4294967296 ;" ∷ [], (4, 2, 19)) ∷
    ("0\ttcgen05.ld.sync.aligned.32x32b.x1.b32 {r0, 5}, [t];" ∷ [], (3, 2, 46)) ∷
    ("3\ttcgen05.ld.sync.aligned.32x32b.x1.b32 {r},[ t + 4294967296 ];" ∷ [], (4, 2, 51)) ∷
    []

-- 6 is at a name, inside its bracket, 8 of an alloc or dealloc in column 1, 9 at the number, 10 and 11 at the opcode, wherever spaces stand.
abbrev pub requests : List (List String × (ℕ × ℕ × ℕ))
requests =
    ("0\ttcgen05.alloc.cta_group::1.sync.aligned.b32 [t], 33;" ∷ [], (9, 2, 52)) ∷
    ("0\ttcgen05.alloc.cta_group::1.sync.aligned.b32 [x], 064;" ∷ [], (9, 2, 52)) ∷
    ("0\ttcgen05.alloc.cta_group::1.sync.aligned.b32[t],33;" ∷ [], (9, 2, 50)) ∷
    ("0\ttcgen05.alloc.cta_group::1.sync.aligned.b32  [  t ] ,   33 ;" ∷ [], (9, 2, 59)) ∷
    (alloc64 ∷ "0\ttcgen05.alloc.cta_group::1.sync.aligned.b32 [ t ], 32;" ∷ [], (6, 3, 49)) ∷
    (alloc64 ∷ "0\tmov.b32  t, 1;" ∷ [], (6, 3, 12)) ∷
    ("0\ttcgen05.dealloc.cta_group::1.sync.aligned.b32  t,32;" ∷ [], (6, 2, 50)) ∷
    (alloc64 ∷ "1\ttcgen05.dealloc.cta_group::1.sync.aligned.b32 t, 64;" ∷ [], (8, 3, 1)) ∷
    (alloc64 ∷ "0\ttcgen05.dealloc.cta_group::1.sync.aligned.b32 t ,32;" ∷ [], (9, 3, 52)) ∷
    ("0\ttcgen05.relinquish_alloc_permit.cta_group::1.sync.aligned;" ∷ alloc32 ∷ [], (10, 3, 3)) ∷
    (alloc512 ∷ "0\ttcgen05.alloc.cta_group::1.sync.aligned.b32 [u], 32;" ∷ [], (11, 3, 3)) ∷
    []

-- Of a ld or st: 5 at the opcode, 6 at the name, 8 and 14 at the bracket; a comma inside of braces parts no operands.
abbrev pub accesses : List (List String × (ℕ × ℕ × ℕ))
accesses =
    (alloc32 ∷ "0\ttcgen05.ld.sync.aligned.32x32b.x1.b32 {r, s}, [t];" ∷ [], (5, 3, 3)) ∷
    (alloc32 ∷ "0\ttcgen05.ld.sync.aligned.32x32b.x2.b32 {r, s}, [ u ];" ∷ [], (6, 3, 51)) ∷
    (alloc32 ∷ "0\ttcgen05.st.sync.aligned.32x32b.x1.b32 [ u],{r};" ∷ [], (6, 3, 43)) ∷
    (alloc32 ∷ "1\ttcgen05.ld.sync.aligned.32x32b.x2.b32{r ,s} ,  [ t ];" ∷ [], (8, 3, 50)) ∷
    (alloc32 ∷ "1\ttcgen05.st.sync.aligned.32x32b.x1.b32 [t], {r};" ∷ [], (8, 3, 41)) ∷
    (alloc32 ∷ "0\ttcgen05.ld.sync.aligned.32x32b.x2.b32 {r,s},[t+31];" ∷ [], (14, 3, 47)) ∷
    (alloc32 ∷ "0\ttcgen05.st.sync.aligned.32x32b.x2.b32   [ t + 31 ], {r, s};" ∷ [], (14, 3, 43)) ∷
    []

-- Of an mma: 6, 12, 13, 20 and 21 at a name, 14 at a bracket; of two places the left one.
abbrev pub mmas : List (List String × (ℕ × ℕ × ℕ))
mmas =
    (alloc64 ∷ m128n64 ∷ shared ∷ "0\ttcgen05.mma.cta_group::1.kind::f16 [ d ], a, c, i, p;" ∷ [], (6, 5, 40)) ∷
    (alloc64 ∷ m128n64 ∷ shared ∷ "0\ttcgen05.mma.cta_group::1.kind::f16[t] ,[ u+1 ],c,i,p;" ∷ [], (6, 5, 44)) ∷
    (alloc64 ∷ m128n64 ∷ shared ∷ "0\ttcgen05.mma.cta_group::1.kind::f16 [t], a,  c, x, p;" ∷ [], (6, 5, 47)) ∷
    (alloc64 ∷ m128n64 ∷ shared ∷ "0\ttcgen05.mma.sp.cta_group::1.kind::f16 [t], a, a, [ u ], x, p;" ∷ [], (6, 5, 54)) ∷
    (alloc64 ∷ m128n64 ∷ shared ∷ "0\ttcgen05.mma.sp.cta_group::1.kind::f16 [t], a, a, [t] , x, p;" ∷ [], (6, 5, 58)) ∷
    (alloc64 ∷ m128n64 ∷ "0\tmov.b64 z, 0;" ∷ "0\ttcgen05.mma.cta_group::1.kind::f16 [t],  z, z, i, p;" ∷ [], (12, 5, 44)) ∷
    (alloc64 ∷ "0\tmov.b32 i, 3;" ∷ "0\tmov.b64 z, 0;" ∷ "0\ttcgen05.mma.cta_group::1.kind::f16 [t], [ t ] , z, i, p;" ∷ [], (12, 5, 51)) ∷
    (alloc64 ∷ "0\tmov.b32 i, 3;" ∷ shared ∷ "0\ttcgen05.mma.cta_group::1.kind::f16 [t], a, a, i, p;" ∷ [], (12, 5, 49)) ∷
    (alloc64 ∷ "0\tmov.b32 i, 0x0C000020;" ∷ shared ∷ "0\ttcgen05.mma.cta_group::1.kind::f16 [t], a, a, i, p;" ∷ [], (13, 5, 49)) ∷
    (alloc64 ∷ "0\tmov.b32 i, 0x08000020;" ∷ shared ∷ "0\ttcgen05.mma.cta_group::1.kind::f16 [t],a,a,i,p;" ∷ [], (20, 5, 46)) ∷
    (alloc64 ∷ "0\tmov.b32 i, 0x08100020;" ∷ shared ∷ "0\ttcgen05.mma.cta_group::1.kind::f16 [t+1], a, a ,  i , p;" ∷ [], (21, 5, 53)) ∷
    (alloc64 ∷ m128n64 ∷ shared ∷ "0\ttcgen05.mma.cta_group::1.kind::f16  [ t+1 ], [t+57], a, i, p;" ∷ [], (14, 5, 39)) ∷
    (alloc64 ∷ m128n64 ∷ shared ∷ "0\ttcgen05.mma.cta_group::1.kind::f16 [t], [ t+57 ], a, i, p;" ∷ [], (14, 5, 43)) ∷
    (alloc64 ∷ "0\tmov.b32 i, 0x08100014;" ∷ shared ∷ "0\ttcgen05.mma.sp.cta_group::1.kind::f16 [t], a, a,[t + 63], i, p;" ∷ [], (14, 5, 51)) ∷
    -- N 256 with `.ws` and `.sp`, in each kind
    (alloc512 ∷ "0\tmov.b32 i, 0x08400014;" ∷ shared ∷ "0\ttcgen05.mma.ws.sp.cta_group::1.kind::f16 [t], a, a, [t], i, p;" ∷ [], (20, 5, 60)) ∷
    (alloc512 ∷ "0\tmov.b32 i, 0x08400914;" ∷ shared ∷ "0\ttcgen05.mma.ws.sp.cta_group::1.kind::tf32 [t], a, a, [t], i, p;" ∷ [], (20, 5, 61)) ∷
    (alloc512 ∷ "0\tmov.b32 i, 0x08400014;" ∷ shared ∷ "0\ttcgen05.mma.ws.sp.cta_group::1.kind::f8f6f4 [t], a, a, [t], i, p;" ∷ [], (20, 5, 63)) ∷
    (alloc512 ∷ "0\tmov.b32 i, 0x08400024;" ∷ shared ∷ "0\ttcgen05.mma.ws.sp.cta_group::1.kind::i8 [t], a, a, [t], i, p;" ∷ [], (20, 5, 59)) ∷
    []

-- Where a number stands, an expression: 3 at the token at which none can go on, 4 and 9 at its start, 8 and 14 by its value.
abbrev pub sums : List (List String × (ℕ × ℕ × ℕ))
sums =
    ("0\tmov.b32 x, +1;" ∷ [], (3, 2, 14)) ∷
    ("0\tmov.b32 x, (1" ∷ [], (3, 2, 16)) ∷
    ("0\tmov.b32 x, (((((((((((((((((1)))))))))))))))));" ∷ [], (3, 2, 30)) ∷
    ("0\tmov.b32 x, 4294967296*4294967296*4294967296+;" ∷ [], (3, 2, 47)) ∷
    ("0\tmov.b32 x, 2*-3;" ∷ [], (4, 2, 14)) ∷
    ("0\tmov.b32 x,  (9223372036854775807+1)*0;" ∷ [], (4, 2, 15)) ∷
    ("0\ttcgen05.ld.sync.aligned.32x32b.x1.b32 {r}, [t+(65536)*65536];" ∷ [], (4, 2, 49)) ∷
    ("0\ttcgen05.alloc.cta_group::1.sync.aligned.b32 [t], 64+32;" ∷ [], (9, 2, 52)) ∷
    (alloc64 ∷ "0\ttcgen05.dealloc.cta_group::1.sync.aligned.b32 t,  2*16;" ∷ [], (9, 3, 53)) ∷
    (alloc64 ∷ "1\ttcgen05.ld.sync.aligned.32x32b.x1.b32 {r}, [t+32*65536-1];" ∷ [], (8, 3, 46)) ∷
    (alloc64 ∷ "0\ttcgen05.ld.sync.aligned.32x32b.x1.b32 {r}, [t+8*8];" ∷ [], (14, 3, 46)) ∷
    (alloc64 ∷ "1\ttcgen05.ld.sync.aligned.32x32b.x1.b32 {r}, [t+(32*65536)+63];" ∷ "1\ttcgen05.wait::ld.sync.aligned;" ∷ "0\ttcgen05.dealloc.cta_group::1.sync.aligned.b32 t, -(32-96);" ∷ exit ∷ [], (16, 6, 1)) ∷
    []

-- The sheet of docs/FORMAT.md, 'A sheet and its report': the whole answer with the wait of warp 1 after its load, and without it. 18 is at the opcode, and held is
-- that before the line.
abbrev pub upper : List String
upper =
    "0\ttcgen05.alloc.cta_group::1.sync.aligned.b32 [t0], 64;"
    ∷ "0\ttcgen05.alloc.cta_group::1.sync.aligned.b32 [t1], 32;"
    ∷ "0\ttcgen05.dealloc.cta_group::1.sync.aligned.b32 t0, 64;"
    ∷ "0\ttcgen05.alloc.cta_group::1.sync.aligned.b32 [t2], 32;"
    ∷ "1\ttcgen05.ld.sync.aligned.32x32b.x2.b32 {r0, r1}, [t1+2097152];"
    ∷ []

abbrev pub lower : List String
lower = "0\ttcgen05.dealloc.cta_group::1.sync.aligned.b32 t1, 32;" ∷ "0\ttcgen05.dealloc.cta_group::1.sync.aligned.b32 t2, 32;" ∷ exit ∷ []

abbrev pub wholes : List (List String × Answer)
wholes =
    (upper ++ ("1\ttcgen05.wait::ld.sync.aligned;" ∷ lower), answer 0 10 0 0 96) ∷
    (upper ++ lower, answer 18 7 3 64 96) ∷
    (upper ++ ("0\ttcgen05.wait::ld.sync.aligned;" ∷ lower), answer 18 8 3 64 96) ∷
    (upper ++ ("1\ttcgen05.wait::st.sync.aligned;" ∷ lower), answer 18 8 3 64 96) ∷
    []

-- the starts of the first, which are written on a pass
abbrev pub starts : List ℕ
starts = 0 ∷ 64 ∷ 0 ∷ []

-- ---- the claim: each sheet of each table has what stands beside it
pub record Worked : Type 0 where
  pub headers_are : Gives pointed headers
  pub ends_are : Gives below ends
  pub passes_are : Gives lent passes
  pub layouts_are : Gives below layouts
  pub stops_are : Gives below stops
  pub requests_are : Gives below requests
  pub accesses_are : Gives below accesses
  pub mmas_are : Gives below mmas
  pub sums_are : Gives below sums
  pub wholes_are : Gives (λ lines. judged_of (sheet_of lines) 3) wholes
  pub starts_are : starts_after (sheet_of (upper ++ ("1\ttcgen05.wait::ld.sync.aligned;" ∷ lower))) (9 ∷ 9 ∷ 9 ∷ 9 ∷ []) ≡ starts ++ (9 ∷ [])
