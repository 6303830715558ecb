-- Worked examples of the rules at both sides of each figure: tables of small sheets with their answers, under one claim, so that a wrong figure in a
-- definition is seen here. proofs/WorkedProved.antt computes them. Assumes nothing.
use Rattle.std.specs.Prelude.{ℕ, zero, suc, ◌+◌, ◌*◌, ◌≡◌, Bool, true, false, cond, eqb, List, [], ◌∷◌, ◌++◌, get_or, length, Some, None}
use Rattle.std.proofs.Math.Option.{none}
use Rattle.laws.specs.Rules.{first_broken}
use Rattle.laws.specs.Worked.{Gives}
use Rattle.tokens.specs.declared.Name.{Name}
use Rattle.instruction.specs.declared.Kind.TheVariants.{F16}
use Rattle.statement.specs.Forms.{Metadata}
use Rattle.statement.specs.declared.Address.{Address}
use Rattle.statement.specs.declared.Access.{Access}
use Rattle.statement.specs.declared.Shape.{Shape}
use Rattle.statement.specs.declared.Shape.TheVariants.{S32x32, S16x64, S16x128, S16x256}
use Rattle.statement.specs.declared.Num.{Num}
use Rattle.statement.specs.declared.Num.TheVariants.{X1, X2, X4, X8, X16, X32, X64, X128}
use Rattle.statement.specs.declared.Operand.{Operand}
use Rattle.statement.specs.declared.Operand.TheVariants as operand
use Rattle.statement.specs.declared.Position.{Position}
use Rattle.statement.specs.declared.Position.TheVariants as position
use Rattle.statement.specs.declared.Position.TheVariants.{Start, Token, Opcode}
use Rattle.statement.specs.declared.Transfer.{Transfer}
use Rattle.statement.specs.declared.Transfer.TheVariants as transfer
use Rattle.statement.specs.declared.Statement.{Statement}
use Rattle.statement.specs.Views as act
use Rattle.statement.specs.declared.Statement.TheVariants.{Mov32, Mov64, Alloc, Dealloc, Relinquish, Load, Store, WaitLoad, WaitStore, FenceBefore, FenceAfter, Multiply, Exit}
use Rattle.rules.specs.declared.Answer.{Answer}
use Rattle.rules.specs.State.{State, Allocation, Binding, Mark, lowest}
use Rattle.rules.specs.Rows.{Row, rules_of, first_position}
use Rattle.rules.specs.Reasons.{open_rows}
use Rattle.rules.specs.Sheet.{Line, bad_layout, no_form, too_large, statement, effect, answer, answer_of}

-- ---- lines
abbrev pub name : ℕ → Name
name n = record { hi = n; lo = 0 }

abbrev pub at : ℕ → ℕ → ℕ → Address
at n lane column = record { base = name n; offset = lane * 65536 + column }

abbrev pub alloc : ℕ → ℕ → Line
alloc n columns = statement 0 (Alloc (name n) columns)

abbrev pub dealloc : ℕ → ℕ → Line
dealloc n columns = statement 0 (Dealloc (name n) columns)

-- a ld and a st of one column by a warp, and their waits
abbrev pub one : ℕ → ℕ → Access
one w n = record { shape = S32x32; num = X1; registers = 1; address = at n (32 * w) 0 }

abbrev pub load : ℕ → ℕ → Line
load w n = statement w (Load (one w n))

abbrev pub store : ℕ → ℕ → Line
store w n = statement w (Store (one w n))

abbrev pub wait_load : ℕ → Line
wait_load w = statement w WaitLoad

abbrev pub wait_store : ℕ → Line
wait_store w = statement w WaitStore

abbrev pub exit : Line
exit = statement 0 Exit

-- columns that tell positions apart
abbrev pub mark : Position → ℕ
mark Start = 1
mark Token = 2
mark Opcode = 3
mark (position.Name i) = 10 + i
mark (position.Operand i) = 20 + i

-- the answer of these lines after a good line 1, with four places lent
abbrev pub judged : List Line → Answer
judged lines = answer_of (record { header = true; line = λ k. get_or lines k no_form; count = length lines; column = λ l p. mark p }) 4

-- the reason, and the position
abbrev pub blamed : List Line → ℕ × ℕ
blamed lines = ((judged lines).reason, (judged lines).column)

-- ---- whole sheets: reason, line, position, held and peak
abbrev pub sheet_cases : List (List Line × Answer)
sheet_cases =
    -- header alone; header and exit; a line of wrong layout, of no form and of too large a number after one of 32 columns
    ([], answer 15 1 1 0 0)
    ∷ (exit ∷ [], answer 0 2 0 0 0)
    ∷ (alloc 1 32 ∷ bad_layout ∷ [], answer 2 3 1 32 32)
    ∷ (alloc 1 32 ∷ no_form ∷ [], answer 3 3 2 32 32)
    ∷ (alloc 1 32 ∷ too_large ∷ [], answer 4 3 2 32 32)
    -- exit with columns held; missing exit; a line after exit
    ∷ (alloc 1 32 ∷ exit ∷ [], answer 15 3 1 32 32)
    ∷ (alloc 1 32 ∷ [], answer 15 2 1 32 32)
    ∷ (exit ∷ dealloc 1 32 ∷ [], answer 15 3 1 0 0)
    -- the warp stays fixed, for a dealloc and a second relinquish too; alloc after relinquish; dealloc after it passes
    ∷ (alloc 1 32 ∷ dealloc 1 32 ∷ statement 1 (Alloc (name 1) 32) ∷ [], answer 8 4 1 0 32)
    ∷ (alloc 1 32 ∷ statement 1 (Dealloc (name 1) 32) ∷ [], answer 8 3 1 32 32)
    ∷ (statement 2 Relinquish ∷ statement 1 Relinquish ∷ exit ∷ [], answer 8 3 1 0 0)
    ∷ (statement 2 Relinquish ∷ statement 2 (Alloc (name 1) 32) ∷ exit ∷ [], answer 10 3 3 0 0)
    ∷ (alloc 1 32 ∷ statement 0 Relinquish ∷ dealloc 1 32 ∷ exit ∷ [], answer 0 5 0 0 32)
    -- the lowest number of a line: the warp before the size, the size before the permit
    ∷ (alloc 1 32 ∷ statement 1 (Alloc (name 2) 96) ∷ [], answer 8 3 1 32 32)
    ∷ (statement 0 Relinquish ∷ alloc 1 96 ∷ [], answer 9 3 21 0 0)
    -- a dealloc of part, and of more; a name that is live, and one that is not
    ∷ (alloc 1 64 ∷ dealloc 1 32 ∷ [], answer 9 3 21 64 64)
    ∷ (alloc 1 64 ∷ dealloc 1 128 ∷ [], answer 9 3 21 64 64)
    ∷ (alloc 1 64 ∷ alloc 1 32 ∷ [], answer 6 3 10 64 64)
    ∷ (alloc 1 64 ∷ dealloc 2 64 ∷ [], answer 6 3 10 64 64)
    -- a name is a value or an allocation
    ∷ (alloc 1 64 ∷ statement 0 (Mov32 (name 1) 0) ∷ [], answer 6 3 10 64 64)
    ∷ (statement 0 (Mov32 (name 1) 0) ∷ alloc 1 64 ∷ [], answer 6 3 10 0 0)
    -- five requests and four places; the most held is answered
    ∷ (alloc 1 32 ∷ alloc 2 32 ∷ alloc 3 32 ∷ alloc 4 32 ∷ dealloc 1 32 ∷ dealloc 2 32 ∷ dealloc 3 32 ∷ dealloc 4 32 ∷ exit ∷ [], answer 0 10 0 0 128)
    ∷ (alloc 1 32 ∷ dealloc 1 32 ∷ alloc 2 64 ∷ dealloc 2 64 ∷ alloc 3 32 ∷ dealloc 3 32 ∷ alloc 4 32 ∷ dealloc 4 32 ∷ alloc 5 32 ∷ dealloc 5 32 ∷ exit ∷ [], answer 16 12 1 0 64)
    -- no free run: the memory is full, or what is free is in parts
    ∷ (alloc 1 512 ∷ alloc 2 32 ∷ [], answer 11 3 3 512 512)
    ∷ (alloc 1 256 ∷ alloc 2 128 ∷ alloc 3 128 ∷ dealloc 2 128 ∷ alloc 4 256 ∷ [], answer 11 6 3 384 512)
    ∷ []

-- the reason of lines between an alloc of name 1 and its end
abbrev pub reason_in : ℕ → List Line → ℕ
reason_in columns lines = (judged (alloc 1 columns ∷ (lines ++ dealloc 1 columns ∷ exit ∷ []))).reason

-- ---- requests of columns
abbrev pub request_cases : List (ℕ × ℕ)
request_cases = (0, 9) ∷ (16, 9) ∷ (31, 9) ∷ (32, 0) ∷ (33, 9) ∷ (64, 0) ∷ (96, 9) ∷ (128, 0) ∷ (256, 0) ∷ (384, 9) ∷ (512, 0) ∷ (513, 9) ∷ (1024, 9) ∷ []

-- ---- loads and stores that are not waited for
abbrev pub wait_cases : List (List Line × Answer)
wait_cases =
    -- a load, a store: not waited for, and waited for by its warp; one wait for two
    (alloc 1 32 ∷ load 1 1 ∷ dealloc 1 32 ∷ [], answer 18 4 3 32 32)
    ∷ (alloc 1 32 ∷ store 1 1 ∷ dealloc 1 32 ∷ [], answer 18 4 3 32 32)
    ∷ (alloc 1 32 ∷ load 1 1 ∷ wait_load 1 ∷ dealloc 1 32 ∷ exit ∷ [], answer 0 6 0 0 32)
    ∷ (alloc 1 32 ∷ store 1 1 ∷ wait_store 1 ∷ dealloc 1 32 ∷ exit ∷ [], answer 0 6 0 0 32)
    ∷ (alloc 1 32 ∷ load 3 1 ∷ load 3 1 ∷ wait_load 3 ∷ dealloc 1 32 ∷ exit ∷ [], answer 0 7 0 0 32)
    -- the wait of another warp, the other wait, a fence, and a wait before the load
    ∷ (alloc 1 32 ∷ load 1 1 ∷ wait_load 0 ∷ dealloc 1 32 ∷ [], answer 18 5 3 32 32)
    ∷ (alloc 1 32 ∷ load 0 1 ∷ load 2 1 ∷ wait_load 2 ∷ dealloc 1 32 ∷ [], answer 18 6 3 32 32)
    ∷ (alloc 1 32 ∷ load 1 1 ∷ wait_store 1 ∷ dealloc 1 32 ∷ [], answer 18 5 3 32 32)
    ∷ (alloc 1 32 ∷ store 1 1 ∷ wait_load 1 ∷ dealloc 1 32 ∷ [], answer 18 5 3 32 32)
    ∷ (alloc 1 32 ∷ load 0 1 ∷ statement 0 FenceBefore ∷ statement 0 FenceAfter ∷ dealloc 1 32 ∷ [], answer 18 6 3 32 32)
    ∷ (alloc 1 32 ∷ store 0 1 ∷ statement 0 FenceBefore ∷ statement 0 FenceAfter ∷ dealloc 1 32 ∷ [], answer 18 6 3 32 32)
    ∷ (alloc 1 32 ∷ wait_load 0 ∷ load 0 1 ∷ dealloc 1 32 ∷ [], answer 18 5 3 32 32)
    -- a wait is for all allocations; a load stops the dealloc of its own alone
    ∷ (alloc 1 32 ∷ alloc 2 32 ∷ load 0 1 ∷ load 0 2 ∷ wait_load 0 ∷ dealloc 1 32 ∷ dealloc 2 32 ∷ exit ∷ [], answer 0 9 0 0 64)
    ∷ (alloc 1 32 ∷ alloc 2 32 ∷ load 0 2 ∷ dealloc 1 32 ∷ dealloc 2 32 ∷ [], answer 18 6 3 32 64)
    ∷ (alloc 1 32 ∷ alloc 2 32 ∷ store 0 2 ∷ dealloc 1 32 ∷ wait_store 0 ∷ dealloc 2 32 ∷ exit ∷ [], answer 0 8 0 0 64)
    -- no other statement asks for it: an alloc, a mov, a relinquish, a further load
    ∷ (alloc 1 32 ∷ load 0 1 ∷ alloc 2 32 ∷ statement 0 (Mov32 (name 3) 0) ∷ statement 0 Relinquish ∷ load 0 1 ∷ dealloc 2 32 ∷ wait_load 0 ∷ dealloc 1 32 ∷ exit ∷ [], answer 0 11 0 0 64)
    -- a name used again is clean
    ∷ (alloc 1 32 ∷ load 0 1 ∷ wait_load 0 ∷ dealloc 1 32 ∷ alloc 1 32 ∷ dealloc 1 32 ∷ exit ∷ [], answer 0 8 0 0 32)
    -- the other reasons of a dealloc come first, and exit has its own
    ∷ (alloc 1 32 ∷ load 0 1 ∷ dealloc 2 32 ∷ [], answer 6 4 10 32 32)
    ∷ (alloc 1 32 ∷ load 0 1 ∷ statement 1 (Dealloc (name 1) 32) ∷ [], answer 8 4 1 32 32)
    ∷ (alloc 1 32 ∷ load 0 1 ∷ dealloc 1 64 ∷ [], answer 9 4 21 32 32)
    ∷ (alloc 1 32 ∷ load 0 1 ∷ exit ∷ [], answer 15 4 1 32 32)
    ∷ []

-- marks on two names, and what a dealloc of the first leaves of them
abbrev pub marking : ℕ → ℕ → Transfer → Mark
marking n w x = record { name = name n; warp = w; transfer = x }

abbrev pub marks_left : List Mark → List Mark
marks_left l = (effect lowest (record { live = []; values = []; warp = none; relinquished = false; exited = false; outstanding = l }) 0 (act.releases (name 1) 32)).outstanding

-- ---- accesses. Shape, NUM, registers and a column, by warp 0 in a holding of so many columns
abbrev pub AtColumn : Type 0
AtColumn = ℕ × Shape × Num × ℕ × ℕ

abbrev pub column_reason : AtColumn → ℕ
column_reason x =
    reason_in x.0 (statement 0 (Load (record { shape = x.1; num = x.2; registers = x.3; address = at 1 0 x.4 })) ∷ wait_load 0 ∷ [])

abbrev pub column_cases : List (AtColumn × ℕ)
column_cases =
    -- each shape at the last column of a holding of 32, and one past
    ((32, S32x32, X1, 1, 31), 0)
    ∷ ((32, S32x32, X1, 1, 32), 14)
    ∷ ((32, S16x64, X1, 1, 30), 0)
    ∷ ((32, S16x64, X1, 1, 31), 14)
    ∷ ((32, S16x128, X1, 2, 28), 0)
    ∷ ((32, S16x128, X1, 2, 29), 14)
    ∷ ((32, S16x256, X1, 4, 24), 0)
    ∷ ((32, S16x256, X1, 4, 25), 14)
    -- each NUM
    ∷ ((128, S32x32, X2, 2, 126), 0)
    ∷ ((128, S32x32, X2, 2, 127), 14)
    ∷ ((128, S32x32, X4, 4, 124), 0)
    ∷ ((128, S32x32, X4, 4, 125), 14)
    ∷ ((128, S32x32, X8, 8, 120), 0)
    ∷ ((128, S32x32, X8, 8, 121), 14)
    ∷ ((128, S32x32, X16, 16, 112), 0)
    ∷ ((128, S32x32, X16, 16, 113), 14)
    ∷ ((128, S32x32, X32, 32, 96), 0)
    ∷ ((128, S32x32, X32, 32, 97), 14)
    ∷ ((64, S32x32, X64, 64, 0), 0)
    ∷ ((64, S32x32, X64, 64, 1), 14)
    ∷ ((128, S32x32, X128, 128, 0), 0)
    ∷ ((128, S32x32, X128, 128, 1), 14)
    -- the largest NUM of each other shape, and the next
    ∷ ((256, S16x64, X128, 128, 0), 0)
    ∷ ((256, S16x64, X128, 128, 1), 14)
    ∷ ((256, S16x128, X64, 128, 0), 0)
    ∷ ((256, S16x128, X64, 128, 1), 14)
    ∷ ((512, S16x128, X128, 256, 0), 5)
    ∷ ((256, S16x256, X32, 128, 0), 0)
    ∷ ((256, S16x256, X32, 128, 1), 14)
    ∷ ((512, S16x256, X64, 256, 0), 5)
    -- another count of registers
    ∷ ((32, S32x32, X2, 1, 0), 5)
    ∷ ((32, S32x32, X2, 3, 0), 5)
    ∷ ((32, S16x128, X2, 2, 0), 5)
    ∷ ((32, S16x256, X2, 4, 0), 5)
    ∷ []

-- a warp, a shape and a lane: a st of one column or more
abbrev pub AtLane : Type 0
AtLane = ℕ × Shape × ℕ × ℕ

abbrev pub lane_reason : AtLane → ℕ
lane_reason x = reason_in 32 (statement x.0 (Store (record { shape = x.1; num = X1; registers = x.2; address = at 1 x.3 0 })) ∷ wait_store x.0 ∷ [])

abbrev pub lane_cases : List (AtLane × ℕ)
lane_cases =
    -- all 32 lanes of a warp are at 32w alone
    ((0, S32x32, 1, 0), 0)
    ∷ ((0, S32x32, 1, 16), 8)
    ∷ ((0, S32x32, 1, 32), 8)
    ∷ ((3, S32x32, 1, 96), 0)
    ∷ ((3, S32x32, 1, 112), 8)
    ∷ ((3, S32x32, 1, 0), 8)
    -- 16 lanes are at 32w or 32w + 16
    ∷ ((0, S16x64, 1, 0), 0)
    ∷ ((0, S16x64, 1, 16), 0)
    ∷ ((0, S16x64, 1, 15), 8)
    ∷ ((0, S16x64, 1, 17), 8)
    ∷ ((0, S16x64, 1, 32), 8)
    ∷ ((1, S16x128, 2, 48), 0)
    ∷ ((1, S16x128, 2, 16), 8)
    ∷ ((1, S16x128, 2, 64), 8)
    ∷ ((3, S16x256, 4, 112), 0)
    ∷ ((3, S16x256, 4, 128), 8)
    ∷ []

-- ---- mma. Name 1 is d's holding, 2 the instruction descriptor, 3 and 4 shared memory descriptors
abbrev pub shared : ℕ
shared = 0x0000400800100000

-- `.ws`, the holding of d, the word of idesc, and d, a and the metadata
abbrev pub OfMma : Type 0
OfMma = Bool × ℕ × ℕ × Address × Operand × Metadata

abbrev pub mma_reason : OfMma → ℕ
mma_reason x =
    reason_in x.1
    (statement 3 (Mov32 (name 2) x.2)
    ∷ statement 2 (Mov64 (name 3) shared)
    ∷ statement 1 (Mov64 (name 4) shared)
    ∷ statement 1 (Multiply (record { ws = x.0; kind = F16; d = x.3; a = x.4; b = name 4; metadata = x.5; idesc = name 2; predicate = name 5 }))
    ∷ [])

-- M 128 and N 64
abbrev pub m128n64 : ℕ
m128n64 = 0x08100010

abbrev pub a3 : Operand
a3 = operand.Descriptor (name 3)

abbrev pub mma_cases : List (OfMma × ℕ)
mma_cases =
    -- d has N columns from its column on, at lane 0
    ((false, 64, m128n64, at 1 0 0, a3, None), 0)
    ∷ ((false, 64, m128n64, at 1 0 1, a3, None), 14)
    ∷ ((false, 64, m128n64, at 1 1 0, a3, None), 14)
    ∷ ((false, 32, m128n64, at 1 0 0, a3, None), 14)
    ∷ ((false, 128, m128n64, at 1 0 64, a3, None), 0)
    ∷ ((false, 128, m128n64, at 1 0 65, a3, None), 14)
    ∷ ((false, 256, 0x08400010, at 1 0 0, a3, None), 0)
    ∷ ((false, 256, 0x08400010, at 1 0 1, a3, None), 14)
    -- [a] has 8 columns, at lane 0
    ∷ ((false, 64, m128n64, at 1 0 0, operand.Address (at 1 0 56), None), 0)
    ∷ ((false, 64, m128n64, at 1 0 0, operand.Address (at 1 0 57), None), 14)
    ∷ ((false, 64, m128n64, at 1 0 0, operand.Address (at 1 16 0), None), 14)
    -- the metadata 2
    ∷ ((false, 64, m128n64 + 4, at 1 0 0, a3, Some (at 1 0 62)), 0)
    ∷ ((false, 64, m128n64 + 4, at 1 0 0, a3, Some (at 1 0 63)), 14)
    ∷ ((false, 64, m128n64 + 4, at 1 0 0, a3, Some (at 1 32 0)), 14)
    -- sparse stands with `.sp` alone
    ∷ ((false, 64, m128n64 + 4, at 1 0 0, a3, None), 12)
    ∷ ((false, 64, m128n64, at 1 0 0, a3, Some (at 1 0 0)), 12)
    -- names: d and [a] are allocations, a a 64-bit value, idesc a 32-bit one
    ∷ ((false, 64, m128n64, at 6 0 0, a3, None), 6)
    ∷ ((false, 64, m128n64, at 1 0 0, operand.Address (at 6 0 0), None), 6)
    ∷ ((false, 64, m128n64, at 1 0 0, operand.Descriptor (name 1), None), 6)
    ∷ ((false, 64, m128n64, at 1 0 0, operand.Descriptor (name 2), None), 6)
    ∷ ((false, 64, m128n64, at 1 0 0, a3, Some (at 3 0 0)), 6)
    -- N 32 is listed without `.ws` alone, M 32 with it alone; N 264 and M 192 never
    ∷ ((true, 64, m128n64, at 1 0 0, a3, None), 0)
    ∷ ((false, 64, 0x08080010, at 1 0 0, a3, None), 0)
    ∷ ((true, 64, 0x08080010, at 1 0 0, a3, None), 20)
    ∷ ((true, 64, 0x02100010, at 1 0 0, a3, None), 0)
    ∷ ((false, 64, 0x02100010, at 1 0 0, a3, None), 13)
    ∷ ((false, 512, 0x08420010, at 1 0 0, a3, None), 20)
    ∷ ((false, 64, 0x0C100010, at 1 0 0, a3, None), 13)
    -- with `.ws` N 256 is listed when dense alone
    ∷ ((true, 256, 0x08400010, at 1 0 0, a3, None), 0)
    ∷ ((true, 256, 0x08400014, at 1 0 0, a3, Some (at 1 0 0)), 20)
    ∷ ((true, 256, 0x08200014, at 1 0 0, a3, Some (at 1 0 0)), 0)
    ∷ ((false, 256, 0x08400014, at 1 0 0, a3, Some (at 1 0 0)), 0)
    -- the listing comes before the columns
    ∷ ((false, 32, 0x02100010, at 1 0 0, a3, None), 13)
    ∷ []

-- ---- positions. An mma after an alloc of 64 columns, with the words of idesc, a and b, under names 2, 3 and 4
abbrev pub of_mma : (idesc a b : ℕ) → Statement → List Line
of_mma idesc a b t = alloc 1 64 ∷ statement 0 (Mov32 (name 2) idesc) ∷ statement 0 (Mov64 (name 3) a) ∷ statement 0 (Mov64 (name 4) b) ∷ statement 0 t ∷ []

abbrev pub mma : Address → Operand → (b : ℕ) → Metadata → (idesc : ℕ) → Statement
mma d a b e idesc = Multiply (record { ws = false; kind = F16; d = d; a = a; b = name b; metadata = e; idesc = name idesc; predicate = name 9 })

abbrev pub access : Address → Access
access a = record { shape = S32x32; num = X1; registers = 1; address = a }

abbrev pub position_cases : List (List Line × (ℕ × ℕ))
position_cases =
    -- a ld has its address second, a st first: the name, the bracket for the lane, the bracket for the columns, and the opcode for the registers
    (alloc 1 32 ∷ statement 0 (Load (access (at 2 0 0))) ∷ [], (6, 11))
    ∷ (alloc 1 32 ∷ statement 0 (Store (access (at 2 0 0))) ∷ [], (6, 10))
    ∷ (alloc 1 32 ∷ statement 1 (Load (access (at 1 0 0))) ∷ [], (8, 21))
    ∷ (alloc 1 32 ∷ statement 1 (Store (access (at 1 0 0))) ∷ [], (8, 20))
    ∷ (alloc 1 32 ∷ statement 0 (Load (access (at 1 0 32))) ∷ [], (14, 21))
    ∷ (alloc 1 32 ∷ statement 0 (Store (access (at 1 0 32))) ∷ [], (14, 20))
    ∷ (alloc 1 32 ∷ statement 0 (Load (record { shape = S32x32; num = X1; registers = 2; address = at 1 0 0 })) ∷ [], (5, 3))
    -- 6 of an mma: d, a, b, the metadata and idesc, each as the first of two
    ∷ (of_mma m128n64 shared shared (mma (at 6 0 0) a3 6 None 2), (6, 10))
    ∷ (of_mma m128n64 shared shared (mma (at 1 0 0) (operand.Descriptor (name 6)) 6 None 2), (6, 11))
    ∷ (of_mma m128n64 shared shared (mma (at 1 0 0) (operand.Address (at 6 0 0)) 4 None 6), (6, 11))
    ∷ (of_mma m128n64 shared shared (mma (at 1 0 0) a3 6 None 6), (6, 12))
    ∷ (of_mma (m128n64 + 4) shared shared (mma (at 1 0 0) a3 4 (Some (at 6 0 0)) 6), (6, 13))
    ∷ (of_mma m128n64 shared shared (mma (at 1 0 0) a3 4 None 6), (6, 13))
    ∷ (of_mma (m128n64 + 4) shared shared (mma (at 1 0 0) a3 4 (Some (at 1 0 0)) 6), (6, 14))
    -- 12: a, b and idesc; one name twice is the first
    ∷ (of_mma 3 0 0 (mma (at 1 0 0) a3 4 None 2), (12, 11))
    ∷ (of_mma m128n64 shared 0 (mma (at 1 0 0) (operand.Descriptor (name 4)) 4 None 2), (12, 11))
    ∷ (of_mma 3 shared 0 (mma (at 1 0 0) a3 4 None 2), (12, 12))
    ∷ (of_mma 3 shared 0 (mma (at 1 0 0) (operand.Address (at 1 0 0)) 4 None 2), (12, 12))
    ∷ (of_mma 3 shared shared (mma (at 1 0 0) a3 4 None 2), (12, 13))
    ∷ (of_mma 3 shared shared (mma (at 1 0 0) a3 4 (Some (at 1 0 0)) 2), (12, 14))
    -- M, N and types not listed; N and types; types; each before the columns
    ∷ (of_mma 0x0C000020 shared shared (mma (at 1 0 1) a3 4 None 2), (13, 13))
    ∷ (of_mma 0x08000020 shared shared (mma (at 1 0 1) a3 4 None 2), (20, 13))
    ∷ (of_mma 0x08100020 shared shared (mma (at 1 0 1) a3 4 None 2), (21, 13))
    ∷ (of_mma 0x0C000024 shared shared (mma (at 1 0 1) a3 4 (Some (at 1 0 0)) 2), (13, 14))
    ∷ (of_mma 0x08000024 shared shared (mma (at 1 0 1) a3 4 (Some (at 1 0 0)) 2), (20, 14))
    ∷ (of_mma 0x08100024 shared shared (mma (at 1 0 1) a3 4 (Some (at 1 0 0)) 2), (21, 14))
    -- 14: d, a and the metadata
    ∷ (of_mma m128n64 shared shared (mma (at 1 0 1) (operand.Address (at 1 0 57)) 4 None 2), (14, 20))
    ∷ (of_mma (m128n64 + 4) shared shared (mma (at 1 0 0) (operand.Address (at 1 0 57)) 4 (Some (at 1 0 63)) 2), (14, 21))
    ∷ (of_mma (m128n64 + 4) shared shared (mma (at 1 0 0) a3 4 (Some (at 1 0 63)) 2), (14, 23))
    ∷ []

-- ---- states too long for a sheet here
-- that many value names from 1 on
abbrev pub value_names : ℕ → List Binding
value_names zero = []
value_names (suc n) = record { name = name (suc n); width = 32; number = 0 } ∷ value_names n

-- that many allocations of 32 columns, each so far from the one before
abbrev pub holdings : ℕ → ℕ → List Allocation
holdings apart zero = []
holdings apart (suc n) = record { name = name (1000 + n); start = n * apart; columns = 32 } ∷ holdings apart n

abbrev pub state_of : List Allocation → List Binding → State
state_of live bound = record { live = live; values = bound; warp = none; relinquished = false; exited = false; outstanding = [] }

-- the reason and the position of a statement of warp 0 in a state, with those columns held
abbrev pub InState : Type 0
InState = List Allocation × List Binding × ℕ × Statement

abbrev pub blamed_of : List Row → ℕ × ℕ
blamed_of rs = (first_broken (rules_of rs), cond (eqb (first_broken (rules_of rs)) 0) 0 (mark (first_position rs)))

abbrev pub state_blamed : InState → ℕ × ℕ
state_blamed x = blamed_of (open_rows lowest (state_of x.0 x.1) x.2 0 x.3)

abbrev pub state_cases : List (InState × (ℕ × ℕ))
state_cases =
    -- the 128th value name and the 129th, at either width; a name bound again takes no place
    (([], value_names 127, 0, Mov32 (name 200) 0), (0, 0))
    ∷ (([], value_names 128, 0, Mov32 (name 200) 0), (7, 10))
    ∷ (([], value_names 128, 0, Mov64 (name 200) 0), (7, 10))
    ∷ (([], value_names 128, 0, Mov64 (name 128) 0), (0, 0))
    -- sixteen holdings of 32 leave nothing; with every other one given back 256 columns are free, but no run of 64
    ∷ ((holdings 32 15, [], 480, Alloc (name 1) 32), (0, 0))
    ∷ ((holdings 32 15, [], 480, Alloc (name 1) 64), (11, 3))
    ∷ ((holdings 32 16, [], 512, Alloc (name 1) 32), (11, 3))
    ∷ ((holdings 64 8, [], 256, Alloc (name 1) 32), (0, 0))
    ∷ ((holdings 64 8, [], 256, Alloc (name 1) 64), (11, 3))
    -- exit by the columns held, whatever is stored
    ∷ (([], [], 0, Exit), (0, 0))
    ∷ (([], [], 1, Exit), (15, 1))
    ∷ ((holdings 32 1, [], 32, Exit), (15, 1))
    ∷ ((holdings 32 1, [], 0, Exit), (0, 0))
    ∷ []

-- ---- the claim
pub record Worked : Type 0 where
  -- a wrong line 1
  pub header : answer_of (record { header = false; line = λ k. exit; count = 1; column = λ l p. mark p }) 0 ≡ answer 2 1 1 0 0
  pub whole : Gives judged sheet_cases
  pub requests : Gives (λ columns. reason_in columns []) request_cases
  pub waits : Gives judged wait_cases
  pub left : marks_left (marking 1 0 transfer.Load ∷ marking 2 1 transfer.Store ∷ marking 1 3 transfer.Store ∷ []) ≡ marking 2 1 transfer.Store ∷ []
  pub columns : Gives column_reason column_cases
  pub lanes : Gives lane_reason lane_cases
  pub mmas : Gives mma_reason mma_cases
  pub positions : Gives blamed position_cases
  pub states : Gives state_blamed state_cases
