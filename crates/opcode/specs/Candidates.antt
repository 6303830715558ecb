-- How the head of a text is found: a few bytes, at places counted from the start, tell the one opcode that it can be, and the text is compared with that
-- one's word. It is the head by the table (`candidate_head`, in proofs/Heads). Assumes nothing.
use Rattle.std.specs.Prelude.{ℕ, ◌+◌, List, [], ◌∷◌, Bool, true, false, not, cond, get_or, eqb, Option, Some, None}
use Rattle.instruction.specs.declared.Kind.{Kind}
use Rattle.instruction.specs.declared.Kind.TheVariants.{F16, Tf32, F8f6f4, I8}
use Rattle.tokens.specs.Bytes.{opcode_byte}
use Rattle.tokens.specs.Text.{byte}
use Rattle.statement.specs.declared.Shape.{Shape}
use Rattle.statement.specs.declared.Shape.TheVariants.{S32x32, S16x64, S16x128, S16x256}
use Rattle.statement.specs.declared.Num.{Num}
use Rattle.statement.specs.declared.Num.TheVariants.{X1, X2, X4, X8, X16, X32, X64, X128}
use Rattle.statement.specs.declared.Opcode.{Opcode}
use Rattle.statement.specs.declared.Opcode.TheVariants.{Mov32, Mov64, Alloc, Dealloc, Relinquish, Load, Store, WaitLoad, WaitStore, FenceBefore, FenceAfter, Multiply, Exit}
use Rattle.statement.specs.Forms.{word}
use Rattle.opcode.specs.Pieces.{without}
use Rattle.opcode.specs.Heads.{Parted}

-- ---- the candidate
-- the byte at a place is this one
abbrev pub is_at : List ℕ → ℕ → ℕ → Bool
is_at s at x = eqb (get_or s at 0) x

-- by the byte at 27: .32x32b, .16x64b, .16x128b, .16x256b
unfoldable pub shape_by : ℕ → Shape
shape_by x = cond (eqb x (byte "3")) S32x32 (cond (eqb x (byte "6")) S16x64 (cond (eqb x (byte "1")) S16x128 S16x256))

-- of a ld or st
unfoldable pub shape_of : List ℕ → Shape
shape_of s = shape_by (get_or s 27 0)

-- where the digits of .xN stand
abbrev pub num_place : Shape → ℕ
num_place S32x32 = 32
num_place S16x64 = 32
num_place S16x128 = 33
num_place S16x256 = 33

-- by the first two bytes of N and what follows it
unfoldable pub num_at : ℕ → ℕ → Num
num_at x y =
    cond (eqb x (byte "1")) (cond (eqb y (byte "6")) X16 (cond (eqb y (byte "2")) X128 X1))
    (cond (eqb x (byte "2")) X2
    (cond (eqb x (byte "3")) X32
    (cond (eqb x (byte "4")) X4
    (cond (eqb x (byte "6")) X64
    X8))))

-- of a ld or st
unfoldable pub num_in : List ℕ → Num
num_in s = let p = num_place (shape_of s) in num_at (get_or s p 0) (get_or s (p + 1) 0)

-- where the kind stands
abbrev pub kind_place : Bool → Bool → ℕ
kind_place false false = 31
kind_place true false = 34
kind_place false true = 34
kind_place true true = 37

-- by the first two bytes: f16, tf32, f8f6f4, i8
unfoldable pub kind_at : ℕ → ℕ → Kind
kind_at x y = cond (eqb x (byte "t")) Tf32 (cond (eqb x (byte "i")) I8 (cond (eqb y (byte "1")) F16 F8f6f4))

-- with .ws and .sp or not
unfoldable pub mma_of : Bool → Bool → List ℕ → Opcode
mma_of ws sp s = let p = kind_place ws sp in Multiply ws sp (kind_at (get_or s p 0) (get_or s (p + 1) 0))

-- .ws by the byte at 12, .sp by it or, after .ws, by the byte at 15
unfoldable pub mma_in : List ℕ → Opcode
mma_in s = cond (is_at s 12 (byte "w")) (mma_of true (is_at s 15 (byte "s")) s) (mma_of false (is_at s 12 (byte "s")) s)

-- mov.b32 or mov.b64; wait::ld or wait::st; fence::before or fence::after
abbrev pub mov_in : List ℕ → Opcode
mov_in s = cond (is_at s 5 (byte "3")) Mov32 Mov64

abbrev pub wait_in : List ℕ → Opcode
wait_in s = cond (is_at s 14 (byte "l")) WaitLoad WaitStore

abbrev pub fence_in : List ℕ → Opcode
fence_in s = cond (is_at s 15 (byte "b")) FenceBefore FenceAfter

-- by the byte at 8, the first after tcgen05.
unfoldable pub tcgen05_in : ℕ → List ℕ → Opcode
tcgen05_in x s =
    cond (eqb x (byte "l")) (Load (shape_of s) (num_in s))
    (cond (eqb x (byte "s")) (Store (shape_of s) (num_in s))
    (cond (eqb x (byte "m")) (mma_in s)
    (cond (eqb x (byte "a")) (Alloc (is_at s 40 (byte "s")))
    (cond (eqb x (byte "d")) Dealloc
    (cond (eqb x (byte "w")) (wait_in s)
    (cond (eqb x (byte "f")) (fence_in s)
    Relinquish))))))

-- the one opcode that a text can start with
unfoldable pub candidate_in : List ℕ → Opcode
candidate_in s = cond (is_at s 0 (byte "m")) (mov_in s) (cond (is_at s 0 (byte "t")) (tcgen05_in (get_or s 8 0) s) Exit)

-- ---- the head by it
-- no byte of an opcode is next
abbrev pub stops : List ℕ → Bool
stops [] = true
stops (x ∷ l) = not (opcode_byte x)

-- the candidate, where the text starts with its word and the opcode bytes stop there
abbrev pub head_before : List ℕ → Option (List ℕ) → Parted
head_before s (Some r) = cond (stops r) (record { found = Some (candidate_in s); rest = r }) (record { found = None; rest = s })
head_before s None = record { found = None; rest = s }

-- the head of a text, by what follows its candidate's word
unfoldable pub head_in : List ℕ → Parted
head_in s = head_before s (without (word (candidate_in s)) s)
