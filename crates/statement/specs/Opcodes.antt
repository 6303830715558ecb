-- The opcodes of the table, and the one whose word is given. Assumes nothing.
use Rattle.std.specs.Prelude.{ℕ, List, [], ◌∷◌, ◌++◌, Bool, true, false, Option, Some, None}
use Rattle.std.proofs.Math.Option as search
use Rattle.laws.specs.Tests.{find}
use Rattle.tokens.specs.Bytes.{same_bytes}
use Rattle.instruction.specs.declared.Kind.{Kind}
use Rattle.instruction.specs.declared.Kind.TheVariants.{F16, Tf32, F8f6f4, I8}
use Rattle.statement.specs.declared.Shape.{Shape}
use Rattle.statement.specs.declared.Shape.TheVariants.{S32x32, S16x64, S16x128, S16x256}
use Rattle.statement.specs.declared.Num.{Num}
use Rattle.statement.specs.declared.Num.TheVariants.{X1, X2, X4, X8, X16, X32, X64, X128}
use Rattle.statement.specs.declared.Opcode.{Opcode}
use Rattle.statement.specs.declared.Opcode.TheVariants.{Mov32, Mov64, Alloc, Dealloc, Relinquish, Load, Store, WaitLoad, WaitStore, FenceBefore, FenceAfter, Multiply, Exit}
use Rattle.statement.specs.Forms.{word}

-- ---- the opcodes
-- the lists that a function gives for each of some things, one after the other
abbrev pub each : {A : Type 0} → List A → (A → List Opcode) → List Opcode
each [] f = []
each (x ∷ l) f = f x ++ each l f

abbrev pub shapes : List Shape
shapes = S32x32 ∷ S16x64 ∷ S16x128 ∷ S16x256 ∷ []

abbrev pub nums : List Num
nums = X1 ∷ X2 ∷ X4 ∷ X8 ∷ X16 ∷ X32 ∷ X64 ∷ X128 ∷ []

abbrev pub kinds : List Kind
kinds = F16 ∷ Tf32 ∷ F8f6f4 ∷ I8 ∷ []

abbrev pub flags : List Bool
flags = false ∷ true ∷ []

-- those with no SHAPE, NUM or KIND; ld and st; mma
abbrev pub singles : List Opcode
singles = Mov32 ∷ Mov64 ∷ Alloc false ∷ Alloc true ∷ Dealloc ∷ Relinquish ∷ WaitLoad ∷ WaitStore ∷ FenceBefore ∷ FenceAfter ∷ Exit ∷ []

abbrev pub load_stores : List Opcode
load_stores = each shapes (λ shape. each nums (λ num. Load shape num ∷ Store shape num ∷ []))

abbrev pub mmas : List Opcode
mmas = each flags (λ ws. each flags (λ sp. each kinds (λ kind. Multiply ws sp kind ∷ [])))

-- every opcode
unfoldable pub opcodes : List Opcode
opcodes = singles ++ (load_stores ++ mmas)

-- ---- the opcode of a word
abbrev pub found_by : search.Option Opcode → Option Opcode
found_by search.none = None
found_by (search.some o) = Some o

-- the opcode whose word it is
unfoldable pub recognise : List ℕ → Option Opcode
recognise w = found_by (find (λ o. same_bytes w (word o)) opcodes)
