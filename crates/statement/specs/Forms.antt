-- The table of forms: each opcode's word, its operands, and the statement that they make. Assumes nothing.
use Rattle.std.specs.Prelude.{ℕ, List, [], ◌∷◌, ◌++◌, Bool, true, false, cond, length, Option, Some, None}
use Rattle.instruction.specs.declared.Kind.{Kind}
use Rattle.instruction.specs.declared.Kind.TheVariants.{F16, Tf32, F8f6f4, I8}
use Rattle.tokens.specs.declared.Name.{Name}
use Rattle.statement.specs.declared.Shape.{Shape}
use Rattle.statement.specs.declared.Shape.TheVariants.{S32x32, S16x64, S16x128, S16x256}
use Rattle.statement.specs.declared.Num.{Num}
use Rattle.statement.specs.declared.Num.TheVariants.{X1, X2, X4, X8, X16, X32, X64, X128}
use Rattle.statement.specs.declared.Address.{Address}
use Rattle.statement.specs.declared.Operand.{Operand}
use Rattle.statement.specs.declared.Access.{Access}
use Rattle.statement.specs.declared.Statement.{Statement}
use Rattle.statement.specs.declared.Statement.TheVariants as s
use Rattle.statement.specs.declared.Opcode.{Opcode}
use Rattle.statement.specs.declared.Opcode.TheVariants.{Mov32, Mov64, Alloc, Dealloc, Relinquish, Load, Store, WaitLoad, WaitStore, FenceBefore, FenceAfter, Multiply, Exit}
use Rattle.tokens.specs.Text.{bytes}

-- ---- words
abbrev pub shape_text : Shape → List ℕ
shape_text S32x32 = bytes ".32x32b"
shape_text S16x64 = bytes ".16x64b"
shape_text S16x128 = bytes ".16x128b"
shape_text S16x256 = bytes ".16x256b"

abbrev pub num_text : Num → List ℕ
num_text X1 = bytes ".x1"
num_text X2 = bytes ".x2"
num_text X4 = bytes ".x4"
num_text X8 = bytes ".x8"
num_text X16 = bytes ".x16"
num_text X32 = bytes ".x32"
num_text X64 = bytes ".x64"
num_text X128 = bytes ".x128"

abbrev pub kind_text : Kind → List ℕ
kind_text F16 = bytes "f16"
kind_text Tf32 = bytes "tf32"
kind_text F8f6f4 = bytes "f8f6f4"
kind_text I8 = bytes "i8"

-- a part that may be left out
abbrev pub option : Bool → List ℕ → List ℕ
option b w = cond b w []

-- the word of an opcode
unfoldable pub word : Opcode → List ℕ
word Mov32 = bytes "mov.b32"
word Mov64 = bytes "mov.b64"
word (Alloc shared) = bytes "tcgen05.alloc.cta_group::1.sync.aligned" ++ (option shared (bytes ".shared::cta") ++ bytes ".b32")
word Dealloc = bytes "tcgen05.dealloc.cta_group::1.sync.aligned.b32"
word Relinquish = bytes "tcgen05.relinquish_alloc_permit.cta_group::1.sync.aligned"
word (Load shape num) = bytes "tcgen05.ld.sync.aligned" ++ (shape_text shape ++ (num_text num ++ bytes ".b32"))
word (Store shape num) = bytes "tcgen05.st.sync.aligned" ++ (shape_text shape ++ (num_text num ++ bytes ".b32"))
word WaitLoad = bytes "tcgen05.wait::ld.sync.aligned"
word WaitStore = bytes "tcgen05.wait::st.sync.aligned"
word FenceBefore = bytes "tcgen05.fence::before_thread_sync"
word FenceAfter = bytes "tcgen05.fence::after_thread_sync"
word (Multiply ws sp kind) = bytes "tcgen05.mma" ++ (option ws (bytes ".ws") ++ (option sp (bytes ".sp") ++ (bytes ".cta_group::1.kind::" ++ kind_text kind)))
word Exit = bytes "exit"

-- ---- operands
-- a name; a number up to a limit; [name]; an address; a descriptor's name or an address; {names}
pub data Slot : Type 0 where
  name : Slot
  number : ℕ → Slot
  in_brackets : Slot
  address : Slot
  operand : Slot
  names : Slot

abbrev pub Value : Slot → Type 0
Value name = Name
Value (number limit) = ℕ
Value in_brackets = Name
Value address = Address
Value operand = Operand
Value names = List Name

abbrev pub Values : List Slot → Type 0
Values [] = Unit {0}
Values (k ∷ row) = Value k × Values row

abbrev pub max32 : ℕ
max32 = 0xffff_ffff

abbrev pub max64 : ℕ
max64 = 0xffff_ffff_ffff_ffff

-- the largest offset of an address
abbrev pub max_offset : ℕ
max_offset = max32

-- the operands of an opcode, which commas part
abbrev pub row : Opcode → List Slot
row Mov32 = name ∷ number max32 ∷ []
row Mov64 = name ∷ number max64 ∷ []
row (Alloc shared) = in_brackets ∷ number max32 ∷ []
row Dealloc = name ∷ number max32 ∷ []
row Relinquish = []
row (Load shape num) = names ∷ address ∷ []
row (Store shape num) = address ∷ names ∷ []
row WaitLoad = []
row WaitStore = []
row FenceBefore = []
row FenceAfter = []
row (Multiply ws false kind) = address ∷ operand ∷ name ∷ name ∷ name ∷ []
row (Multiply ws true kind) = address ∷ operand ∷ name ∷ address ∷ name ∷ name ∷ []
row Exit = []

-- ---- the statement
-- where the metadata of a sparse a stands: none of a dense one
abbrev pub Metadata : Type 0
Metadata = Option Address

-- a statement, with the names of its registers
pub record Whole : Type 0 where
  pub statement : Statement
  pub registers : List Name

abbrev pub plain : Statement → Whole
plain t = record { statement = t; registers = [] }

abbrev pub access : Shape → Num → List Name → Address → Access
access shape num regs a = record { shape = shape; num = num; registers = length regs; address = a }

-- the statement that an opcode makes of its operands
abbrev pub make : (o : Opcode) → Values (row o) → Whole
make Mov32 v = plain (s.Mov32 v.0 v.1.0)
make Mov64 v = plain (s.Mov64 v.0 v.1.0)
make (Alloc shared) v = plain (s.Alloc v.0 v.1.0)
make Dealloc v = plain (s.Dealloc v.0 v.1.0)
make Relinquish v = plain s.Relinquish
make (Load shape num) v = record { statement = s.Load (access shape num v.0 v.1.0); registers = v.0 }
make (Store shape num) v = record { statement = s.Store (access shape num v.1.0 v.0); registers = v.1.0 }
make WaitLoad v = plain s.WaitLoad
make WaitStore v = plain s.WaitStore
make FenceBefore v = plain s.FenceBefore
make FenceAfter v = plain s.FenceAfter
make (Multiply ws false kind) v =
    plain (s.Multiply (record { ws = ws; kind = kind; d = v.0; a = v.1.0; b = v.1.1.0; metadata = None; idesc = v.1.1.1.0; predicate = v.1.1.1.1.0 }))
make (Multiply ws true kind) v =
    plain (s.Multiply (record { ws = ws; kind = kind; d = v.0; a = v.1.0; b = v.1.1.0; metadata = Some v.1.1.1.0; idesc = v.1.1.1.1.0; predicate = v.1.1.1.1.1.0 }))
make Exit v = plain s.Exit
