-- The rules of a line in their order, each with its number, what its column points at, and its tests. A test is true where the rule is kept, and says of
-- which operand it is.
-- Assumes nothing.
use Rattle.std.specs.Prelude.{ℕ, ◌+◌, ◌*◌, ◌/◌, ◌%◌, Bool, true, not, ◌&&◌, ◌||◌, cond, List, [], ◌∷◌, leb, ltb, eqb, length, Some, None}
use Rattle.std.proofs.Math.Option.{Option, none, some}
use Rattle.laws.specs.Tests.{is_some}
use Rattle.laws.specs.Rules.{Rule}
use Rattle.tokens.specs.declared.Name.{Name}
use Rattle.instruction.specs.declared.Fields.{Fields}
use Rattle.instruction.specs.Descriptor.{InstructionRead}
use Rattle.instruction.specs.Instruction as instruction
use Rattle.shared_memory.specs.Shared as shared
use Rattle.request.specs.Request.{legal}
use Rattle.statement.specs.Forms.{Metadata}
use Rattle.statement.specs.declared.Address.{Address}
use Rattle.statement.specs.declared.Operand.{Operand}
use Rattle.statement.specs.declared.Operand.TheVariants as operand
use Rattle.statement.specs.declared.Mma.{Mma}
use Rattle.statement.specs.declared.Access.{Access}
use Rattle.statement.specs.declared.Statement.{Statement}
use Rattle.statement.specs.Canonical.{sparse}
use Rattle.statement.specs.Cells as cells
use Rattle.statement.specs.Views.{request_of, release_of, access_of, mma_of, bound_by, is_exit, is_booking, for, when}
use Rattle.statement.specs.Positions.{address_at, idesc_at}
use Rattle.rules.specs.State.{State, Placer, is_live, columns_of, is_bound, width_of, number_of, is_busy}
use Rattle.rules.specs.Rows.{at_start, at_opcode, at_name, at_operand, Test, test, one, whole, broken, asked, Row, row, rules_of}

-- ---- addresses
-- the offset from a lane to the next
abbrev pub per_lane : ℕ
per_lane = 65536

-- an offset's lane is its quotient, its column the remainder
abbrev pub lane_of : Address → ℕ
lane_of a = a.offset / per_lane

abbrev pub column_of : Address → ℕ
column_of a = a.offset % per_lane

-- ---- reason 5: N is over the shape's largest, or the count of registers differs: `counted` of the table of cells, asked of single statements too

-- ---- reason 6: a name is unbound, of the wrong sort or width, or taken
-- a as a descriptor's name is a 64-bit value, as an address it names a live allocation
abbrev pub operand_named : State → Operand → Bool
operand_named s (operand.Descriptor n) = eqb (width_of n s.values) 64
operand_named s (operand.Address a) = is_live a.base s.live

abbrev pub metadata_named : State → Metadata → Bool
metadata_named s None = true
metadata_named s (Some a) = is_live a.base s.live

-- d, a, b, the metadata and idesc, in the order of the text
abbrev pub mma_named : State → Mma → List Test
mma_named s m =
    test 0 (is_live m.d.base s.live)
    ∷ test 1 (operand_named s m.a)
    ∷ test 2 (eqb (width_of m.b s.values) 64)
    ∷ test 3 (metadata_named s m.metadata)
    ∷ test (idesc_at m) (eqb (width_of m.idesc s.values) 32)
    ∷ []

unfoldable pub named : State → Statement → List Test
named s t = asked
    (for (bound_by t) (λ n. one 0 (not (is_live n s.live)))
    ∷ for (request_of t) (λ r. one 0 (not (is_live r.name s.live) && not (is_bound r.name s.values)))
    ∷ for (release_of t) (λ r. one 0 (is_live r.name s.live))
    ∷ for (access_of t) (λ a. one (address_at t) (is_live a.address.base s.live))
    ∷ for (mma_of t) (mma_named s)
    ∷ [])

-- ---- reason 7: a 129th value name
abbrev pub room_for : State → Name → Bool
room_for s n = is_bound n s.values || ltb (length s.values) 128

unfoldable pub roomed : State → Statement → List Test
roomed s t = asked (for (bound_by t) (λ n. one 0 (room_for s n)) ∷ [])

-- ---- reason 8: the lane of a ld or st is not the warp's, or the wrong warp
-- lane 32w; for the shapes of 16 lanes 32w or 32w + 16
unfoldable pub lane_of_warp : ℕ → Access → Bool
lane_of_warp w a = eqb (lane_of a.address) (32 * w) || (eqb (cells.lanes_for a.shape) 16 && eqb (lane_of a.address) (32 * w + 16))

unfoldable pub laned : ℕ → Statement → List Test
laned w t = asked (for (access_of t) (λ a. one (address_at t) (lane_of_warp w a)) ∷ [])

-- no warp is fixed, or this one is
abbrev pub is_warp : Option ℕ → ℕ → Bool
is_warp none w = true
is_warp (some v) w = eqb v w

unfoldable pub warped : State → ℕ → Statement → List Test
warped s w t = asked (when (is_booking t) (whole (is_warp s.warp w)) ∷ [])

-- ---- reason 9: the request is illegal, or the size of a dealloc differs
unfoldable pub sized : State → Statement → List Test
sized s t = asked (for (request_of t) (λ r. one 1 (legal r.columns)) ∷ for (release_of t) (λ r. one 1 (eqb (columns_of r.name s.live) r.columns)) ∷ [])

-- ---- reason 10: alloc after relinquish
unfoldable pub permitted : State → Statement → List Test
permitted s t = asked (for (request_of t) (λ r. whole (not s.relinquished)) ∷ [])

-- ---- reason 11: no free run of that length starts at a multiple of 32 (the placing gives no start)
unfoldable pub placed : Placer → State → Statement → List Test
placed place s t = asked (for (request_of t) (λ r. whole (is_some (place s.live r.columns))) ∷ [])

-- ---- reason 12: a descriptor has no reading under the opcode
-- a shared memory descriptor, the number under a name
abbrev pub shared_reads : State → Name → Bool
shared_reads s n = eqb (shared.decoded (number_of n s.values)).reason 0

abbrev pub operand_reads : State → Operand → Bool
operand_reads s (operand.Descriptor n) = shared_reads s n
operand_reads s (operand.Address a) = true

-- the instruction descriptor, the number under idesc
unfoldable pub instruction_of : State → Mma → InstructionRead
instruction_of s m = instruction.decoded m.kind m.ws (sparse m.metadata) (number_of m.idesc s.values)

-- a as a name, b and idesc
abbrev pub mma_reads : State → Mma → List Test
mma_reads s m = test 1 (operand_reads s m.a) ∷ test 2 (shared_reads s m.b) ∷ test (idesc_at m) (eqb (instruction_of s m).reason 0) ∷ []

unfoldable pub reads : State → Statement → List Test
reads s t = asked (for (mma_of t) (mma_reads s) ∷ [])

-- ---- reasons 13, 20 and 21: M, N, and then the types, are not listed
-- the numbers of the instruction descriptor
abbrev pub fields_of : State → Mma → Fields
fields_of s m = instruction.fields (instruction_of s m).descriptor

unfoldable pub m_listed : State → Statement → List Test
m_listed s t = asked (for (mma_of t) (λ m. one (idesc_at m) (instruction.m_listed m.ws (fields_of s m).m)) ∷ [])

unfoldable pub n_listed : State → Statement → List Test
n_listed s t = asked (for (mma_of t) (λ m. one (idesc_at m) (instruction.n_listed m.kind m.ws (sparse m.metadata) (fields_of s m).n)) ∷ [])

unfoldable pub types_listed : State → Statement → List Test
types_listed s t = asked (for (mma_of t) (λ m. one (idesc_at m) (instruction.types_listed m.kind (fields_of s m).dtype (fields_of s m).atype (fields_of s m).btype)) ∷ [])

-- ---- reason 14: the lane of an mma is not 0, or columns go past the end of the allocation
-- that many columns from an address on are in its allocation
abbrev pub ends : State → Address → ℕ → Bool
ends s a columns = leb (column_of a + columns) (columns_of a.base s.live)

-- lane 0, and the columns
abbrev pub mma_ends : State → Address → ℕ → Bool
mma_ends s a columns = eqb (lane_of a) 0 && ends s a columns

abbrev pub operand_ends : State → Operand → Bool
operand_ends s (operand.Descriptor n) = true
operand_ends s (operand.Address a) = mma_ends s a 8

abbrev pub metadata_ends : State → Metadata → Bool
metadata_ends s None = true
metadata_ends s (Some a) = mma_ends s a 2

-- d has N columns, a 8, the metadata 2
abbrev pub all_end : State → Mma → List Test
all_end s m = test 0 (mma_ends s m.d (instruction_of s m).descriptor.n) ∷ test 1 (operand_ends s m.a) ∷ test 3 (metadata_ends s m.metadata) ∷ []

unfoldable pub inside : State → Statement → List Test
inside s t = asked (for (access_of t) (λ a. one (address_at t) (ends s a.address (cells.columns_for a.shape a.num))) ∷ for (mma_of t) (all_end s) ∷ [])

-- ---- reason 15: exit with columns held: those asked for less those given back (that they are the live allocations' is `figures_exact`)
unfoldable pub cleared : ℕ → Statement → Bool
cleared held t = not (is_exit t) || eqb held 0

-- ---- reason 18: dealloc while a load or store of any warp is outstanding on the allocation
unfoldable pub waited : State → Statement → List Test
waited s t = asked (for (release_of t) (λ r. whole (not (is_busy r.name s.outstanding))) ∷ [])

-- ---- the rules of a line that reads, each with what its column points at
-- before exit, with the columns held before the line
unfoldable pub open_rows : Placer → State → (held : ℕ) → (w : ℕ) → Statement → List Row
open_rows place s held w t =
    row 5 at_opcode (whole (cells.counted t))
    ∷ row 6 at_name (named s t)
    ∷ row 7 at_name (roomed s t)
    ∷ row 8 at_operand (laned w t)
    ∷ row 8 at_start (warped s w t)
    ∷ row 9 at_operand (sized s t)
    ∷ row 10 at_opcode (permitted s t)
    ∷ row 11 at_opcode (placed place s t)
    ∷ row 12 at_name (reads s t)
    ∷ row 13 at_name (m_listed s t)
    ∷ row 20 at_name (n_listed s t)
    ∷ row 21 at_name (types_listed s t)
    ∷ row 14 at_operand (inside s t)
    ∷ row 15 at_start (whole (cleared held t))
    ∷ row 18 at_opcode (waited s t)
    ∷ []

-- after exit: reason 5, and then 15 for any line
unfoldable pub closed_rows : Statement → List Row
closed_rows t = row 5 at_opcode (whole (cells.counted t)) ∷ row 15 at_start broken ∷ []

unfoldable pub rows : Placer → State → (held : ℕ) → (w : ℕ) → Statement → List Row
rows place s held w t = cond s.exited (closed_rows t) (open_rows place s held w t)

-- the same as rules alone
unfoldable pub open_rules : Placer → State → (held : ℕ) → (w : ℕ) → Statement → List Rule
open_rules place s held w t = rules_of (open_rows place s held w t)

unfoldable pub closed_rules : Statement → List Rule
closed_rules t = rules_of (closed_rows t)

unfoldable pub rules : Placer → State → (held : ℕ) → (w : ℕ) → Statement → List Rule
rules place s held w t = rules_of (rows place s held w t)
