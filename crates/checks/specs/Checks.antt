-- What the checks answer, by the rules themselves, for every state that the ledger and the table of value names hold. Assumes nothing.
use Rattle.std.specs.Prelude.{ℕ, ◌≡◌, Bool, true, Option, Some, None, is_some, eqb}
use Rattle.laws.specs.Rules.{first_broken}
use Rattle.instruction.specs.declared.Opcode.{Opcode}
use Rattle.tokens.specs.declared.Name.{Name}
use Rattle.statement.specs.Forms.{Metadata}
use Rattle.statement.specs.declared.Access.{Access}
use Rattle.statement.specs.declared.Address.{Address}
use Rattle.statement.specs.declared.Mma.{Mma}
use Rattle.statement.specs.declared.Operand.{Operand}
use Rattle.statement.specs.declared.Statement.TheVariants.{Load, Store, Multiply}
use Rattle.statement.specs.Canonical.{sparse}
use Rattle.rules.specs.State.{State, lowest, is_live, columns_of, width_of, number_of}
use Rattle.rules.specs.Reasons.{open_rules, operand_named, metadata_named, shared_reads, operand_reads, mma_ends, operand_ends, metadata_ends}
use Rattle.ledger.specs.declared.Ledger.{Ledger}
use Rattle.ledger.specs.declared.Span.{Span}
use Rattle.ledger.specs.Booking.{found, columns_in}
use Rattle.ledger.specs.Shows.{Live}
use Rattle.bindings.specs.declared.Bindings.{Bindings}
use Rattle.bindings.specs.declared.Value.{Value}
use Rattle.bindings.specs.declared.Value.TheVariants.{B32, B64}
use Rattle.bindings.specs.Shows as bindings
use Rattle.checks.specs.declared.Tested.{Tested}
use Rattle.checks.specs.Tables.{Tables}

-- the reason of a ld and of a st of a warp, whatever is held
abbrev pub AccessJudged : Ledger → ℕ → Access → ℕ → Type 0
AccessJudged ledger w a r =
    (s : State) (held : ℕ) → Live ledger s.live → (r ≡ first_broken (open_rules lowest s held w (Load a))) × (r ≡ first_broken (open_rules lowest s held w (Store a)))

-- the allocation of a name starts at a column
abbrev pub StartsAt : Ledger → Name → ℕ → Type 0
StartsAt ledger n start = (span : Span) × (found ledger n ≡ Some span) × (start ≡ span.start)

-- the tests of reasons 6, 12 and 14
abbrev pub tested : Bool → Bool → Bool → Tested
tested named reads ends = record { named = named; reads = reads; ends = ends }

-- of an address that needs some columns
abbrev pub AddressTested : Ledger → Address → ℕ → Tested → Type 0
AddressTested ledger a needed r = (s : State) → Live ledger s.live → r ≡ tested (is_live a.base s.live) true (mma_ends s a needed)

-- of the name of a shared memory descriptor
abbrev pub DescriptorTested : Bindings → Name → Tested → Type 0
DescriptorTested table n r = (s : State) → bindings.Shows table s.values → r ≡ tested (eqb (width_of n s.values) 64) (shared_reads s n) true

-- of operand a
abbrev pub OperandTested : Ledger → Bindings → Operand → Tested → Type 0
OperandTested ledger table a r = (s : State) → Tables ledger table s → r ≡ tested (operand_named s a) (operand_reads s a) (operand_ends s a)

-- of the metadata
abbrev pub MetadataTested : Ledger → Metadata → Tested → Type 0
MetadataTested ledger e r = (s : State) → Live ledger s.live → r ≡ tested (metadata_named s e) true (metadata_ends s e)

-- the opcode of an mma
abbrev pub opcode_of : Mma → Opcode
opcode_of m = record { kind = m.kind; ws = m.ws; sp = sparse m.metadata }

-- the word of an instruction descriptor: a value of 32 bits has one
abbrev pub word_found : Option Value → Option ℕ
word_found (Some (B32 w)) = Some w
word_found (Some (B64 w)) = None
word_found None = None

-- what was found of the operands of an mma is what a state has of them: the word is the number of idesc, where it has 32 bits
pub record Operands (m : Mma) (d : Option Span) (a b e : Tested) (word : Option ℕ) (s : State) : Type 0 where
  pub live : is_some d ≡ is_live m.d.base s.live
  pub size : columns_in d ≡ columns_of m.d.base s.live
  pub operand : a ≡ tested (operand_named s m.a) (operand_reads s m.a) (operand_ends s m.a)
  pub descriptor : b ≡ tested (eqb (width_of m.b s.values) 64) (shared_reads s m.b) true
  pub metadata : e ≡ tested (metadata_named s m.metadata) true (metadata_ends s m.metadata)
  pub width : is_some word ≡ eqb (width_of m.idesc s.values) 32
  pub number : (w : ℕ) → word ≡ Some w → w ≡ number_of m.idesc s.values

-- the reason of an mma of any warp, whatever is held, by what was found
abbrev pub OperandsJudged : Mma → (d : Option Span) → (a b e : Tested) → (word : Option ℕ) → ℕ → Type 0
OperandsJudged m d a b e word r = (s : State) (held w : ℕ) → Operands m d a b e word s → r ≡ first_broken (open_rules lowest s held w (Multiply m))

-- the reason of an mma of any warp, whatever is held, by the ledger and the table
abbrev pub MmaJudged : Ledger → Bindings → Mma → ℕ → Type 0
MmaJudged ledger table m r = (s : State) (held w : ℕ) → Tables ledger table s → r ≡ first_broken (open_rules lowest s held w (Multiply m))
