-- What the reason of a refused statement points at, for every state that the ledger and the table of value names hold. Assumes nothing.
use Rattle.std.specs.Prelude.{ℕ, ◌≡◌, cond, List, [], ◌∷◌, Option, Some, None, eqb}
use Rattle.laws.specs.Rules.{first_broken}
use Rattle.statement.specs.declared.Mma.{Mma}
use Rattle.statement.specs.declared.Position.{Position}
use Rattle.statement.specs.declared.Position.TheVariants.{Start, Opcode, Name, Operand}
use Rattle.statement.specs.declared.Statement.{Statement}
use Rattle.statement.specs.declared.Statement.TheVariants.{Multiply}
use Rattle.rules.specs.State.{State, lowest}
use Rattle.rules.specs.Rows.{Test, test, first_position}
use Rattle.rules.specs.Reasons.{open_rows, open_rules, rows, rules}
use Rattle.statement.specs.Canonical.{sparse}
use Rattle.instruction.specs.Instruction as instruction
use Rattle.ledger.specs.declared.Ledger.{Ledger}
use Rattle.bindings.specs.declared.Bindings.{Bindings}
use Rattle.checks.specs.declared.Tested.{Tested}
use Rattle.checks.specs.Tables.{Tables}

-- what the reason of an alloc, dealloc or relinquish points at: its name, the warp, its number, else its opcode
abbrev pub booking_at : ℕ → Position
booking_at reason = cond (eqb reason 6) (Name 0) (cond (eqb reason 8) Start (cond (eqb reason 9) (Operand 1) Opcode))

-- of a ld or st whose address is that operand: the name, else the address
abbrev pub access_at : ℕ → ℕ → Position
access_at reason operand = cond (eqb reason 6) (Name operand) (Operand operand)

-- the operand of the first test that is broken, or another: the last one that is tested, where it is known that one is broken
abbrev pub first_or : List Test → ℕ → ℕ
first_or [] last = last
first_or (test i b ∷ l) last = cond b (first_or l last) i

-- of an mma, by the tests of d, a, b and the metadata: 6, 12 and 14 at the first that is broken, the listing at idesc
abbrev pub mma_pointed : (reason idesc : ℕ) → (d a b e : Tested) → Position
mma_pointed reason idesc d a b e =
    cond (eqb reason 6) (Name (first_or (test 0 d.named ∷ test 1 a.named ∷ test 2 b.named ∷ test 3 e.named ∷ []) idesc))
    (cond (eqb reason 12) (Name (first_or (test 1 a.reads ∷ test 2 b.reads ∷ []) idesc))
    (cond (eqb reason 14) (Operand (first_or (test 0 d.ends ∷ test 1 a.ends ∷ []) 3)) (Name idesc)))

-- N of an instruction descriptor, 0 where there is no word of one
abbrev pub n_of : Mma → Option ℕ → ℕ
n_of m (Some word) = (instruction.judged m.kind m.ws (sparse m.metadata) word).n
n_of m None = 0

-- the position of an mma that is refused before exit, whatever is held, of any warp
abbrev pub MmaBlamed : Ledger → Bindings → Mma → ℕ → Position → Type 0
MmaBlamed ledger table m reason r =
    (s : State) (held w : ℕ) → Tables ledger table s
    → reason ≡ first_broken (open_rules lowest s held w (Multiply m)) → r ≡ first_position (open_rows lowest s held w (Multiply m))

-- of any statement that is refused
abbrev pub Blamed : Ledger → Bindings → Statement → ℕ → Position → Type 0
Blamed ledger table t reason r =
    (s : State) (held w : ℕ) → Tables ledger table s → reason ≡ first_broken (rules lowest s held w t) → r ≡ first_position (rows lowest s held w t)
