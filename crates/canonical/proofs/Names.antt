-- The names that reading leaves in an array are those of the registers: their count is the statement's, and at most 128, since what reads can be
-- written. Assumes nothing.
use Rattle.std.specs.Prelude.{Result, Ok, Err}
use Rattle.std.specs.Result.{MatchResult}
use Rattle.reasons.specs.declared.Reason.{Reason}
use Prim.Native.Nat.{ℕ, ◌+◌, ◌≤◌}
use mathlib.Core.Path.{◌≡◌, refl, ap, ap₂, ◌∙◌}
use mathlib.Core.List.{List}
use mathlib.Core.Bool.{true}
use native.Mathlib.Nat.{zero-add, le_refl}
use native.Mathlib.Omega.{arith}
use lib.ListN.{length, take, drop}
use lib.Seq.{sets, sets-eq, take-append-le, take_all}
use lib.Dec.{eqb}
use borrow.Author.Tests.{eqb-true}
use Rattle.laws.proofs.BoolLaws.{and_l, and_r}
use Rattle.tokens.specs.declared.Name.{Name}
use Rattle.statement.specs.declared.Access.{Access}
use Rattle.statement.specs.declared.Statement.{Statement}
use Rattle.statement.specs.declared.Statement.TheVariants as s
use Rattle.statement.specs.Canonical.{count_of, given, row_given, slot_given, address_given}
use Rattle.statement.specs.Forms.{names}
use Rattle.statement.proofs.Bound.{names_few}
use Rattle.statement.proofs.Each.{each-statement}
use Rattle.statement.specs.Reading.{Reading, read_of, registers_of}
use Rattle.grammar.proofs.Trip.{writable}

-- the first places of a list that was written over
front : (zs w : List Name) → length w ≤ length zs → take (length w) (sets zs 0 w) ≡ w
front zs w h = ap (take (length w)) (sets-eq w zs 0 (rw (zero-add (length w)) h)) ∙ take-append-le (length w) w (drop (0 + length w) zs) (le_refl (length w)) ∙ take_all (length w) w (le_refl (length w))

-- the names of a statement that can be written are as many as it says
count-is : (t : Statement) (regs : List Name) → given t regs ≡ true → count_of t ≡ length regs
unfolding given
count-is t regs h = eqb-true (count_of t) (length regs) (and_l (eqb (count_of t) (length regs)) _ h)

-- the names that it is given are at most 128: none but for a ld or st
unfoldable Few : Statement → Type 0
Few t = (regs : List Name) → given t regs ≡ true → length regs ≤ 128

none_few : (t : Statement) → count_of t ≡ 0 → Few t
unfolding Few
none_few t e regs h = omega (arith, e, count-is t regs h)

load_few : (a : Access) → Few (s.Load a)
unfolding Few given row_given
load_few a regs h = names_few regs (and_l (slot_given names regs) _ (and_r (eqb a.registers (length regs)) _ h))

store_few : (a : Access) → Few (s.Store a)
unfolding Few given row_given
store_few a regs h = names_few regs (and_l (slot_given names regs) _ (and_r (address_given a.address) _ (and_r (eqb a.registers (length regs)) _ h)))

all_few : (t : Statement) → Few t
all_few t = each-statement Few t (search (load_few, store_few, none_few))

most : (t : Statement) (regs : List Name) → given t regs ≡ true → length regs ≤ 128
unfolding Few
most t = all_few t

-- what reads can be written
can : (text : List ℕ) (t : Statement) → read_of text ≡ Ok t → given t (registers_of text) ≡ true
can text t e = (writable t (registers_of text)).exactly.1 (text, (e, refl))

-- what is Ok once its error is changed was Ok
pub mapped : (r : Reading) (t : Statement) → MatchResult r (λ x. ◌≡◌ {A = Result Statement Reason} (Ok t) (Ok x)) (λ e. ⊥) → r ≡ Ok t
mapped (Ok x) t e = cc
mapped (Err m) t e = absurd e

-- the names found in an array that they were written to, as many as the statement says
pub found : (text : List ℕ) (t : Statement) (x xs : List Name) → read_of text ≡ Ok t → length x ≡ 128 → xs ≡ sets x 0 (registers_of text) → take (count_of t) xs ≡ registers_of text
found text t x xs e p s =
    let ns = registers_of text in
    let g : given t ns ≡ true = can text t e in
    let c : count_of t ≡ length ns = count-is t ns g in
    let m : length ns ≤ 128 = most t ns g in
    ap₂ take c s ∙ front x ns (rw p m)
