-- `reader::list_of` meets its contract. A ld or st has its list, and any other opcode has no registers, by one law. Assumes nothing.
use Prim.Native.Nat.{ℕ}
use mathlib.Core.Path.{ap}
use Rattle.tokens.specs.Cursors.{seen, Took}
use Rattle.statement.specs.Reading.{operands_c, row_c, more_row_c}
use Rattle.reader.specs.Lists.{list_c}
use Rattle.reader.proofs.Laws.{list_other, none-stored}
use borrow.Enum.Refused.{opened}
use Rattle.reader.proofs.list_of.Goals as goal

pub returns-in-Load : goal.returns-in-Load
unfolding list_c operands_c row_c more_row_c
returns-in-Load c = rw c.in-Load.is (record { count = ap (λ (t : Took ℕ). t.value) c.names.ensures.read; stored = c.names.ensures.stored })

pub returns-in-Store : goal.returns-in-Store
unfolding list_c operands_c row_c more_row_c
returns-in-Store c =
    let m = c.names-in-Store.ensures in
    rw (c.in-Store.is, ← c.address-a.ensures, ← c.mark.ensures.rest) (record { count = ap (λ (t : Took ℕ). t.value) m.read; stored = m.stored })

pub returns-in_default : goal.returns-in_default
returns-in_default c =
    let a = c.args in
    let both = none-stored a.names.now _ (list_other a.o (seen a.s.now a.k) (search opened)) in
    record { count = both.0; stored = both.1 }
