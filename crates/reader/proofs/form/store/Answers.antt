-- `reader::form::store` meets its contract. Each operand's contract, from the first on, and the answer's are the definition's row. Of the list the
-- count and what follows it are used. Assumes nothing.
use Prim.Native.Nat.{ℕ}
use mathlib.Core.Path.{ap}
use Rattle.tokens.specs.Cursors.{Took}
use Rattle.statement.specs.Reading.{operands_c, row_c, more_row_c}
use Rattle.reader.proofs.form.store.Goals as goal

pub returns : goal.returns
unfolding operands_c row_c more_row_c
returns c =
    rw (
      ← c.address-a.ensures,
      ← c.mark-k2.ensures.rest,
      ← ap (λ (t : Took ℕ). t.next) c.names-n.ensures.read,
      ← ap (λ (t : Took ℕ). t.value) c.names-n.ensures.read,
      ← c.end-e.ensures.rest,
    )
    c.answer.ensures
