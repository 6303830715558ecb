-- `canonical::rewrite` meets its contract: the names in the array are those of the registers, by `found`. Assumes nothing.
use Rattle.std.specs.Prelude.{Ok}
use Rattle.std.proofs.Common.{◌≡◌, length, ap, sym, ◌∙◌, refl}
use Rattle.statement.specs.Reading.{read_of}
use Rattle.writer.specs.Outputs.{written_of, left_by}
use Rattle.canonical.proofs.Names.{mapped, found}
use Rattle.canonical.proofs.rewrite.Goals as goal

pub returns : goal.returns
returns c =
    let a = c.args in
    let t = c.in_ok-t.t in
    let is : read_of a.text.now ≡ Ok t = sym c.read.ensures ∙ mapped c.read.result t c.in_ok-t.ensures.cases in
    let w = c.write.ensures in
    let e = found a.text.now t _ _ is refl c.registers.ensures.stored in
    rw is (record { answer = w.answer ∙ ap (written_of (length a.room.now) t) e; left = w.left ∙ ap (left_by a.room.now t) e })
