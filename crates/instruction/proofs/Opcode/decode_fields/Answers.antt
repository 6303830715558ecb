-- `instruction::Opcode::decode_fields` meets its contract: the two tests decide what the word reads as, by `read`. Assumes nothing.
use mathlib.Core.Path.{refl, sym, ◌∙◌}
use mathlib.Core.Bool.{true, false}
use Rattle.instruction.proofs.NumberLaws.{read}
use Rattle.instruction.proofs.Opcode.decode_fields.Goals as goal

pub returns-then-not-fixed_stand : goal.returns-then-not-fixed_stand
returns-then-not-fixed_stand c = read _ _ _ _ _ false _ c.ranges.word.fits c.split-f.ensures (sym c.if-not-fixed_stand.true ∙ c.fixed_stand.ensures) refl

pub returns-then-not-admits : goal.returns-then-not-admits
returns-then-not-admits c =
    read _ _ _ _ _ true false c.ranges.word.fits c.split-f.ensures (sym c.if-not-fixed_stand.false ∙ c.fixed_stand.ensures) (sym c.if-not-admits.true ∙ c.admits.ensures)

pub returns : goal.returns
returns c =
    read _ _ _ _ _ true true c.ranges.word.fits c.split-f.ensures (sym c.if-not-fixed_stand.false ∙ c.fixed_stand.ensures) (sym c.if-not-admits.false ∙ c.admits.ensures)
