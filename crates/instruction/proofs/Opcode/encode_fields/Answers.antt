-- `instruction::Opcode::encode_fields` meets its contract: numbers that have a word are in range. Assumes nothing.
use mathlib.Core.Path.{sym, ◌∙◌}
use Rattle.laws.proofs.BoolLaws.{and_l}
use Rattle.laws.proofs.LayoutLaws.{within}
use Rattle.instruction.specs.Instruction.{layout, values}
use Rattle.instruction.proofs.Opcode.encode_fields.Goals as goal

pub join-requires : goal.join-requires
join-requires c = within layout (values c.args.f) (and_l _ _ (sym c.has_word.ensures ∙ c.if-not-has_word.false))
