-- `reader::read` meets its contract. One law for each way out: no opcode, and the operands' answer. Assumes nothing.
use mathlib.Core.Path.{◌∙◌}
use Rattle.reader.proofs.Laws.{read_none, read_told, whole_is, whole-none}
use Rattle.reader.proofs.read.Goals as goal

pub returns-in_default : goal.returns-in_default
returns-in_default c = read_none c.args.s.now (whole-none c.args.s.now c.in_default.ensures)

pub returns : goal.returns
returns c = c.operands.ensures ∙ read_told c.args.s.now _ (whole_is c.args.s.now c.in-Some.head c.in-Some.ensures)
