-- `opcode::past_part` meets its contract: too short a text does not start with p. Assumes nothing.
use Rattle.std.proofs.Common.{sym}
use Rattle.opcode.proofs.Laws.{without_short}
use Rattle.opcode.proofs.past_part.Goals as goal

pub returns-then-w-p : goal.returns-then-w-p
returns-then-w-p c = sym (without_short c.args.p.now c.args.w.now c.if-w-p.true)
