-- `writer::output::number` meets its contract: a number over the limit is not given, and the digits of another are put. Assumes nothing.
use Rattle.tokens.specs.Numbers.{decimal}
use Rattle.std.proofs.Common.{◌∙◌}
use borrow.Author.Tests.{lt-leb}
use Rattle.pieces.proofs.Texts.{added_none}
use Rattle.writer.specs.Outputs.{capacity}
use Rattle.writer.proofs.output.number.Goals as goal

pub returns-then-limit-v : goal.returns-then-limit-v
returns-then-limit-v c = let a = c.args in rw (lt-leb a.v a.limit c.if-limit-v.true) (c.refuse.ensures ∙ added_none capacity (decimal a.v) a.t.now)
