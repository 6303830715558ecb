-- `expression::cursor_at` meets its contract: nothing is left from the end of the text on. Assumes nothing.
use lib.Seq.{drop-length}
use Rattle.expression.proofs.cursor_at.Goals as goal

pub returns : goal.returns
returns c = rw (drop-length c.args.s.now)
