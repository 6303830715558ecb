-- `writer::output::halves` meets its contract: a first half with a byte is tested by its first byte, the length and the other bytes. Assumes nothing.
use Rattle.writer.proofs.Halves.{halves_none, halves_some}
use Rattle.writer.proofs.output.halves.Goals as goal

pub returns-in_default : goal.returns-in_default
returns-in_default c = halves_none c.args.h.now c.args.l.now c.in_default.len_below

pub returns : goal.returns
returns c =
    halves_some c.args.h.now c.args.l.now c.shaped-shaped.result c.all_words.result c.all_words-2.result c.in-len1-up.len_at_least c.shaped-shaped.ensures c.all_words.ensures c.all_words-2.ensures
