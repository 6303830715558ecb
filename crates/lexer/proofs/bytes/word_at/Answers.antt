-- `lexer::bytes::word_at` meets its contract: past the end stands 0, which is no word byte. Assumes nothing.
use Rattle.std.proofs.Common.{◌≤◌, length, arith}
use lib.ListN.{get_or-eq_default}
use Rattle.lexer.proofs.Laws.{word_0}
use Rattle.lexer.proofs.bytes.word_at.Goals as goal

pub returns-in-None : goal.returns-in-None
returns-in-None c =
    let h : length c.args.s.now ≤ c.args.at = omega (arith, c.in-None.ensures.lookup) in
    rw (get_or-eq_default c.args.s.now 0 h, word_0)
