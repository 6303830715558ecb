-- `lexer::cursor::end` meets its contract: it is the mark's cursor, and nothing is left where the position is not below the length. Assumes nothing.
use Rattle.tokens.specs.Cursors.{end_c}
use Rattle.lexer.proofs.Laws.{end_law}
use Rattle.lexer.proofs.cursor.end.Goals as goal

pub returns-clause-rest : goal.returns-clause-rest
unfolding end_c
returns-clause-rest c = let m = c.mark-d in rw (c.moved.ensures, ← m.ensures.rest, end_law c.args.s.now m.result.at)
