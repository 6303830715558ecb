-- `lexer::name::starts` meets its contract: both tests are those of the callees. Assumes nothing.
use Rattle.lexer.proofs.name.starts.Goals as goal

pub returns : goal.returns
returns c = rw (c.is_letter.ensures, c.is_sigil.ensures)
