-- `lexer::name::shaped` meets its contract: the tests are those of the callees. Assumes nothing.
use Rattle.lexer.proofs.name.shaped.Goals as goal

pub returns : goal.returns
returns c = rw (c.is_letter.ensures, c.is_sigil.ensures)
