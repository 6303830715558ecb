-- `opcode::alloc` meets its contract: each word is taken off what the one before it left. Assumes nothing.
use Rattle.statement.specs.Forms.{word}
use Rattle.opcode.proofs.Laws.{without_some, without_none}
use Rattle.opcode.proofs.alloc.Goals as goal

pub returns-in_err-w : goal.returns-in_err-w
unfolding word
returns-in_err-w c = rw (c.from_residual.ensures, without_none _ _ _ c.in_err-w.ensures)

pub returns-in_err-w-2 : goal.returns-in_err-w-2
unfolding word
returns-in_err-w-2 c = rw (c.from_residual-in_err-w-2.ensures, ← c.option.ensures, without_some _ _ _ _ c.in_ok-w.ensures, without_none _ _ _ c.in_err-w-2.ensures)

pub returns : goal.returns
unfolding word
returns c = rw (← c.option.ensures, without_some _ _ _ _ c.in_ok-w.ensures, without_some _ _ _ _ c.in_ok-w-2.ensures, c.past_part-3.ensures)
