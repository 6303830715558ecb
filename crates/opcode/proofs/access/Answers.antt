-- `opcode::access` meets its contract: each word is taken off what the one before it left. Assumes nothing.
use Rattle.opcode.proofs.Laws.{without_some, without_none}
use Rattle.opcode.proofs.access.Goals as goal

pub returns-in_err-w : goal.returns-in_err-w
returns-in_err-w c = rw (c.from_residual.ensures, without_none _ _ _ c.in_err-w.ensures)

pub returns-in_err-w-2 : goal.returns-in_err-w-2
returns-in_err-w-2 c = rw (c.from_residual-in_err-w-2.ensures, ← c.shape.ensures, without_some _ _ _ _ c.in_ok-w.ensures, without_none _ _ _ c.in_err-w-2.ensures)

pub returns-in_err-w-3 : goal.returns-in_err-w-3
returns-in_err-w-3 c = rw (c.from_residual-in_err-w-3.ensures, ← c.shape.ensures, ← c.num.ensures, without_some _ _ _ _ c.in_ok-w.ensures, without_some _ _ _ _ c.in_ok-w-2.ensures, without_none _ _ _ c.in_err-w-3.ensures)

pub returns : goal.returns
returns c = rw (← c.shape.ensures, ← c.num.ensures, without_some _ _ _ _ c.in_ok-w.ensures, without_some _ _ _ _ c.in_ok-w-2.ensures, without_some _ _ _ _ c.in_ok-w-3.ensures, c.past_part-4.ensures)
