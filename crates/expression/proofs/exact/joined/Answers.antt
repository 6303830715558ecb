-- `expression::exact::joined` meets its contract, operator by operator. Assumes nothing.
use Rattle.expression.proofs.exact.joined.Goals as goal

pub returns-in-Plus : goal.returns-in-Plus
returns-in-Plus c = rw c.in-Plus.is c.added.ensures

pub returns-in-Minus : goal.returns-in-Minus
returns-in-Minus c = rw (c.in-Minus.is, ← c.turned.ensures) c.added-in-Minus.ensures

pub returns-in-Times : goal.returns-in-Times
returns-in-Times c = rw c.in-Times.is c.multiplied.ensures
