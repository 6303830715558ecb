-- `reader::operand::in_brackets` meets its contract. The contracts of the bracket, the name and the bracket are the definition. Assumes nothing.
use Rattle.statement.specs.Reading.{in_brackets_c}
use Rattle.reader.proofs.operand.in_brackets.Goals as goal

pub returns : goal.returns
unfolding in_brackets_c
returns c = rw (← c.mark-a.ensures.rest, ← c.name-n.ensures.rest, ← c.mark-next.ensures.rest)
