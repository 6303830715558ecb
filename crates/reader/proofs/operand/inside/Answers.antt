-- `reader::operand::inside` meets its contract. The contracts of the name, the offset and the bracket are the definition; an offset with the bracket behind it is a number alone.
-- Assumes nothing.
use Rattle.tokens.specs.Cursors.{seen}
use Rattle.statement.specs.Reading.{inside_c}
use Rattle.reader.proofs.Laws.{offset_ended}
use Rattle.reader.proofs.operand.inside.Goals as goal

pub returns-then-done : goal.returns-then-done
unfolding inside_c
returns-then-done c =
    let s = c.args.s.now in
    rw (← c.name-n.ensures.rest, ← offset_ended (seen s c.name-n.result.next) _ _ c.plain_offset-p.ensures c.mark-done.ensures.rest c.if-done.true, ← c.mark-done.ensures.rest)

pub returns : goal.returns
unfolding inside_c
returns c = rw (← c.name-n.ensures.rest, ← c.offset-v.ensures, ← c.mark-next.ensures.rest)
