-- `lexer::number::has_room` meets its contract: its test by the row's largest number is the test below 2^64. Assumes nothing.
use borrow.Author.Tests.{lt-ltb, le-ltb}
use Rattle.lexer.proofs.Numbers.{room_row}
use Rattle.lexer.proofs.number.has_room.Goals as goal

pub returns-then-v-row : goal.returns-then-v-row
returns-then-v-row c b e h = let a = c.args in rw (lt-ltb _ _ c.if-v-row.true) at (room_row b a.row e a.v a.d h)

pub returns : goal.returns
returns c b e h = let a = c.args in rw (le-ltb _ _ c.if-v-row.false) at (room_row b a.row e a.v a.d h)
