-- `writer::compose` meets its contract: each statement is added by the function of its form. Assumes nothing.
use Rattle.std.proofs.Common.{append_assoc, [], ◌∷◌}
use Rattle.tokens.specs.Text.{byte}
use Rattle.tokens.specs.Names.{name_bytes}
use Rattle.statement.specs.Forms.{word}
use Rattle.statement.specs.Canonical.{row_text, more_row_text, row_given, text_of, given}
use Rattle.writer.proofs.compose.Goals as goal

pub returns-in-Mov32 : goal.returns-in-Mov32
unfolding word row_text more_row_text row_given text_of given
returns-in-Mov32 c = rw (c.in-Mov32.is, c.name_number.ensures, c.from.ensures)

pub returns-in-Mov64 : goal.returns-in-Mov64
unfolding word row_text more_row_text row_given text_of given
returns-in-Mov64 c = rw c.in-Mov64.is c.name_number-in-Mov64.ensures

pub returns-in-Alloc : goal.returns-in-Alloc
unfolding word row_text more_row_text row_given text_of given
returns-in-Alloc c = rw (c.in-Alloc.is, append_assoc (name_bytes c.in-Alloc.n) (byte "]" ∷ []), c.name_number-in-Alloc.ensures, c.from-in-Alloc.ensures)

pub returns-in-Dealloc : goal.returns-in-Dealloc
unfolding word row_text more_row_text row_given text_of given
returns-in-Dealloc c = rw (c.in-Dealloc.is, c.name_number-in-Dealloc.ensures, c.from-in-Dealloc.ensures)

pub returns-in-Relinquish : goal.returns-in-Relinquish
unfolding word row_text row_given text_of given
returns-in-Relinquish c = rw c.in-Relinquish.is c.put.ensures

pub returns-in-Load : goal.returns-in-Load
unfolding text_of given
returns-in-Load c = rw c.in-Load.is c.load.ensures

pub returns-in-Store : goal.returns-in-Store
unfolding text_of given
returns-in-Store c = rw c.in-Store.is c.store.ensures

pub returns-in-WaitLoad : goal.returns-in-WaitLoad
unfolding word row_text row_given text_of given
returns-in-WaitLoad c = rw c.in-WaitLoad.is c.put-in-WaitLoad.ensures

pub returns-in-WaitStore : goal.returns-in-WaitStore
unfolding word row_text row_given text_of given
returns-in-WaitStore c = rw c.in-WaitStore.is c.put-in-WaitStore.ensures

pub returns-in-FenceBefore : goal.returns-in-FenceBefore
unfolding word row_text row_given text_of given
returns-in-FenceBefore c = rw c.in-FenceBefore.is c.put-in-FenceBefore.ensures

pub returns-in-FenceAfter : goal.returns-in-FenceAfter
unfolding word row_text row_given text_of given
returns-in-FenceAfter c = rw c.in-FenceAfter.is c.put-in-FenceAfter.ensures

pub returns-in-Multiply : goal.returns-in-Multiply
unfolding text_of given
returns-in-Multiply c = rw c.in-Multiply.is c.multiply.ensures

pub returns-in-Exit : goal.returns-in-Exit
unfolding word row_text row_given text_of given
returns-in-Exit c = rw c.in-Exit.is c.put-in-Exit.ensures
