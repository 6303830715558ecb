-- `lines::size_fault` meets its contract: with at most 65,536 bytes it is the lines alone that count. Assumes nothing.
use mathlib.Core.Path.{ap}
use lib.Dec.{ltb}
use borrow.Author.Tests.{lt-ltb, le-ltb}
use Rattle.lines.specs.Sheet.{oversize}
use Rattle.lines.proofs.size_fault.Goals as goal

pub returns-then-sheet-gt-BYTES : goal.returns-then-sheet-gt-BYTES
unfolding oversize
returns-then-sheet-gt-BYTES c = rw (lt-ltb _ _ c.if-sheet-gt-BYTES.true)

pub returns : goal.returns
unfolding oversize
returns c = rw (le-ltb _ _ c.if-sheet-gt-BYTES.false) (ap (ltb 4096) c.count_lines.ensures)
