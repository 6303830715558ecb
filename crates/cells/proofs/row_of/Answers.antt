-- `cells::row_of` meets its contract. In each arm the shape is known, and the arm's row is the table's. Assumes nothing.
use Rattle.cells.proofs.row_of.Goals as goal

pub returns-in-S32x32 : goal.returns-in-S32x32
returns-in-S32x32 c = rw c.in-S32x32.is

pub returns-in-S16x64 : goal.returns-in-S16x64
returns-in-S16x64 c = rw c.in-S16x64.is

pub returns-in-S16x128 : goal.returns-in-S16x128
returns-in-S16x128 c = rw c.in-S16x128.is

pub returns-in-S16x256 : goal.returns-in-S16x256
returns-in-S16x256 c = rw c.in-S16x256.is
