-- `lines::count_lines` meets its contract: a line begins after each LF but a last one, and at the start. Assumes nothing.
use mathlib.Core.Path.{sym}
use native.Mathlib.Omega.{arith}
use Rattle.lines.proofs.LineLaws.{count-ended, count_open, count_none}
use Rattle.lines.proofs.count_lines.Goals as goal

pub returns-then-s-eq0 : goal.returns-then-s-eq0
returns-then-s-eq0 c = sym (count_none _ c.if-s-eq0.true)

pub returns-then-s-eq10 : goal.returns-then-s-eq10
returns-then-s-eq10 c = count-ended _ _ c.count_lfs-n.ensures.0 c.if-s-eq0.false c.if-s-eq10.true

pub overflow_add-result : goal.overflow_add-result
overflow_add-result c = omega (arith, c.count_lfs-n.ensures.1)

pub returns : goal.returns
returns c = count_open _ _ c.count_lfs-n.ensures.0 c.if-s-eq0.false c.if-s-eq10.false
