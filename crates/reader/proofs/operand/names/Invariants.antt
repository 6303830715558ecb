-- `reader::operand::names` meets its contract. The loop's invariant: the names read and stored so far, with those that are left from here, are those
-- from the start. Assumes nothing.
use Prim.Native.Nat.{◌-◌}
use mathlib.Core.Path.{◌≡◌}
use Rattle.tokens.specs.Cursors.{seen}
use Rattle.statement.specs.Reading.{more_c}
use Rattle.reader.proofs.Laws.{stored}
use Rattle.reader.proofs.operand.names.Given as goal

abbrev pub invariant-loop-count : goal.invariant-loop-count
invariant-loop-count g l = stored l.names l.count (more_c (128 - l.count) (seen l.s l.at)) ≡ stored l.initial.names 1 (more_c 127 (seen l.s l.initial.at))
