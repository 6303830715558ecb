-- `writer::operand::listed` meets its contract: what is left of the names after each turn, added to what is written, is what was left after the first. Assumes nothing.
use Rattle.std.proofs.Common.{◌≡◌, drop}
use Rattle.statement.specs.Canonical.{more_names_text, all_names}
use Rattle.writer.specs.Outputs.{add_c}
use Rattle.writer.proofs.operand.listed.Given as goal

-- what is left, added to what is written, is all of them, added to what was written
abbrev pub invariant-loop-n : goal.invariant-loop-n
invariant-loop-n l = add_c (more_names_text (drop l.n-index l.rest)) (all_names (drop l.n-index l.rest)) l.t ≡ add_c (more_names_text l.rest) (all_names l.rest) l.initial.t
