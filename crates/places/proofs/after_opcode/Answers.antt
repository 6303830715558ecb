-- `places::after_opcode` meets its contract: what is counted is the run. Assumes nothing.
use Rattle.std.proofs.Common.{◌∙◌, arith}
use Rattle.tokens.specs.Bytes.{opcode_byte}
use Rattle.tokens.proofs.Runs.{run_prefix, run_le}
use Rattle.places.proofs.Laws.{rest_from}
use Rattle.places.proofs.after_opcode.Goals as goal

pub slice_bounds-result-count : goal.slice_bounds-result-count
slice_bounds-result-count c = omega (arith, c.opcode_end-end.ensures, run_prefix opcode_byte c.args.s.now, run_le opcode_byte c.args.s.now)

pub slice_bounds-result-start : goal.slice_bounds-result-start
slice_bounds-result-start c = omega (arith, c.opcode_end-end.ensures, run_prefix opcode_byte c.args.s.now, run_le opcode_byte c.args.s.now)

pub returns : goal.returns
returns c = rest_from c.args.s.now _ _ (c.opcode_end-end.ensures ∙ run_prefix opcode_byte c.args.s.now)
