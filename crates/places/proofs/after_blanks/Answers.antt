-- `places::after_blanks` meets its contract: what is counted is the run. Assumes nothing.
use Rattle.std.proofs.Common.{◌∙◌, arith}
use Rattle.tokens.specs.Bytes.{blank, after_blanks}
use Rattle.tokens.proofs.Runs.{run_prefix, run_le}
use Rattle.places.proofs.Laws.{rest_from}
use Rattle.places.proofs.after_blanks.Goals as goal

pub slice_bounds-result-count : goal.slice_bounds-result-count
slice_bounds-result-count c = omega (arith, c.blanks_end-end.ensures, run_prefix blank c.args.s.now, run_le blank c.args.s.now)

pub slice_bounds-result-start : goal.slice_bounds-result-start
slice_bounds-result-start c = omega (arith, c.blanks_end-end.ensures, run_prefix blank c.args.s.now, run_le blank c.args.s.now)

pub returns : goal.returns
unfolding after_blanks
returns c = rest_from c.args.s.now _ _ (c.blanks_end-end.ensures ∙ run_prefix blank c.args.s.now)
