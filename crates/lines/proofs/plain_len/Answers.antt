-- `lines::plain_len` meets its contract: the run goes on after the blocks, and ends in what is left. Assumes nothing.
use Rattle.std.proofs.Common.{arith}
use Rattle.tokens.proofs.Runs.{run_prefix, run_le}
use Rattle.lines.specs.Sheet.{plain}
use Rattle.lines.proofs.plain_len.Goals as goal

pub overflow_add-result : goal.overflow_add-result
overflow_add-result c =
    omega (arith, c.past_blocks-rest.ensures, c.plain_count.ensures, run_prefix plain c.past_blocks-rest.result.now, run_le plain c.args.s.now)

pub returns : goal.returns
returns c =
    omega (arith, c.past_blocks-rest.ensures, c.plain_count.ensures, run_prefix plain c.past_blocks-rest.result.now)
