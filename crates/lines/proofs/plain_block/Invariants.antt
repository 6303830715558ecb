-- `lines::plain_block` meets its contract: the tests made and those left are together all of them. Assumes nothing.
use Rattle.std.proofs.Common.{◌≡◌, ◌&&◌, drop}
use Rattle.tokens.specs.Bytes.{all}
use Rattle.lines.specs.Sheet.{plain}
use Rattle.lines.proofs.plain_block.Given as goal

-- the tests made and those left are together all
abbrev pub invariant-loop-x : goal.invariant-loop-x
invariant-loop-x l = (l.good && all plain (drop l.x-index l.block)) ≡ all plain l.block
