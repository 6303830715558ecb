-- `judge::judge_lines` meets its contract: before each line the judge stands where `Standing` says. The measure is what is left of the sheet. Assumes
-- nothing.
use Prim.Native.Nat.{◌-◌}
use lib.ListN.{length}
use Rattle.judge.specs.Standing.{Standing}
use Rattle.judge.proofs.judge_lines.Given as goal

abbrev pub invariant-loop-at : goal.invariant-loop-at
invariant-loop-at l = Standing l.sheet l.initial.given l.given l.books l.p l.at

abbrev pub decreases-loop-at : goal.decreases-loop-at
decreases-loop-at l = length l.sheet - l.at
