-- `pieces::spread` meets its contract: each turn puts the last byte of what is left before the others, and what is left is short enough for the places before it. Assumes nothing.
use Prim.Native.Nat.{◌<◌, ◌≤◌}
use mathlib.Core.Path.{◌≡◌}
use mathlib.Core.List.{◌++◌}
use lib.ListN.{length, take, drop}
use Rattle.tokens.specs.Names.{low_bytes, strip}
use Rattle.pieces.proofs.DigitLaws.{power, short, q256, r256}
use Rattle.pieces.proofs.spread.Given as goal

-- the bytes of what is left, and those that stand from i on, are those of the number
abbrev pub invariant-loop-w : goal.invariant-loop-w
invariant-loop-w l = (l.i ≤ 8) × (length l.out ≡ 8) × (l.w < power 256 l.i) × (short q256 r256 l.i l.w ++ drop l.i l.out ≡ strip (low_bytes 8 l.v)) × (take l.i l.out ≡ take l.i l.initial.out)

-- the places left
abbrev pub decreases-loop-w : goal.decreases-loop-w
decreases-loop-w l = l.i
