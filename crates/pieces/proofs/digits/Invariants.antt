-- `pieces::digits` meets its contract: each turn puts the last digit of what is left before the others, and what is left is short enough for the
-- places before it. Assumes nothing.
use Prim.Native.Nat.{◌<◌, ◌≤◌}
use mathlib.Core.Path.{◌≡◌}
use mathlib.Core.List.{◌++◌}
use lib.ListN.{length, take, drop}
use Rattle.tokens.specs.Numbers.{decimal}
use Rattle.pieces.proofs.DigitLaws.{power, short, q10, r10}
use Rattle.pieces.proofs.digits.Given as goal

-- the digits of what is left, and those that stand from i on, are the decimal
abbrev pub invariant-loop-w : goal.invariant-loop-w
invariant-loop-w l = (l.i ≤ 19) × (length l.out ≡ 20) × (l.w < power 10 l.i) × (short q10 r10 l.i l.w ++ drop l.i l.out ≡ decimal l.v) × (take l.i l.out ≡ take l.i l.initial.out)

-- the places left
abbrev pub decreases-loop-w : goal.decreases-loop-w
decreases-loop-w l = l.i
