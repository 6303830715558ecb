-- `lexer::name::pack` meets its contract. The loop's invariant: the bytes from here, after the value, are the bytes from the start after v, and end where these do; the value has at most eight bits for each byte there was room for. Assumes nothing.
use Prim.Native.Nat.{◌+◌, ◌-◌, ◌^◌, ◌*◌, ◌≤◌, ◌<◌}
use mathlib.Core.Path.{◌≡◌}
use lib.ListN.{drop, take}
use Rattle.tokens.specs.Names.{byte_digits}
use Rattle.lexer.specs.Runs.{words_len}
use Rattle.lexer.proofs.name.pack.Given as goal

abbrev pub invariant-loop-i : goal.invariant-loop-i
invariant-loop-i l = (l.at ≤ l.i) × (l.i ≤ l.at + l.room) × (l.value < 2 ^ (8 * (8 - l.room + (l.i - l.at)))) × (byte_digits l.value (take (words_len (l.at + l.room - l.i) (drop l.i l.s)) (drop l.i l.s)) ≡ byte_digits l.v (take (words_len l.room (drop l.at l.s)) (drop l.at l.s))) × (l.i + words_len (l.at + l.room - l.i) (drop l.i l.s) ≡ l.at + words_len l.room (drop l.at l.s))

abbrev pub decreases-loop-i : goal.decreases-loop-i
decreases-loop-i l = l.at + l.room - l.i
