-- `lexer::number::run` meets its contract. The loop's invariant: the digits from here, after v, are the digits from the start, and end where these do; v is below 2^64. Assumes nothing.
use Prim.Native.Nat.{◌+◌, ◌^◌, ◌<◌}
use mathlib.Core.Path.{◌≡◌}
use lib.ListN.{drop}
use Rattle.tokens.specs.Numbers.{digits_len, worth}
use Rattle.lexer.specs.Runs.{notation_of}
use Rattle.lexer.proofs.Numbers.{digits_after}
use Rattle.lexer.proofs.number.run.Given as goal

abbrev pub invariant-loop-i : goal.invariant-loop-i
invariant-loop-i l = (l.v < 2 ^ 64) × (digits_after (notation_of l.fn.b) l.v (drop l.i l.s) ≡ worth (notation_of l.fn.b) (drop l.at l.s)) × (l.i + digits_len (notation_of l.fn.b) (drop l.i l.s) ≡ l.at + digits_len (notation_of l.fn.b) (drop l.at l.s))
