-- The limits at both sides, by the two tests of reason 1. Assumes nothing.
use Prim.Native.Nat.{ℕ}
use mathlib.Core.Bool.{or-true}
use mathlib.Core.List.{List}
use lib.Dec.{ltb}
use lib.ListN.{length}
use borrow.Author.Tests.{lt-ltb, le-ltb}
use Rattle.lines.specs.Sheet.{line_count, oversize}
use Rattle.lines.specs.Limits.{Limits}

pub limits : (s : List ℕ) → Limits s
unfolding oversize
limits s = record {
  within = λ p q. rw (le-ltb 65536 (length s) p, le-ltb 4096 (line_count s) q);
  bytes_over = λ p. rw (lt-ltb 65536 (length s) p);
  lines_over = λ q. rw (lt-ltb 4096 (line_count s) q) (or-true (ltb 65536 (length s)));
}
