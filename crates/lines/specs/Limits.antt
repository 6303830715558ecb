-- Reason 1 at both sides of its limits, of any bytes. proofs/LimitsProved.antt proves it. Assumes nothing.
use Rattle.std.specs.Prelude.{ℕ, ◌≤◌, ◌<◌, ◌≡◌, true, false, List, length}
use Rattle.lines.specs.Sheet.{line_count, oversize}

pub record Limits (s : List ℕ) : Type 0 where
  -- up to 65,536 bytes in up to 4,096 lines are not reason 1
  pub within : length s ≤ 65536 → line_count s ≤ 4096 → oversize s ≡ false
  -- more bytes, or more lines, are
  pub bytes_over : 65536 < length s → oversize s ≡ true
  pub lines_over : 4096 < line_count s → oversize s ≡ true
