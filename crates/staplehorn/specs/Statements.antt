-- What the functions on statements answer in numbers. Assumes nothing.
use Rattle.std.specs.Prelude.{ℕ, Result, Ok, Err}
use Rattle.reasons.specs.declared.Reason.{Reason}
use Rattle.reasons.specs.Reasons.{answered}

-- the reason of a writing, 0 for a text
abbrev pub written_reason : Result ℕ Reason → ℕ
written_reason w = answered w

-- its length, 0 for a refusal
abbrev pub written_length : Result ℕ Reason → ℕ
written_length (Ok n) = n
written_length (Err reason) = 0
