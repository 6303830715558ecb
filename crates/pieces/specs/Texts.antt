-- A text that is being written in room for n bytes: the text so far, and none once a part was refused. Assumes nothing.
use Rattle.std.specs.Prelude.{ℕ, ◌-◌, List, ◌++◌, Bool, ◌&&◌, cond, length, leb, Option, Some, None}
use Rattle.std.proofs.Common.{Bor}

-- the text after w, where w is given and there is room for it; what is refused stays so
unfoldable pub added : ℕ → List ℕ → Bool → Option (List ℕ) → Option (List ℕ)
added n w given (Some text) = cond (given && leb (length w) (n - length text)) (Some (text ++ w)) None
added n w given None = None

-- the text that a function returns, if any
abbrev pub text_seen : Option (Bor (List ℕ)) → Option (List ℕ)
text_seen None = None
text_seen (Some w) = Some w.now
