-- What is claimed of requests; proofs/RequestLaws.antt has the proof. Assumes nothing.
use Rattle.std.specs.Prelude.{ℕ, ◌≡◌, true}
use Rattle.request.specs.Request.{legal, PowerInRange}

-- Exactly one bit set is a power of two: the test and the words agree.
pub record RequestExact (columns : ℕ) : Type 0 where
  pub power : legal columns ≡ true → PowerInRange columns
  pub bit : PowerInRange columns → legal columns ≡ true
