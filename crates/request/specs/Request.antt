-- What a legal request for columns is (docs/FORMAT.md, 'Booking'). Assumes nothing.
use Rattle.std.specs.Prelude.{ℕ, ◌^◌, ◌≤◌, ◌≡◌, Bool, cond, [], ◌∷◌, eqb, leb}
use Rattle.std.specs.Int.Count.{ones}
use Rattle.laws.specs.Tests.{all}

-- 32 to 512 columns, and exactly one bit set
abbrev pub legal : ℕ → Bool
legal columns = all (leb 32 columns ∷ leb columns 512 ∷ eqb (ones columns) 1 ∷ [])

-- 0, or reason 9
abbrev pub request_reason : ℕ → ℕ
request_reason columns = cond (legal columns) 0 9

-- a power of two from 32 to 512: what a legal request is in words (proofs/RequestLaws.antt shows that the two agree)
pub record PowerInRange (columns : ℕ) : Type 0 where
  pub exponent : ℕ
  pub power : columns ≡ 2 ^ exponent
  pub least : 32 ≤ columns
  pub most : columns ≤ 512
