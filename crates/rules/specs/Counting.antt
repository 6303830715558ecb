-- Counting, and the first number that passes a test. Assumes nothing.
use Rattle.std.specs.Prelude.{ℕ, zero, suc, ◌+◌, Bool, true, ◌&&◌, cond, ltb}

-- how many numbers below n pass a test
unfoldable pub count : (ℕ → Bool) → ℕ → ℕ
count f zero = 0
count f (suc n) = cond (f n) 1 0 + count f n

-- all of the n numbers from a on pass a test
unfoldable pub every : (ℕ → Bool) → ℕ → ℕ → Bool
every f a zero = true
every f a (suc n) = f a && every f (suc a) n

-- the lowest number below n that passes a test; n if there is none
unfoldable pub least : (ℕ → Bool) → ℕ → ℕ
least f zero = 0
least f (suc n) = cond (ltb (least f n) n) (least f n) (cond (f n) n (suc n))
