-- The test of an address as the code makes it is that of the layout. Assumes nothing.
use Prim.Native.Nat.{ℕ, ◌≤◌, ◌<◌, ◌%◌}
use mathlib.Core.Path.{◌≡◌, refl, sym}
use mathlib.Core.Bool.{Bool, true, false, ◌&&◌}
use native.Mathlib.Omega.{arith}
use lib.Dec.{eqb, leb, ltb}
use borrow.Author.Tests.{eqb-true, le-leb, lt-leb, ltb-true, ltb-false}

-- a multiple of 16 below 262144 is at most 262128
pub room : (x : ℕ) → (eqb (x % 16) 0 && ltb x 262144) ≡ (eqb (x % 16) 0 && leb x 262128)
room x = by_test (eqb (x % 16) 0) (ltb x 262144) refl refl
  where
    by_test : (a b : Bool) → eqb (x % 16) 0 ≡ a → ltb x 262144 ≡ b → (a && b) ≡ (a && leb x 262128)
    by_test false b p q = refl
    by_test true true p q =
        let e : x % 16 ≡ 0 = eqb-true (x % 16) 0 p in
        let h : x < 262144 = ltb-true x 262144 q in
        sym (le-leb x 262128 (omega arith))
    by_test true false p q = let h : 262144 ≤ x = ltb-false x 262144 q in sym (lt-leb x 262128 (omega arith))
