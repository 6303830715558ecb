-- Lists of bytes are compared byte by byte, so that lists that compare equal are the same. Assumes nothing.
use Prim.Native.Nat.{ℕ}
use mathlib.Core.Path.{◌≡◌, refl}
use mathlib.Core.List.{List, [], ◌∷◌}
use mathlib.Core.Bool.{true}
use lib.Dec.{eqb}
use borrow.Author.Tests.{eqb-true}
use Rattle.laws.proofs.BoolLaws.{never, and_split}
use Rattle.tokens.specs.Bytes.{same_bytes}

pub same_eq : (v w : List ℕ) → same_bytes v w ≡ true → v ≡ w
same_eq [] [] h = refl
same_eq [] (y ∷ w) h = never h
same_eq (x ∷ v) [] h = never h
same_eq (x ∷ v) (y ∷ w) h =
    let p = and_split (eqb x y) (same_bytes v w) h in
    rw (eqb-true x y p.0, same_eq v w p.1)
