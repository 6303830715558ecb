-- Names are compared by their two numbers, so that names that compare equal are the same. Assumes nothing.
use Prim.Native.Nat.{ℕ}
use mathlib.Core.Path.{◌≡◌, ap}
use mathlib.Core.Bool.{true, false}
use mathlib.Core.Logic.{◌⊎◌, inl, inr}
use lib.Dec.{eqb}
use borrow.Author.Tests.{eqb-true, eq-eqb}
use Rattle.laws.proofs.BoolLaws.{bool, and_split, and-join}
use Rattle.tokens.specs.declared.Name.{Name}
use Rattle.tokens.specs.Names.{same_name}

pub name_path : (a b c d : ℕ) → a ≡ b → c ≡ d → ◌≡◌ {A = Name} (record { hi = a; lo = c }) (record { hi = b; lo = d })
name_path a b c d p q = cc

pub same_true : (a b : Name) → same_name a b ≡ true → a ≡ b
same_true a b e =
    let t : (eqb a.hi b.hi ≡ true) × (eqb a.lo b.lo ≡ true) = and_split (eqb a.hi b.hi) (eqb a.lo b.lo) e in
    name_path a.hi b.hi a.lo b.lo (eqb-true a.hi b.hi t.0) (eqb-true a.lo b.lo t.1)

pub same_name_lem : (a b : Name) → a ≡ b → same_name a b ≡ true
same_name_lem a b e = and-join (eqb a.hi b.hi) (eqb a.lo b.lo) (eq-eqb a.hi b.hi (ap (λ (n : Name). n.hi) e)) (eq-eqb a.lo b.lo (ap (λ (n : Name). n.lo) e))

pub other_name : (a b : Name) → (a ≡ b → ⊥) → same_name a b ≡ false
other_name a b n = at (bool (same_name a b))
  where
    at : (same_name a b ≡ true) ⊎ (same_name a b ≡ false) → same_name a b ≡ false
    at (inl e) = absurd (n (same_true a b e))
    at (inr e) = e
