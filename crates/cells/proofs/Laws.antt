-- What the table holds is small, so that its products fit a word; and a statement that is no access is counted. Assumes nothing.
use Prim.Native.Nat.{ℕ, ◌*◌, ◌≤◌, ◌<◌, ◌^◌}
use native.Mathlib.Nat.{mul-le-mul}
use native.Mathlib.Omega.{arith}
use mathlib.Core.Path.{◌≡◌, refl, sym, ap}
use mathlib.Core.Bool.{true, not}
use mathlib.Core.Logic.{◌⊎◌, inl, inr}
use Rattle.statement.specs.declared.Statement.{Statement}
use Rattle.statement.specs.declared.Access.{Access}
use Rattle.statement.specs.declared.Shape.{Shape}
use Rattle.statement.specs.declared.Shape.TheVariants.{S32x32, S16x64, S16x128, S16x256}
use Rattle.statement.specs.declared.Num.{Num}
use Rattle.statement.specs.declared.Num.TheVariants.{X1, X2, X4, X8, X16, X32, X64, X128}
use Rattle.statement.specs.Cells.{times, cells, columns_for, counted, miscounted}

times-le : (num : Num) → times num ≤ 128
times-le X1 = omega arith
times-le X2 = omega arith
times-le X4 = omega arith
times-le X8 = omega arith
times-le X16 = omega arith
times-le X32 = omega arith
times-le X64 = omega arith
times-le X128 = omega arith

pub registers_le : (shape : Shape) → (cells shape).registers ≤ 8
registers_le S32x32 = omega arith
registers_le S16x64 = omega arith
registers_le S16x128 = omega arith
registers_le S16x256 = omega arith

pub columns-le : (shape : Shape) → (cells shape).columns ≤ 8
columns-le S32x32 = omega arith
columns-le S16x64 = omega arith
columns-le S16x128 = omega arith
columns-le S16x256 = omega arith

-- an access has at most 1,024 columns
pub columns_few : (shape : Shape) (num : Num) → columns_for shape num ≤ 1024
unfolding columns_for
columns_few shape num = omega (arith, mul-le-mul (columns-le shape) (times-le num))

-- up to eight for each N
pub product : (x a n : ℕ) (num : Num) → x ≤ 8 → a ≡ x → n ≡ times num → a * n < 2 ^ 64
product x a n num h p q = rw (p, q) (omega (arith, mul-le-mul h (times-le num)))

-- what is neither a ld nor a st is counted
pub counted_other : (t : Statement) → ((a : Access) → t ≡ Statement.Load a → ⊥) → ((a : Access) → t ≡ Statement.Store a → ⊥) → true ≡ counted t
unfolding counted
counted_other (Statement.Load a) h k = absurd (h a refl)
counted_other (Statement.Store a) h k = absurd (k a refl)
counted_other (Statement.Mov32 n v) h k = refl
counted_other (Statement.Mov64 n v) h k = refl
counted_other (Statement.Alloc n v) h k = refl
counted_other (Statement.Dealloc n v) h k = refl
counted_other Statement.Relinquish h k = refl
counted_other Statement.WaitLoad h k = refl
counted_other Statement.WaitStore h k = refl
counted_other Statement.FenceBefore h k = refl
counted_other Statement.FenceAfter h k = refl
counted_other (Statement.Multiply m) h k = refl
counted_other Statement.Exit h k = refl

-- a ld or a st is counted where its registers are
pub counted_access : (t : Statement) (a : Access) → (t ≡ Statement.Load a) ⊎ (t ≡ Statement.Store a) → not (miscounted a) ≡ counted t
unfolding counted
counted_access t a (inl e) = sym (ap counted e)
counted_access t a (inr e) = sym (ap counted e)
