-- Registers, lanes and columns of an access (docs/FORMAT.md, 'Registers and cells'), and reason 5's test. Assumes nothing.
use Rattle.std.specs.Prelude.{ℕ, ◌*◌, Bool, ◌||◌, not, [], ◌∷◌, ltb, eqb}
use Rattle.statement.specs.declared.Shape.{Shape}
use Rattle.statement.specs.declared.Shape.TheVariants.{S32x32, S16x64, S16x128, S16x256}
use Rattle.statement.specs.declared.Num.{Num}
use Rattle.statement.specs.declared.Num.TheVariants.{X1, X2, X4, X8, X16, X32, X64, X128}
use Rattle.statement.specs.declared.Access.{Access}
use Rattle.statement.specs.declared.Statement.{Statement}
use Rattle.statement.specs.Views.{access_of, for, holds}

-- the N of .xN
abbrev pub times : Num → ℕ
times X1 = 1
times X2 = 2
times X4 = 4
times X8 = 8
times X16 = 16
times X32 = 32
times X64 = 64
times X128 = 128

-- a row of the table: registers for each N, lanes, columns for each N, largest N
pub record Cells : Type 0 where
  pub registers : ℕ
  pub lanes : ℕ
  pub columns : ℕ
  pub largest : ℕ

abbrev pub cells : Shape → Cells
cells S32x32 = record { registers = 1; lanes = 32; columns = 1; largest = 128 }
cells S16x64 = record { registers = 1; lanes = 16; columns = 2; largest = 128 }
cells S16x128 = record { registers = 2; lanes = 16; columns = 4; largest = 64 }
cells S16x256 = record { registers = 4; lanes = 16; columns = 8; largest = 32 }

-- of an access of a shape and an N: its registers, lanes and columns
unfoldable pub registers_for : Shape → Num → ℕ
registers_for shape num = (cells shape).registers * times num

unfoldable pub lanes_for : Shape → ℕ
lanes_for shape = (cells shape).lanes

unfoldable pub columns_for : Shape → Num → ℕ
columns_for shape num = (cells shape).columns * times num

-- reason 5: N over the shape's largest, or another count of registers
unfoldable pub miscounted : Access → Bool
miscounted a = ltb (cells a.shape).largest (times a.num) || not (eqb a.registers (registers_for a.shape a.num))

-- a statement keeps that rule: only a ld or st can break it
unfoldable pub counted : Statement → Bool
counted t = holds (for (access_of t) (λ a. not (miscounted a)) ∷ [])
