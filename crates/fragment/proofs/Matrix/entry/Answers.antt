-- `fragment::Matrix::entry` meets its contract: each table is computed to be the matrix's, as a whole. Assumes nothing.
use Prim.Native.Nat.{ℕ, ◌*◌, ◌<◌}
use mathlib.Core.Path.{◌≡◌, refl, subst}
use Rattle.fragment.specs.Fragment.{threads, elements, table_of}
use Rattle.fragment.specs.declared.Matrix.{Matrix}
use Rattle.fragment.proofs.FragmentLaws.{entry-is}
use Rattle.fragment.proofs.Matrix.entry.Goals as goal

-- in an arm the matrix is known, and so the length of its table
within : {m n : Matrix} {k : ℕ} → m ≡ n → k < threads * elements m → k < threads * elements n
within {k = k} e l = subst (λ (m : Matrix). k < threads * elements m) e l

pub returns-in-A : goal.returns-in-A
unfolding table_of
returns-in-A c = rw c.in-A.is (entry-is Matrix.A _ c.args.k refl)

pub returns-in-B : goal.returns-in-B
unfolding table_of
returns-in-B c = rw c.in-B.is (entry-is Matrix.B _ c.args.k refl)

pub returns-in-C : goal.returns-in-C
unfolding table_of
returns-in-C c = rw c.in-C.is (entry-is Matrix.C _ c.args.k refl)

pub bounds-k : goal.bounds-k
bounds-k c = within c.in-A.is c.requires

pub bounds-k-in-B : goal.bounds-k-in-B
bounds-k-in-B c = within c.in-B.is c.requires

pub bounds-k-in-C : goal.bounds-k-in-C
bounds-k-in-C c = within c.in-C.is c.requires
