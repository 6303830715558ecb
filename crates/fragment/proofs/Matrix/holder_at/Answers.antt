-- `fragment::Matrix::holder_at` meets its contract: what each arm computes is the holder of the place. Assumes nothing.
use mathlib.Core.Path.{◌≡◌, sym, ap, ◌∙◌}
use mathlib.Core.Bool.{true}
use mathlib.Core.Logic.{⊎_elim}
use Rattle.std.specs.Prelude.{Some}
use Rattle.fragment.specs.Fragment.{place, in_matrix, holder_of}
use Rattle.fragment.specs.declared.Matrix.{Matrix}
use Rattle.fragment.specs.declared.Place.{Place}
use Rattle.fragment.specs.declared.Holder.{Holder}
use Rattle.fragment.proofs.FragmentLaws.{holder_at, pair_below, holder-of}
use Rattle.fragment.proofs.Matrix.holder_at.Goals as goal

-- in an arm the matrix is known
is : {m n : Matrix} (p : Place) (h : Holder) → m ≡ n → in_matrix m p ≡ true → h ≡ holder_at n p → holder_of m p ≡ Some h
is {m = m} p h e l k = holder-of m p l ∙ ap Some (ap (λ (x : Matrix). holder_at x p) e ∙ sym k)

pub held-requires : goal.held-requires
held-requires c = let a = c.args in pair_below a.self (place a.row a.column) c.requires

pub held-requires-in-B : goal.held-requires-in-B
held-requires-in-B c = let a = c.args in pair_below a.self (place a.row a.column) c.requires

pub returns-in-B : goal.returns-in-B
returns-in-B c = let a = c.args in is (place a.row a.column) c.held-in-B.result c.in-B.is c.requires c.held-in-B.ensures

pub returns-in-A : goal.returns-in-A
returns-in-A c =
    let a = c.args in
    let p = place a.row a.column in
    ⊎_elim (λ e. is p c.held.result e c.requires c.held.ensures) (λ e. is p c.held.result e c.requires c.held.ensures) c.in-A.is
