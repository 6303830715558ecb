-- `fragment::Matrix::place_at` meets its contract: the entry of the thread's element has the two digits of its place. Assumes nothing.
use Prim.Native.Nat.{ℕ, ◌+◌, ◌*◌, ◌<◌}
use mathlib.Core.Path.{◌≡◌, sym, ap, subst, ◌∙◌}
use mathlib.Core.Bool.{true}
use native.Mathlib.Omega.{arith}
use lib.ListN.{get_or}
use Rattle.fragment.specs.Fragment.{threads, elements, holder, packed, table_of, origin, in_warp}
use Rattle.fragment.specs.declared.Matrix.{Matrix}
use Rattle.fragment.specs.declared.Holder.{Holder}
use Rattle.fragment.proofs.FragmentLaws.{index_of, index_below, index_small, entry_place}
use Rattle.fragment.proofs.Matrix.place_at.Goals as goal

-- the index with the matrix's own count
index : (m : Matrix) (h : Holder) (n : ℕ) → n ≡ elements m → h.thread * n + h.element ≡ index_of m h
index m h n e = ap (λ (x : ℕ). h.thread * x + h.element) e

small : (m : Matrix) (t i n : ℕ) → n ≡ elements m → in_warp m (holder t i) ≡ true → t * n + i < 256
small m t i n e w = subst (λ (x : ℕ). x < 256) (sym (index m (holder t i) n e)) (index_small m (holder t i) w)

pub overflow_mul-thread : goal.overflow_mul-thread
overflow_mul-thread c = let a = c.args in record { fits = omega (arith, small a.self a.thread a.element c.elements-n.result c.elements-n.ensures c.requires) }

pub overflow_add-thread : goal.overflow_add-thread
overflow_add-thread c = let a = c.args in record { fits = omega (arith, small a.self a.thread a.element c.elements-n.result c.elements-n.ensures c.requires) }

pub overflow_cast-thread : goal.overflow_cast-thread
overflow_cast-thread c = let a = c.args in record { fits = omega (arith, small a.self a.thread a.element c.elements-n.result c.elements-n.ensures c.requires) }

pub entry-e-requires : goal.entry-e-requires
entry-e-requires c =
    let a = c.args in
    let h = holder a.thread a.element in
    subst (λ (x : ℕ). x < threads * elements a.self) (sym (index a.self h c.elements-n.result c.elements-n.ensures)) (index_below a.self h c.requires)

pub returns : goal.returns
returns c =
    let a = c.args in
    let h = holder a.thread a.element in
    rw (c.from.ensures, c.from-2.ensures)
    (entry_place a.self h c.entry-e.result c.requires
    (c.entry-e.ensures ∙ ap (λ (k : ℕ). packed (get_or (table_of a.self) k origin)) (index a.self h c.elements-n.result c.elements-n.ensures)))
