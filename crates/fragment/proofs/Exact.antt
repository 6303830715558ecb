-- What is claimed of the tables and of both ways, from the laws of one matrix. Assumes nothing.
use Prim.Native.Nat.{ℕ, ◌*◌, ◌<◌}
use mathlib.Core.Path.{◌≡◌, sym, ap, subst, ◌∙◌}
use mathlib.Core.Bool.{true}
use Rattle.std.specs.Prelude.{Option, None, Some}
use native.Mathlib.Omega.{arith}
use lib.ListN.{get_or, length}
use Rattle.laws.proofs.BoolLaws.{chosen}
use Rattle.fragment.specs.Fragment.{matrix_of, threads, elements, place, holder, place_of, entry_of, table_of, origin, holder_of, in_warp, in_matrix, place_found, no_place, holder_found, no_holder, place_in, place_read, held_by, holder_in, holder_read, PlaceRead, HolderRead}
use Rattle.fragment.specs.Claims.{Once, TableExact, BothWays, FragmentsExact}
use Rattle.fragment.specs.declared.Matrix.{Matrix}
use Rattle.fragment.specs.declared.Place.{Place}
use Rattle.fragment.specs.declared.Holder.{Holder}
use Rattle.fragment.proofs.FragmentLaws.{holder_at, index_of, leads_back_lem, is-held, index_below, entry_in, table_size, table_at, table-rule, only-entry, holder-of, place-in, holder_in_lem}

-- ---- the table of a matrix
-- an entry of the table is one of the warp's
within : (m : Matrix) (k : ℕ) → k < length (table_of m) → k < threads * elements m
within m k l = subst (λ n. k < n) (table_size m) l

inside : (m : Matrix) (k : ℕ) → k < length (table_of m) → in_matrix m (get_or (table_of m) k origin) ≡ true
inside m k l = let b = within m k l in ap (in_matrix m) (table_at m k b) ∙ (leads_back_lem m (entry_of m k) (entry_in m k b)).0

once : (m : Matrix) (p : Place) → in_matrix m p ≡ true → Once (table_of m) p
once m p e = let held = is-held m p e in record {
  entry = index_of m (holder_at m p);
  inside = subst (λ n. index_of m (holder_at m p) < n) (sym (table_size m)) (index_below m (holder_at m p) held.0);
  stands = table-rule m (holder_at m p) held.0 ∙ held.1;
  only = λ k l s. only-entry m p k (within m k l) (sym (table_at m k (within m k l)) ∙ s);
}

-- EACH TABLE IS ITS RULE, AND MEETS EVERY PLACE ONCE
pub table_exact : (m : Matrix) → TableExact m
table_exact m = record { size = table_size m; rule = table-rule m; inside = inside m; once = once m }

-- ---- both ways
-- what a place that was found says
place_found_lem : (m : Matrix) (h : Holder) (p : Place) → place_in (Some m) h ≡ place_found p → (in_warp m h ≡ true) × (place_of m h ≡ p)
place_found_lem m h p e =
    let w : in_warp m h ≡ true = chosen (λ (a : PlaceRead). a.reason ≡ 0) (in_warp m h) (place_found (place_of m h)) no_place (λ z. omega (arith, z)) (ap (λ (a : PlaceRead). a.reason) e) in
    (w, ap (λ (a : PlaceRead). a.place) (sym (place-in m h true w) ∙ e))

-- a place of the matrix has the holder that the code computes, and a holder that was found is that one
answered_by : (m : Matrix) (p : Place) → in_matrix m p ≡ true → holder_in (Some m) p ≡ holder_found (holder_at m p)
answered_by m p e = holder_in_lem m p true e ∙ ap held_by (holder-of m p e)

holder-found : (m : Matrix) (p : Place) (h : Holder) → holder_in (Some m) p ≡ holder_found h → (in_matrix m p ≡ true) × (holder_at m p ≡ h)
holder-found m p h e =
    let w : in_matrix m p ≡ true = chosen (λ (a : HolderRead). a.reason ≡ 0) (in_matrix m p) (held_by (holder_of m p)) no_holder (λ z. omega (arith, z)) (ap (λ (a : HolderRead). a.reason) e) in
    (w, ap (λ (a : HolderRead). a.holder) (sym (answered_by m p w) ∙ e))

back_in : (o : Option Matrix) (h : Holder) (p : Place) → place_in o h ≡ place_found p → holder_in o p ≡ holder_found h
back_in None h p e = absurd (omega (arith, ap (λ (a : PlaceRead). a.reason) e))
back_in (Some m) h p e =
    let s = place_found_lem m h p e in
    let l = leads_back_lem m h s.0 in
    answered_by m p (sym (ap (in_matrix m) s.1) ∙ l.0) ∙ ap holder_found (ap (holder_at m) (sym s.1) ∙ l.1)

out_in : (o : Option Matrix) (p : Place) (h : Holder) → holder_in o p ≡ holder_found h → place_in o h ≡ place_found p
out_in None p h e = absurd (omega (arith, ap (λ (a : HolderRead). a.reason) e))
out_in (Some m) p h e =
    let s = holder-found m p h e in
    let l = is-held m p s.0 in
    place-in m h true (sym (ap (in_warp m) s.1) ∙ l.0) ∙ ap place_found (ap (place_of m) (sym s.1) ∙ l.1)

-- EACH WAY UNDOES THE OTHER
pub both_ways : (n : ℕ) → BothWays n
unfolding place_read holder_read
both_ways n = record {
  back = λ t i p e. back_in (matrix_of n) (holder t i) p e;
  out = λ r c h e. out_in (matrix_of n) (place r c) h e;
  all_placed = λ m t i k e. ap (λ (a : PlaceRead). a.reason) (ap (λ o. place_in o (holder t i)) k ∙ place-in m (holder t i) true e);
  all_held = λ m r c k e. ap (λ (a : HolderRead). a.reason) (ap (λ o. holder_in o (place r c)) k ∙ answered_by m (place r c) e);
}

-- FOR THE THREE, AND FOR EVERY NUMBER
pub fragments_exact : FragmentsExact
fragments_exact = record { tables = table_exact; ways = both_ways }
