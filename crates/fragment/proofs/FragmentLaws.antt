-- The rule of each matrix and its reverse undo each other: computed for every thread and element, and every row and column, of the three, and lifted
-- to each of them by one law. The rest follows from that alone. Assumes nothing.
use Prim.Native.Nat.{ℕ, ◌+◌, ◌*◌, ◌/◌, ◌%◌, ◌≤◌, ◌<◌}
use native.Mathlib.Omega.{arith}
use mathlib.Core.Path.{◌≡◌, refl, sym, ap, subst, ◌∙◌}
use mathlib.Core.Bool.{Bool, true, ◌&&◌, cond}
use mathlib.Core.List.{List, map}
use Rattle.std.specs.Prelude.{Some}
use native.Mathlib.Nat.{le_trans, zero-add, mod-lt, div-add-mod', div-lt_iff_lt-mul}
use lib.Arith.{digits_lt, digits_div, digits_mod}
use lib.Dec.{eqb, ltb}
use lib.ListN.{get_or, length, length-map, get_or-map}
use borrow.Author.Tests.{eqb-true, ltb-true, lt-ltb, eq-eqb}
use Rattle.laws.proofs.BoolLaws.{and_split, and-join}
use Rattle.laws.proofs.TestLaws.{below, below-is}
use Rattle.fragment.specs.Fragment.{rows, columns, threads, elements, place, holder, place_of, count_from, entry_of, holders, table_of, same_place, holder_of, origin, packed, in_warp, in_matrix, place_found, no_place, place_in, held_by, no_holder, holder_in, held_at}
use Rattle.fragment.proofs.ListLaws.{at_map, at_from, count_from_lem, find-only}
use Rattle.fragment.specs.declared.Matrix.{Matrix}
use Rattle.fragment.specs.declared.Place.{Place}
use Rattle.fragment.specs.declared.Holder.{Holder}

-- ---- who holds a place, as the code computes it
abbrev pub pair_of : Place → ℕ
pair_of p = p.row / 8 + p.column / 8 * 2

abbrev pub holder_at : Matrix → Place → Holder
holder_at Matrix.A p = held_at p.row p.column (pair_of p)
holder_at Matrix.B p = held_at p.column p.row (pair_of p)
holder_at Matrix.C p = held_at p.row p.column (pair_of p)

-- ---- computed: an element's place lies in the matrix and leads back to it, a place's holder is in the warp and has its place there
abbrev same_holder : Holder → Holder → Bool
same_holder g h = eqb g.thread h.thread && eqb g.element h.element

abbrev leads_back : Matrix → Holder → Bool
leads_back m h = in_matrix m (place_of m h) && same_holder (holder_at m (place_of m h)) h

abbrev is_held : Matrix → Place → Bool
is_held m p = in_warp m (holder_at m p) && same_place (place_of m (holder_at m p)) p

abbrev all_lead_back : Matrix → Bool
all_lead_back m = below threads (λ t. below (elements m) (λ i. leads_back m (holder t i)))

abbrev all_held : Matrix → Bool
all_held m = below rows (λ r. below (columns m) (λ c. is_held m (place r c)))

computed : (m : Matrix) → (all_lead_back m && all_held m) ≡ true
computed Matrix.A = refl
computed Matrix.B = refl
computed Matrix.C = refl

-- ---- lifted to each of them
-- a test of two numbers, each below a bound
below_both : (n k : ℕ) (f : ℕ → ℕ → Bool) → below n (λ x. below k (f x)) ≡ true → (x y : ℕ) → x < n → y < k → f x y ≡ true
below_both n k f h x y g l = below-is k (f x) (below-is n (λ z. below k (f z)) h x g) y l

-- two equalities at once, and two limits
both_equal : (a b c d : ℕ) → eqb a c && eqb b d ≡ true → (a ≡ c) × (b ≡ d)
both_equal a b c d h = let s = and_split (eqb a c) (eqb b d) h in (eqb-true a c s.0, eqb-true b d s.1)

both_below : (a b c d : ℕ) → ltb a c && ltb b d ≡ true → (a < c) × (b < d)
both_below a b c d h = let s = and_split (ltb a c) (ltb b d) h in (ltb-true a c s.0, ltb-true b d s.1)

same_place_lem : (p q : Place) → same_place p q ≡ true → p ≡ q
same_place_lem p q h =
    let e = both_equal p.row p.column q.row q.column h in
    ap (λ r. place r p.column) e.0 ∙ ap (place q.row) e.1

same_holder_lem : (g h : Holder) → same_holder g h ≡ true → g ≡ h
same_holder_lem g h s =
    let e = both_equal g.thread g.element h.thread h.element s in
    ap (λ t. holder t g.element) e.0 ∙ ap (holder h.thread) e.1

-- a place is itself
itself : (p : Place) → same_place p p ≡ true
itself p = and-join (eqb p.row p.row) (eqb p.column p.column) (eq-eqb p.row p.row refl) (eq-eqb p.column p.column refl)

warp_is : (m : Matrix) (h : Holder) → in_warp m h ≡ true → (h.thread < threads) × (h.element < elements m)
warp_is m h = both_below h.thread h.element threads (elements m)

matrix_is : (m : Matrix) (p : Place) → in_matrix m p ≡ true → (p.row < rows) × (p.column < columns m)
matrix_is m p = both_below p.row p.column rows (columns m)

-- the two tests at once, once the code's count is the matrix's own
pub counted : (most x y n k : ℕ) (b : Bool) → n ≡ k → ltb x most && ltb y n ≡ b → ltb x most && ltb y k ≡ b
counted most x y n k b e h = ap (λ (z : ℕ). ltb x most && ltb y z) (sym e) ∙ h

pub leads_back_lem : (m : Matrix) (h : Holder) → in_warp m h ≡ true → (in_matrix m (place_of m h) ≡ true) × (holder_at m (place_of m h) ≡ h)
leads_back_lem m h e =
    let all = (and_split (all_lead_back m) (all_held m) (computed m)).0 in
    let w = warp_is m h e in
    let s = and_split (in_matrix m (place_of m h)) (same_holder (holder_at m (place_of m h)) h) (below_both threads (elements m) (λ t i. leads_back m (holder t i)) all h.thread h.element w.0 w.1) in
    (s.0, same_holder_lem (holder_at m (place_of m h)) h s.1)

pub is-held : (m : Matrix) (p : Place) → in_matrix m p ≡ true → (in_warp m (holder_at m p) ≡ true) × (place_of m (holder_at m p) ≡ p)
is-held m p e =
    let all = (and_split (all_lead_back m) (all_held m) (computed m)).1 in
    let w = matrix_is m p e in
    let s = and_split (in_warp m (holder_at m p)) (same_place (place_of m (holder_at m p)) p) (below_both rows (columns m) (λ r c. is_held m (place r c)) all p.row p.column w.0 w.1) in
    (s.0, same_place_lem (place_of m (holder_at m p)) p s.1)

-- ---- the entry of a thread's element, and the element of an entry
abbrev pub index_of : Matrix → Holder → ℕ
index_of m h = h.thread * elements m + h.element

-- the figures of the three: a thread has an element, no table has more than 256 entries, and no matrix more than 16 columns
figures : (m : Matrix) → (0 < elements m) × (threads * elements m ≤ 256) × (columns m ≤ 16)
figures Matrix.A = (omega arith, omega arith, omega arith)
figures Matrix.B = (omega arith, omega arith, omega arith)
figures Matrix.C = (omega arith, omega arith, omega arith)

pub entry-of_index : (m : Matrix) (h : Holder) → in_warp m h ≡ true → entry_of m (index_of m h) ≡ h
entry-of_index m h e =
    let l : h.element < elements m = (warp_is m h e).1 in
    ap (λ t. holder t (index_of m h % elements m)) (digits_div h.thread l) ∙ ap (holder h.thread) (digits_mod h.thread l)

pub index_below : (m : Matrix) (h : Holder) → in_warp m h ≡ true → index_of m h < threads * elements m
index_below m h e = let w = warp_is m h e in digits_lt w.0 w.1

pub index_small : (m : Matrix) (h : Holder) → in_warp m h ≡ true → index_of m h < 256
index_small m h e = le_trans (index_below m h e) (figures m).1

column_small : (m : Matrix) (p : Place) → in_matrix m p ≡ true → p.column < 16
column_small m p e = le_trans (matrix_is m p e).1 (figures m).2

-- so a thread has four pairs at the most
pub pair_below : (m : Matrix) (p : Place) → in_matrix m p ≡ true → pair_of p < 4
pair_below m p e = omega (arith, (matrix_is m p e).0, column_small m p e)

pub entry_in : (m : Matrix) (k : ℕ) → k < threads * elements m → in_warp m (entry_of m k) ≡ true
entry_in m k l =
    and-join (ltb (k / elements m) threads) (ltb (k % elements m) (elements m))
    (lt-ltb (k / elements m) threads ((div-lt_iff_lt-mul (figures m).0).1 l))
    (lt-ltb (k % elements m) (elements m) (mod-lt k (figures m).0))

-- ---- an entry of a table
count-holders : (m : Matrix) → length (holders m) ≡ threads * elements m
count-holders m = length-map (count_from 0 (threads * elements m)) (entry_of m) ∙ count_from_lem (threads * elements m) 0

pub table_size : (m : Matrix) → length (table_of m) ≡ threads * elements m
unfolding table_of
table_size m = length-map (holders m) (place_of m) ∙ count-holders m

pub table_at : (m : Matrix) (k : ℕ) → k < threads * elements m → get_or (table_of m) k origin ≡ place_of m (entry_of m k)
unfolding table_of
table_at m k l =
    at_map (place_of m) (holders m) k (holder 0 0) origin (subst (λ n. k < n) (sym (count-holders m)) l)
    ∙ ap (place_of m)
    (at_map (entry_of m) (count_from 0 (threads * elements m)) k 0 (holder 0 0) (subst (λ n. k < n) (sym (count_from_lem (threads * elements m) 0)) l)
    ∙ ap (entry_of m) (at_from (threads * elements m) 0 k l ∙ zero-add k))

-- by thread, then by element, each entry is the rule's
pub table-rule : (m : Matrix) (h : Holder) → in_warp m h ≡ true → get_or (table_of m) (index_of m h) origin ≡ place_of m h
table-rule m h e = table_at m (index_of m h) (index_below m h e) ∙ ap (place_of m) (entry-of_index m h e)

-- a list of numbers that is the table has at each entry the number of the place there
pub entry-is : (m : Matrix) (xs : List ℕ) (k : ℕ) → xs ≡ map packed (table_of m) → get_or xs k 0 ≡ packed (get_or (table_of m) k origin)
entry-is m xs k e = ap (λ (ys : List ℕ). get_or ys k 0) e ∙ get_or-map packed (table_of m) k origin

-- the number at the entry of a thread's element has the two digits of its place
pub entry_place : (m : Matrix) (h : Holder) (n : ℕ) → in_warp m h ≡ true → n ≡ packed (get_or (table_of m) (index_of m h) origin) → place (n / 16) (n % 16) ≡ place_of m h
entry_place m h n e is =
    let p : Place = place_of m h in
    let l : p.column < 16 = column_small m p (leads_back_lem m h e).0 in
    ap (λ x. place (x / 16) (x % 16)) (is ∙ ap packed (table-rule m h e))
    ∙ ap (λ r. place r (packed p % 16)) (digits_div p.row l)
    ∙ ap (place p.row) (digits_mod p.row l)

-- ---- who holds a place
-- an entry that has a place is that of the place's holder
pub only-entry : (m : Matrix) (p : Place) (k : ℕ) → k < threads * elements m → place_of m (entry_of m k) ≡ p → k ≡ index_of m (holder_at m p)
only-entry m p k l e = sym (div-add-mod' k (elements m)) ∙ ap (index_of m) (sym (leads_back_lem m (entry_of m k) (entry_in m k l)).1 ∙ ap (holder_at m) e)

pub holder-of : (m : Matrix) (p : Place) → in_matrix m p ≡ true → holder_of m p ≡ Some (holder_at m p)
unfolding holder_of
holder-of m p e =
    let k : ℕ = index_of m (holder_at m p) in
    let held = is-held m p e in
    let same : entry_of m k ≡ holder_at m p = entry-of_index m (holder_at m p) held.0 in
    let there : place_of m (entry_of m k) ≡ p = ap (place_of m) same ∙ held.1 in
    find-only (λ g. same_place (place_of m g) p) (entry_of m) (threads * elements m) k (index_below m (holder_at m p) held.0)
    (ap (λ q. same_place q p) there ∙ itself p) (λ j l t. only-entry m p j l (same_place_lem (place_of m (entry_of m j)) p t))
    ∙ ap Some same

-- ---- the answers, as the test of each goes
pub place-in : (m : Matrix) (h : Holder) (b : Bool) → in_warp m h ≡ b → place_in (Some m) h ≡ cond b (place_found (place_of m h)) no_place
place-in m h b e = ap (λ x. cond x (place_found (place_of m h)) no_place) e

pub holder_in_lem : (m : Matrix) (p : Place) (b : Bool) → in_matrix m p ≡ b → holder_in (Some m) p ≡ cond b (held_by (holder_of m p)) no_holder
holder_in_lem m p b e = ap (λ x. cond x (held_by (holder_of m p)) no_holder) e
