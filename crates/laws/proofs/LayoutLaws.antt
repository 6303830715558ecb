-- The two laws of every layout. Each is shown for the parts taken off from the low end, where a word is a quotient and a remainder at a time; the
-- tiling carries it to the bits that the layout names. Assumes nothing.
use Prim.Native.Nat.{ℕ, suc, ◌+◌, ◌-◌, ◌*◌, ◌/◌, ◌%◌, ◌^◌, ◌≤◌, ◌<◌}
use mathlib.Core.Path.{◌≡◌, refl, ap, sym, ◌∙◌}
use mathlib.Core.Bool.{Bool, true, ◌&&◌}
use mathlib.Core.List.{List, [], ◌∷◌}
use native.Mathlib.Nat.{div-one, sub-zero, mul-one, sub_self, mod-lt, mul_comm, mul_assoc, add_comm, add-mul, mul-div_cancel, mul-mod_left, mul-le-mul_right, div-le_of_le-mul, div-add-mod'}
use native.Mathlib.Omega.{arith}
use lib.Arith.{lt-one}
use lib.Dec.{eqb, leb, ltb}
use lib.Pow.{pow_pos, pow-add, high, low, split, shr-shr, shr_lt, le_ones, lt_of_le_ones}
use borrow.Author.Tests.{eqb-true, leb-true, ltb-true, eq-eqb, le-leb}
use Rattle.laws.specs.Tests.{all}
use Rattle.laws.specs.Layout.{Part, plain, scaled, fixed, width, says, stands, ranges, pack, tiles}
use Rattle.laws.proofs.BoolLaws.{never, and_split}
use Rattle.laws.proofs.TestLaws.{Each, each, all_of}

-- what a number says by the parts taken off from its low end, the tests of its fixed parts, and the number of a list
abbrev low_says : List Part → ℕ → List ℕ
low_says [] n = []
low_says (plain a b ∷ ps) n = n % 2 ^ width a b ∷ low_says ps (n / 2 ^ width a b)
low_says (scaled a b u ∷ ps) n = n % 2 ^ width a b * u ∷ low_says ps (n / 2 ^ width a b)
low_says (fixed a b v ∷ ps) n = low_says ps (n / 2 ^ width a b)

abbrev low_stands : List Part → ℕ → List Bool
low_stands [] n = []
low_stands (plain a b ∷ ps) n = low_stands ps (n / 2 ^ width a b)
low_stands (scaled a b u ∷ ps) n = low_stands ps (n / 2 ^ width a b)
low_stands (fixed a b v ∷ ps) n = eqb (n % 2 ^ width a b) v ∷ low_stands ps (n / 2 ^ width a b)

abbrev low_pack : List Part → List ℕ → ℕ
low_pack [] xs = 0
low_pack (plain a b ∷ ps) [] = 0
low_pack (plain a b ∷ ps) (x ∷ xs) = low_pack ps xs * 2 ^ width a b + x
low_pack (scaled a b u ∷ ps) [] = 0
low_pack (scaled a b u ∷ ps) (x ∷ xs) = low_pack ps xs * 2 ^ width a b + x / u
low_pack (fixed a b v ∷ ps) xs = low_pack ps xs * 2 ^ width a b + v

-- a layout that tiles the bits from one up to a size, as facts
abbrev Sound : ℕ → ℕ → List Part → Type 0
Sound o n [] = o ≡ n
Sound o n (plain a b ∷ ps) = (o ≡ a) × (suc b ≡ a + width a b) × Sound (suc b) n ps
Sound o n (scaled a b u ∷ ps) = (o ≡ a) × (suc b ≡ a + width a b) × Sound (suc b) n ps × (0 < u)
Sound o n (fixed a b v ∷ ps) = (o ≡ a) × (suc b ≡ a + width a b) × Sound (suc b) n ps × (v < 2 ^ width a b)

sound : (o n : ℕ) (ps : List Part) → tiles o n ps ≡ true → Sound o n ps
sound o n [] h = eqb-true o n h
sound o n (plain a b ∷ ps) h =
    let r : (eqb o a ≡ true) × ((leb a b && tiles (suc b) n ps) ≡ true) = and_split (eqb o a) (leb a b && tiles (suc b) n ps) h in
    let s : (leb a b ≡ true) × (tiles (suc b) n ps ≡ true) = and_split (leb a b) (tiles (suc b) n ps) r.1 in
    let p : o ≡ a = eqb-true o a r.0 in
    let q : a ≤ b = leb-true a b s.0 in
    (p, omega arith, sound (suc b) n ps s.1)
sound o n (scaled a b u ∷ ps) h =
    let r : (eqb o a ≡ true) × ((leb a b && (ltb 0 u && tiles (suc b) n ps)) ≡ true) = and_split (eqb o a) _ h in
    let s : (leb a b ≡ true) × ((ltb 0 u && tiles (suc b) n ps) ≡ true) = and_split (leb a b) _ r.1 in
    let t : (ltb 0 u ≡ true) × (tiles (suc b) n ps ≡ true) = and_split (ltb 0 u) _ s.1 in
    let p : o ≡ a = eqb-true o a r.0 in
    let q : a ≤ b = leb-true a b s.0 in
    (p, omega arith, sound (suc b) n ps t.1, ltb-true 0 u t.0)
sound o n (fixed a b v ∷ ps) h =
    let r : (eqb o a ≡ true) × ((leb a b && (ltb v (2 ^ width a b) && tiles (suc b) n ps)) ≡ true) = and_split (eqb o a) _ h in
    let s : (leb a b ≡ true) × ((ltb v (2 ^ width a b) && tiles (suc b) n ps) ≡ true) = and_split (leb a b) _ r.1 in
    let t : (ltb v (2 ^ width a b) ≡ true) × (tiles (suc b) n ps ≡ true) = and_split (ltb v (2 ^ width a b)) _ s.1 in
    let p : o ≡ a = eqb-true o a r.0 in
    let q : a ≤ b = leb-true a b s.0 in
    (p, omega arith, sound (suc b) n ps t.1, ltb-true v (2 ^ width a b) t.0)

-- the quotient by the bits up to the end of a part, in two steps
past : (n a b : ℕ) → suc b ≡ a + width a b → n / 2 ^ suc b ≡ n / 2 ^ a / 2 ^ width a b
past n a b e = ap (λ (k : ℕ). n / 2 ^ k) e ∙ sym (shr-shr n a (width a b))

says_low : (ps : List Part) (o m n : ℕ) → Sound o m ps → says ps n ≡ low_says ps (n / 2 ^ o)
says_low [] o m n s = refl
says_low (plain a b ∷ ps) o m n s = rw (says_low ps (suc b) m n s.2, past n a b s.1, s.0)
says_low (scaled a b u ∷ ps) o m n s = rw (says_low ps (suc b) m n s.2, past n a b s.1, s.0)
says_low (fixed a b v ∷ ps) o m n s = rw (says_low ps (suc b) m n s.2, past n a b s.1, s.0)

stands_low : (ps : List Part) (o m n : ℕ) → Sound o m ps → stands ps n ≡ low_stands ps (n / 2 ^ o)
stands_low [] o m n s = refl
stands_low (plain a b ∷ ps) o m n s = rw (stands_low ps (suc b) m n s.2, past n a b s.1, s.0)
stands_low (scaled a b u ∷ ps) o m n s = rw (stands_low ps (suc b) m n s.2, past n a b s.1, s.0)
stands_low (fixed a b v ∷ ps) o m n s = rw (stands_low ps (suc b) m n s.2, past n a b s.1, s.0)

-- one part below the others
under : (h x a b : ℕ) → suc b ≡ a + width a b → x * 2 ^ a + h * 2 ^ suc b ≡ (h * 2 ^ width a b + x) * 2 ^ a
under h x a b e =
    let p : 2 ^ suc b ≡ 2 ^ width a b * 2 ^ a = ap (λ (k : ℕ). 2 ^ k) (e ∙ add_comm a (width a b)) ∙ pow-add 2 (width a b) a in
    let q : h * 2 ^ suc b ≡ h * 2 ^ width a b * 2 ^ a = ap (λ (k : ℕ). h * k) p ∙ sym (mul_assoc h (2 ^ width a b) (2 ^ a)) in
    rw (q, add-mul (h * 2 ^ width a b) x (2 ^ a)) (add_comm (x * 2 ^ a) (h * 2 ^ width a b * 2 ^ a))

pack_low : (ps : List Part) (xs : List ℕ) (o m : ℕ) → Sound o m ps → pack ps xs ≡ low_pack ps xs * 2 ^ o
pack_low [] xs o m s = omega arith
pack_low (plain a b ∷ ps) [] o m s = omega arith
pack_low (plain a b ∷ ps) (x ∷ xs) o m s = rw (pack_low ps xs (suc b) m s.2, s.0) (under (low_pack ps xs) x a b s.1)
pack_low (scaled a b u ∷ ps) [] o m s = omega arith
pack_low (scaled a b u ∷ ps) (x ∷ xs) o m s = rw (pack_low ps xs (suc b) m s.2, s.0) (under (low_pack ps xs) (x / u) a b s.1)
pack_low (fixed a b v ∷ ps) xs o m s = rw (pack_low ps xs (suc b) m s.2, s.0) (under (low_pack ps xs) v a b s.1)

-- numbers in range, packed and taken apart again
back : (ps : List Part) (xs : List ℕ) (o m : ℕ) → Sound o m ps → Each (ranges ps xs)
    → Each (low_stands ps (low_pack ps xs)) × (low_says ps (low_pack ps xs) ≡ xs)
back [] [] o m s e = (tt, refl)
back [] (x ∷ xs) o m s e = never e.0
back (plain a b ∷ ps) [] o m s e = never e.0
back (plain a b ∷ ps) (x ∷ xs) o m s e =
    let r : Each (low_stands ps (low_pack ps xs)) × (low_says ps (low_pack ps xs) ≡ xs) = back ps xs (suc b) m s.2 e.1 in
    let k : x < 2 ^ width a b = lt_of_le_ones (width a b) (leb-true x (2 ^ width a b - 1) e.0) in
    (rw (high (low_pack ps xs) (width a b) k) r.0, rw (high (low_pack ps xs) (width a b) k, low (low_pack ps xs) (width a b) k, r.1))
back (scaled a b u ∷ ps) [] o m s e = never e.0
back (scaled a b u ∷ ps) (x ∷ xs) o m s e =
    let r : Each (low_stands ps (low_pack ps xs)) × (low_says ps (low_pack ps xs) ≡ xs) = back ps xs (suc b) m s.2 e.1.1 in
    let k : x / u < 2 ^ width a b =
    lt_of_le_ones (width a b) (div-le_of_le-mul u (rw mul_comm (leb-true x ((2 ^ width a b - 1) * u) e.1.0))) in
    let q : x / u * u ≡ x = omega (arith, div-add-mod' x u, eqb-true (x % u) 0 e.0) in
    (rw (high (low_pack ps xs) (width a b) k) r.0, rw (high (low_pack ps xs) (width a b) k, low (low_pack ps xs) (width a b) k, r.1, q))
back (fixed a b v ∷ ps) xs o m s e =
    let r : Each (low_stands ps (low_pack ps xs)) × (low_says ps (low_pack ps xs) ≡ xs) = back ps xs (suc b) m s.2 e in
    let k : v < 2 ^ width a b = s.3 in (
      (eq-eqb _ v (low (low_pack ps xs) (width a b) k), rw (high (low_pack ps xs) (width a b) k) r.0),
      rw (high (low_pack ps xs) (width a b) k) r.1,
    )

-- a layout ends at its size
ends : (ps : List Part) (o m : ℕ) → Sound o m ps → o ≤ m
ends [] o m s = omega arith
ends (plain a b ∷ ps) o m s = let k : suc b ≤ m = ends ps (suc b) m s.2 in omega (arith, s.0, s.1)
ends (scaled a b u ∷ ps) o m s = let k : suc b ≤ m = ends ps (suc b) m s.2 in omega (arith, s.0, s.1)
ends (fixed a b v ∷ ps) o m s = let k : suc b ≤ m = ends ps (suc b) m s.2 in omega (arith, s.0, s.1)

-- what is left of a word past its first part has room in the other parts
room : (ps : List Part) (a b o m n : ℕ) → o ≡ a → suc b ≡ a + width a b → Sound (suc b) m ps → n < 2 ^ (m - o) → n / 2 ^ width a b < 2 ^ (m - suc b)
room ps a b o m n p q s h =
    let k : suc b ≤ m = ends ps (suc b) m s in
    let e : m - o ≡ m - suc b + width a b = omega arith in
    shr_lt (m - suc b) (width a b) (rw e at h)

-- a word taken apart and packed again
forth : (ps : List Part) (o m n : ℕ) → Sound o m ps → n < 2 ^ (m - o) → Each (low_stands ps n)
    → Each (ranges ps (low_says ps n)) × (low_pack ps (low_says ps n) ≡ n)
forth [] o m n s h e = (tt, sym (lt-one (rw (s, sub_self m) at h)))
forth (plain a b ∷ ps) o m n s h e =
    let r : Each (ranges ps (low_says ps (n / 2 ^ width a b))) × (low_pack ps (low_says ps (n / 2 ^ width a b)) ≡ n / 2 ^ width a b) =
    forth ps (suc b) m (n / 2 ^ width a b) s.2 (room ps a b o m n s.0 s.1 s.2 h) e in
    ((le-leb (n % 2 ^ width a b) (2 ^ width a b - 1) (le_ones (width a b) (mod-lt n (pow_pos (width a b)))), r.0), rw r.1 (split n (width a b)))
forth (scaled a b u ∷ ps) o m n s h e =
    let r : Each (ranges ps (low_says ps (n / 2 ^ width a b))) × (low_pack ps (low_says ps (n / 2 ^ width a b)) ≡ n / 2 ^ width a b) =
    forth ps (suc b) m (n / 2 ^ width a b) s.2 (room ps a b o m n s.0 s.1 s.2 h) e in (
      (
        eq-eqb (n % 2 ^ width a b * u % u) 0 (mul-mod_left (n % 2 ^ width a b) u),
        (
          le-leb (n % 2 ^ width a b * u) ((2 ^ width a b - 1) * u) (mul-le-mul_right u (le_ones (width a b) (mod-lt n (pow_pos (width a b))))),
          r.0,
        ),
      ),
      rw (r.1, mul-div_cancel (n % 2 ^ width a b) s.3) (split n (width a b)),
    )
forth (fixed a b v ∷ ps) o m n s h e =
    let r : Each (ranges ps (low_says ps (n / 2 ^ width a b))) × (low_pack ps (low_says ps (n / 2 ^ width a b)) ≡ n / 2 ^ width a b) =
    forth ps (suc b) m (n / 2 ^ width a b) s.2 (room ps a b o m n s.0 s.1 s.2 h) e.1 in
    (r.0, rw (r.1, ← eqb-true (n % 2 ^ width a b) v e.0) (split n (width a b)))

-- numbers in range are at most the largest of their parts
abbrev pub Inside : List Part → List ℕ → Type 0
Inside [] xs = Unit
Inside (plain a b ∷ ps) [] = Unit
Inside (plain a b ∷ ps) (x ∷ xs) = (x ≤ 2 ^ width a b - 1) × Inside ps xs
Inside (scaled a b u ∷ ps) [] = Unit
Inside (scaled a b u ∷ ps) (x ∷ xs) = (x ≤ (2 ^ width a b - 1) * u) × Inside ps xs
Inside (fixed a b v ∷ ps) xs = Inside ps xs

inside : (ps : List Part) (xs : List ℕ) → Each (ranges ps xs) → Inside ps xs
inside [] xs e = tt
inside (plain a b ∷ ps) [] e = tt
inside (plain a b ∷ ps) (x ∷ xs) e = (leb-true x (2 ^ width a b - 1) e.0, inside ps xs e.1)
inside (scaled a b u ∷ ps) [] e = tt
inside (scaled a b u ∷ ps) (x ∷ xs) e = (leb-true x ((2 ^ width a b - 1) * u) e.1.0, inside ps xs e.1.1)
inside (fixed a b v ∷ ps) xs e = inside ps xs e

pub within : (ps : List Part) (xs : List ℕ) → all (ranges ps xs) ≡ true → Inside ps xs
within ps xs h = inside ps xs (each (ranges ps xs) h)

-- the word of a whole layout is packed from bit 0
whole : (ps : List Part) (xs : List ℕ) (m : ℕ) → Sound 0 m ps → pack ps xs ≡ low_pack ps xs
whole ps xs m s = pack_low ps xs 0 m s ∙ mul-one (low_pack ps xs)

-- THE LAWS. The word of numbers in range has its fixed parts, and says the numbers
pub packed : (m : ℕ) (ps : List Part) (xs : List ℕ) → tiles 0 m ps ≡ true → all (ranges ps xs) ≡ true
    → (all (stands ps (pack ps xs)) ≡ true) × (says ps (pack ps xs) ≡ xs)
packed m ps xs t h =
    let s : Sound 0 m ps = sound 0 m ps t in
    let r : Each (low_stands ps (low_pack ps xs)) × (low_says ps (low_pack ps xs) ≡ xs) = back ps xs 0 m s (each (ranges ps xs) h) in (
      rw (stands_low ps 0 m (pack ps xs) s, whole ps xs m s, div-one (low_pack ps xs)) (all_of (low_stands ps (low_pack ps xs)) r.0),
      rw (says_low ps 0 m (pack ps xs) s, whole ps xs m s, div-one (low_pack ps xs)) r.1,
    )

-- what a word says, if its fixed parts stand, is in range, and the word is its word
pub unpacked : (m : ℕ) (ps : List Part) (n : ℕ) → tiles 0 m ps ≡ true → n < 2 ^ m → all (stands ps n) ≡ true
    → (all (ranges ps (says ps n)) ≡ true) × (pack ps (says ps n) ≡ n)
unpacked m ps n t b h =
    let s : Sound 0 m ps = sound 0 m ps t in
    let g : all (low_stands ps n) ≡ true = rw (stands_low ps 0 m n s, div-one n) at h in
    let r : Each (ranges ps (low_says ps n)) × (low_pack ps (low_says ps n) ≡ n) = forth ps 0 m n s (rw (sub-zero m) b) (each (low_stands ps n) g) in (
      rw (says_low ps 0 m n s, div-one n) (all_of (ranges ps (low_says ps n)) r.0),
      rw (says_low ps 0 m n s, div-one n) (whole ps (low_says ps n) m s ∙ r.1),
    )
