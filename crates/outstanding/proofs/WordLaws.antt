-- Bits of words: which of them a word has once one is set, or once words are joined; and which word is whose. Assumes nothing.
use Prim.Native.Nat.{ℕ, zero, suc, ◌-◌, ◌/◌, ◌%◌, ◌^◌, ◌<◌, max}
use mathlib.Core.Path.{◌≡◌, refl, sym, ap, ◌∙◌, subst}
use mathlib.Core.Bool.{true, false, ◌||◌}
use mathlib.Core.List.{List, [], ◌∷◌}
use mathlib.Core.Logic.{◌⊎◌, inl, inr}
use native.Mathlib.Omega.{arith}
use lib.Bits.{bit_or}
use Rattle.std.proofs.lemmas.Nat.Bits.{bit_at_or, bit_at-zero, bit_at-lt, bit_at-pow_same, bit_at-pow_other}
use lib.Dec.{ltb, eqb}
use lib.ListN.{get_or, length}
use lib.Seq.{get_or-set_same, get_or-set_other}
use borrow.Author.Tests.{ltb-true, ltb-false, eqb-true, eqb-false}
use Rattle.laws.proofs.BoolLaws.{bool, clash, or_cases, or_left, or_right}
use Rattle.statement.specs.declared.Transfer.{Transfer}
use Rattle.statement.specs.declared.Transfer.TheVariants.{Load, Store}
use Rattle.std.specs.Prelude.{fold}
use Rattle.outstanding.specs.declared.Outstanding.{Outstanding}
use Rattle.outstanding.specs.Words.{word_of, bit_at, marked, begun, waited, slots_of}

-- ---- bits
or-one : (p q : ℕ) → p < 2 → q < 2 → eqb (max p q) 1 ≡ eqb p 1 || eqb q 1
or-one zero zero a b = refl
or-one zero (suc zero) a b = refl
or-one (suc zero) zero a b = refl
or-one (suc zero) (suc zero) a b = refl
or-one p (suc (suc q)) a b = absurd (omega (arith, b))
or-one (suc (suc p)) q a b = absurd (omega (arith, a))

-- words joined have the bits of both
pub or-bit : (a b i : ℕ) → bit_at (bit_or a b) i ≡ bit_at a i || bit_at b i
or-bit a b i = ap (λ x. eqb x 1) (bit_at_or a b i) ∙ or-one (a / 2 ^ i % 2) (b / 2 ^ i % 2) (bit_at-lt a i) (bit_at-lt b i)

pub zero_bit : (i : ℕ) → bit_at 0 i ≡ false
zero_bit i = ap (λ x. eqb x 1) (bit_at-zero i)

-- a power of two has one
pub power_bit : (i j : ℕ) → bit_at (2 ^ i) j ≡ eqb i j
power_bit i j = at (bool (eqb i j))
  where
    at : (eqb i j ≡ true) ⊎ (eqb i j ≡ false) → bit_at (2 ^ i) j ≡ eqb i j
    at (inl e) = subst (λ k. bit_at (2 ^ i) k ≡ true) (eqb-true i j e) (ap (λ x. eqb x 1) (bit_at-pow_same i)) ∙ sym e
    at (inr e) = ap (λ x. eqb x 1) (bit_at-pow_other i j (λ z. eqb-false i j e (sym z))) ∙ sym e

-- ---- whose word it is
pub word_below : (x : Transfer) (w : ℕ) → w < 4 → word_of x w < 8
word_below Load w h = omega (arith, h)
word_below Store w h = omega (arith, h)

-- one word for each of two transfers and four warps
pub which : (x y : Transfer) (w v : ℕ) → w < 4 → v < 4 → ((y ≡ x) × (v ≡ w)) ⊎ (word_of y v ≡ word_of x w → ⊥)
which x y w v p q = at (bool (eqb v w)) x y
  where
    at : (eqb v w ≡ true) ⊎ (eqb v w ≡ false) → (x y : Transfer) → ((y ≡ x) × (v ≡ w)) ⊎ (word_of y v ≡ word_of x w → ⊥)
    at (inl e) Load Load = inl (refl, eqb-true v w e)
    at (inr e) Load Load = inr (λ z. eqb-false v w e z)
    at e Load Store = inr (λ z. absurd (omega (arith, z, p)))
    at e Store Load = inr (λ z. absurd (omega (arith, z, q)))
    at (inl e) Store Store = inl (refl, eqb-true v w e)
    at (inr e) Store Store = inr (λ z. eqb-false v w e (omega (arith, z)))

-- the transfer and the warp of a word
pub whose : (k : ℕ) → k < 8 → (x : Transfer) × ((w : ℕ) × (w < 4) × (word_of x w ≡ k))
whose k h = at (bool (ltb k 4))
  where
    at : (ltb k 4 ≡ true) ⊎ (ltb k 4 ≡ false) → (x : Transfer) × ((w : ℕ) × (w < 4) × (word_of x w ≡ k))
    at (inl e) = (Load, (k, ltb-true k 4 e, refl))
    at (inr e) = let b = ltb-false k 4 e in (Store, (k - 4, omega (arith, h), omega (arith, b)))

-- ---- a bit set, and a word cleared
module _ (o : Outstanding) (x : Transfer) (w : ℕ) (size : length o.words ≡ 8) (h : w < 4) where
  inside : word_of x w < length o.words
  inside = omega (arith, size, word_below x w h)

  pub begun_same : (i j : ℕ) → marked (begun o x w i) x w j ≡ marked o x w j || eqb i j
  unfolding marked begun
  begun_same i j =
      ap (λ word. bit_at word j) (get_or-set_same o.words (word_of x w) (bit_or (get_or o.words (word_of x w) 0) (2 ^ i)) 0 inside)
      ∙ or-bit (get_or o.words (word_of x w) 0) (2 ^ i) j
      ∙ ap (λ b. bit_at (get_or o.words (word_of x w) 0) j || b) (power_bit i j)

  pub begun_other : (y : Transfer) (v i j : ℕ) → (word_of y v ≡ word_of x w → ⊥) → marked (begun o x w i) y v j ≡ marked o y v j
  unfolding marked begun
  begun_other y v i j e = ap (λ word. bit_at word j) (get_or-set_other o.words (word_of x w) (word_of y v) (bit_or (get_or o.words (word_of x w) 0) (2 ^ i)) 0 e)

  pub waited_same : (j : ℕ) → marked (waited o x w) x w j ≡ false
  unfolding marked waited
  waited_same j = ap (λ word. bit_at word j) (get_or-set_same o.words (word_of x w) 0 0 inside) ∙ zero_bit j

  pub waited_other : (y : Transfer) (v j : ℕ) → (word_of y v ≡ word_of x w → ⊥) → marked (waited o x w) y v j ≡ marked o y v j
  unfolding marked waited
  waited_other y v j e = ap (λ word. bit_at word j) (get_or-set_other o.words (word_of x w) (word_of y v) 0 0 e)

-- ---- all words joined
joined : (words : List ℕ) (a i : ℕ) → bit_at (fold bit_or a words) i ≡ true → (bit_at a i ≡ true) ⊎ ((k : ℕ) × (k < length words) × (bit_at (get_or words k 0) i ≡ true))
joined [] a i e = inl e
joined (w ∷ words) a i e = at (joined words (bit_or a w) i e)
  where
    new : (bit_at a i ≡ true) ⊎ (bit_at w i ≡ true) → (bit_at a i ≡ true) ⊎ ((k : ℕ) × (k < suc (length words)) × (bit_at (get_or (w ∷ words) k 0) i ≡ true))
    new (inl f) = inl f
    new (inr f) = inr (0, omega arith, f)

    at : (bit_at (bit_or a w) i ≡ true) ⊎ ((k : ℕ) × (k < length words) × (bit_at (get_or words k 0) i ≡ true))
        → (bit_at a i ≡ true) ⊎ ((k : ℕ) × (k < suc (length words)) × (bit_at (get_or (w ∷ words) k 0) i ≡ true))
    at (inl f) = new (or_cases (bit_at a i) (bit_at w i) (sym (or-bit a w i) ∙ f))
    at (inr r) = inr (suc r.0, omega (arith, r.1), r.2)

in_start : (words : List ℕ) (a i : ℕ) → bit_at a i ≡ true → bit_at (fold bit_or a words) i ≡ true
in_start [] a i e = e
in_start (w ∷ words) a i e = in_start words (bit_or a w) i (or-bit a w i ∙ or_left (bit_at a i) (bit_at w i) e)

in_join : (words : List ℕ) (a i k : ℕ) → k < length words → bit_at (get_or words k 0) i ≡ true → bit_at (fold bit_or a words) i ≡ true
in_join [] a i k h e = absurd (omega arith)
in_join (w ∷ words) a i zero h e = in_start words (bit_or a w) i (or-bit a w i ∙ or_right (bit_at a i) (bit_at w i) e)
in_join (w ∷ words) a i (suc k) h e = in_join words (bit_or a w) i k (omega (arith, h)) e

module _ (o : Outstanding) (i : ℕ) (size : length o.words ≡ 8) where
  pub slot-marked : bit_at (slots_of o) i ≡ true → (x : Transfer) × ((w : ℕ) × (w < 4) × (marked o x w i ≡ true))
  unfolding marked slots_of
  slot-marked e = at (joined o.words 0 i e)
    where
      at : (bit_at 0 i ≡ true) ⊎ ((k : ℕ) × (k < length o.words) × (bit_at (get_or o.words k 0) i ≡ true)) → (x : Transfer) × ((w : ℕ) × (w < 4) × (marked o x w i ≡ true))
      at (inl f) = absurd (clash f (zero_bit i))
      at (inr j) =
          let s = whose j.0 (omega (arith, j.1, size)) in
          (s.0, (s.1.0, s.1.1, subst (λ k. bit_at (get_or o.words k 0) i ≡ true) (sym s.1.2) j.2))

  pub marked-slot : (x : Transfer) (w : ℕ) → w < 4 → marked o x w i ≡ true → bit_at (slots_of o) i ≡ true
  unfolding marked slots_of
  marked-slot x w h e = in_join o.words 0 i (word_of x w) (omega (arith, word_below x w h, size)) e
