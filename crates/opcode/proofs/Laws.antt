-- Laws of words taken off the start of a text. Assumes nothing.
use Rattle.std.proofs.Common.{◌≡◌, ℕ, ◌+◌, ◌<◌, ◌≤◌, List, [], ◌∷◌, ◌++◌, Bool, true, false, cond, eqb, Option, Some, None, length, drop, refl, ◌∙◌}
use native.Mathlib.Numerals.{add-one}
use native.Mathlib.Omega.{arith}
use lib.ListN.{get_or}
use lib.Seq.{drop-cons, drop-length}
use Rattle.std.specs.Option.{option_and_then}
use borrow.Author.Tests.{eq-eqb, eqb-true}
use Rattle.opcode.specs.Pieces.{without}

-- a text that starts with p, without it
pub without_self : (p r : List ℕ) → without p (p ++ r) ≡ Some r
unfolding without
without_self [] r = refl
without_self (x ∷ p) r = rw (eq-eqb x x refl) (without_self p r)

-- what is left, after p, is the text
pub without_is : (p s r : List ℕ) → without p s ≡ Some r → s ≡ p ++ r
unfolding without
without_is [] s r h = search h
without_is (x ∷ p) [] r h = search h
without_is (x ∷ p) (y ∷ s) r h = by (eqb y x) refl (without_is p s r) h
  where
    by : (b : Bool) → eqb y x ≡ b → (without p s ≡ Some r → s ≡ p ++ r) → cond b (without p s) None ≡ Some r → y ∷ s ≡ x ∷ (p ++ r)
    by true e f k = rw (eqb-true y x e, ← f k)
    by false e f k = search k

-- two words, one after the other
pub without_both : (p q s : List ℕ) → without (p ++ q) s ≡ option_and_then (without q) (without p s)
unfolding without
without_both [] q s = refl
without_both (x ∷ p) q [] = refl
without_both (x ∷ p) q (y ∷ s) = by (eqb y x) (without_both p q s)
  where
    by : (b : Bool) → without (p ++ q) s ≡ option_and_then (without q) (without p s) → cond b (without (p ++ q) s) None ≡ option_and_then (without q) (cond b (without p s) None)
    by true e = e
    by false e = refl

-- the first is there
pub without_some : (p q s t : List ℕ) → Some t ≡ without p s → without (p ++ q) s ≡ without q t
without_some p q s t e = without_both p q s ∙ rw (← e)

-- the first is not there
pub without_none : (p q s : List ℕ) → None ≡ without p s → without (p ++ q) s ≡ None
without_none p q s e = without_both p q s ∙ rw (← e)

-- too short a text does not start with p
pub without_short : (p s : List ℕ) → length s < length p → without p s ≡ None
unfolding without
without_short [] s h = absurd (omega arith)
without_short (x ∷ p) [] h = refl
without_short (x ∷ p) (y ∷ s) h = by (eqb y x) (without_short p s (omega arith))
  where
    by : (b : Bool) → without p s ≡ None → cond b (without p s) None ≡ None
    by true e = e
    by false e = refl

-- the loop: one byte more
pub without_step : (p s : List ℕ) (i : ℕ) → i < length p → i < length s
    → without (drop i p) (drop i s) ≡ cond (eqb (get_or s i 0) (get_or p i 0)) (without (drop (i + 1) p) (drop (i + 1) s)) None
unfolding without
without_step p s i hp hs = rw (add-one, drop-cons p i 0 hp, drop-cons s i 0 hs)

-- no byte is left of p
pub without_end : (p s : List ℕ) (i : ℕ) (b : Bool) (r : Option (List ℕ)) → i ≤ length p → length p ≤ i → cond b (without (drop i p) (drop i s)) None ≡ r → cond b (Some (drop (length p) s)) None ≡ r
unfolding without
without_end p s i b r l h k =
    let e : i ≡ length p = omega arith in
    rw (e, drop-length p) at k
