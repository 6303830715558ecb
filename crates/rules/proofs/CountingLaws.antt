-- Laws of counting and of the least number: each is an induction on how far one counts. Assumes nothing.
use Prim.Native.Nat.{ℕ, zero, suc, ◌+◌, ◌-◌, ◌≤◌, ◌<◌, min}
use mathlib.Core.Path.{◌≡◌, refl}
use mathlib.Core.Bool.{Bool, true, false, ◌&&◌, ◌||◌, cond}
use mathlib.Core.Logic.{◌⊎◌, inl, inr}
use native.Mathlib.Omega.{arith}
use lib.Dec.{leb, ltb, eqb}
use borrow.Author.Tests.{eqb-true, eqb-false, ltb-true, ltb-false, leb-true, leb-false}
use Rattle.laws.proofs.BoolLaws.{and_l, and_r, bool}
use Rattle.rules.specs.Counting.{count, every, least}

-- ---- counting
both : (a b : Bool) (x y z : ℕ) → (a ≡ true → b ≡ true → ⊥) → z ≡ x + y → cond (a || b) 1 0 + z ≡ cond a 1 0 + x + (cond b 1 0 + y)
both true true x y z h e = absurd (h refl refl)
both true false x y z h e = omega arith
both false true x y z h e = omega arith
both false false x y z h e = omega arith

-- a count of either is the sum of the counts, where no number passes both
pub count-or : (f g u : ℕ → Bool) (n : ℕ) → ((c : ℕ) → u c ≡ f c || g c) → ((c : ℕ) → f c ≡ true → g c ≡ true → ⊥) → count u n ≡ count f n + count g n
unfolding count
count-or f g u zero e h = refl
count-or f g u (suc n) e h = rw (e n) (both (f n) (g n) (count f n) (count g n) (count u n) (h n) (count-or f g u n e h))

pub count_none : (f : ℕ → Bool) (n : ℕ) → ((c : ℕ) → f c ≡ false) → count f n ≡ 0
unfolding count
count_none f zero h = refl
count_none f (suc n) h = rw (h n) (omega (arith, count_none f n h))

range_step : (a b n : ℕ) (s t : Bool) → leb a n ≡ s → ltb n b ≡ t → a ≤ b → cond (s && t) 1 0 + (min n b - min n a) ≡ min (suc n) b - min (suc n) a
range_step a b n true true p q h = omega (arith, leb-true a n p, ltb-true n b q)
range_step a b n true false p q h = omega (arith, leb-true a n p, ltb-false n b q)
range_step a b n false t p q h = omega (arith, leb-false a n p)

-- a count of the numbers from a up to b
pub count_range : (u : ℕ → Bool) (a b n : ℕ) → ((c : ℕ) → u c ≡ leb a c && ltb c b) → a ≤ b → count u n ≡ min n b - min n a
unfolding count
count_range u a b zero e h = omega arith
count_range u a b (suc n) e h = rw (e n, count_range u a b n e h) (range_step a b n (leb a n) (ltb n b) refl refl h)

-- ---- each of the n numbers from a on
here_or_on : (f : ℕ → Bool) (a c : ℕ) (t : Bool) → eqb a c ≡ t → f a ≡ true → a ≤ c → (suc a ≤ c → f c ≡ true) → f c ≡ true
here_or_on f a c true e h p on = rw (eqb-true a c e) at h
here_or_on f a c false e h p on = on (omega (arith, eqb-false a c e))

pub every-at : (f : ℕ → Bool) (a n c : ℕ) → every f a n ≡ true → a ≤ c → c < a + n → f c ≡ true
unfolding every
every-at f a zero c e p q = absurd (omega arith)
every-at f a (suc n) c e p q =
    here_or_on f a c (eqb a c) refl (and_l (f a) (every f (suc a) n) e) p
    (λ h. every-at f (suc a) n c (and_r (f a) (every f (suc a) n) e) h (omega arith))

pub every-all : (f : ℕ → Bool) (a n : ℕ) → ((c : ℕ) → a ≤ c → c < a + n → f c ≡ true) → every f a n ≡ true
unfolding every
every-all f a zero h = refl
every-all f a (suc n) h = rw (h a (omega arith) (omega arith), every-all f (suc a) n (λ c p q. h c (omega arith) (omega arith)))

-- ---- the least number that passes
least_step : (m n : ℕ) (t s : Bool) → ltb m n ≡ t → m ≤ n → cond t m (cond s n (suc n)) ≤ suc n
least_step m n true s e h = omega arith
least_step m n false true e h = omega arith
least_step m n false false e h = omega arith

pub least-le : (f : ℕ → Bool) (n : ℕ) → least f n ≤ n
unfolding least
least-le f zero = omega arith
least-le f (suc n) = least_step (least f n) n (ltb (least f n) n) (f n) refl (least-le f n)

hit_step : (f : ℕ → Bool) (m n : ℕ) (t s : Bool) → ltb m n ≡ t → f n ≡ s → (m < n → f m ≡ true) → cond t m (cond s n (suc n)) < suc n → f (cond t m (cond s n (suc n))) ≡ true
hit_step f m n true s e g h q = h (ltb-true m n e)
hit_step f m n false true e g h q = g
hit_step f m n false false e g h q = absurd (omega arith)

-- the number found passes
pub least_hit : (f : ℕ → Bool) (n : ℕ) → least f n < n → f (least f n) ≡ true
unfolding least
least_hit f zero q = absurd (omega arith)
least_hit f (suc n) q = hit_step f (least f n) n (ltb (least f n) n) (f n) refl refl (least_hit f n) q

below_step : (f : ℕ → Bool) (m n j : ℕ) (t s : Bool)
    → ltb m n ≡ t → f n ≡ s → m ≤ n → ((i : ℕ) → i < m → f i ≡ false) → j < cond t m (cond s n (suc n)) → f j ≡ false
below_step f m n j true s e g k h q = h j q
below_step f m n j false true e g k h q = h j (omega (arith, ltb-false m n e))
below_step f m n j false false e g k h q = last (bool (eqb j n))
  where
    last : (eqb j n ≡ true) ⊎ (eqb j n ≡ false) → f j ≡ false
    last (inl z) = rw (eqb-true j n z) g
    last (inr z) = h j (omega (arith, ltb-false m n e, eqb-false j n z))

-- and none below it does
pub least-below : (f : ℕ → Bool) (n j : ℕ) → j < least f n → f j ≡ false
unfolding least
least-below f zero j q = absurd (omega arith)
least-below f (suc n) j q = below_step f (least f n) n j (ltb (least f n) n) (f n) refl refl (least-le f n) (least-below f n) q
