-- The digits of a number without the zeros that lead, as a loop finds them from the back: one law for bytes and for decimal digits. Assumes nothing.
use Prim.Native.Nat.{ℕ, zero, suc, ◌+◌, ◌-◌, ◌*◌, ◌/◌, ◌%◌, ◌^◌, ◌<◌, ◌≤◌}
use native.Mathlib.Omega.{arith}
use mathlib.Core.Path.{◌≡◌, refl, sym, ap, ◌∙◌}
use mathlib.Core.List.{List, [], ◌∷◌, ◌++◌, append_assoc, append-nil}
use mathlib.Core.Bool.{Bool, true, false, cond}
use lib.ListN.{length, take, drop, set, length-append, drop_of_length-le}
use lib.Seq.{take-take, take-set-le}
use lib.Dec.{eqb}
use borrow.Author.Tests.{eq-eqb, ne_eqb, eqb-true, eqb-false}
use Rattle.laws.proofs.StoreLaws.{drop-set}
use Rattle.tokens.specs.Text.{byte}
use Rattle.tokens.specs.Names.{low_bytes, strip}
use Rattle.tokens.specs.Numbers.{low_digits, trimmed, decimal}

abbrev pub power : ℕ → ℕ → ℕ
power base zero = 1
power base (suc k) = base * power base k

-- the n low digits of v, the highest first: r gives the last digit, q what is before it
abbrev low : (q r : ℕ → ℕ) → ℕ → ℕ → List ℕ
low q r zero v = []
low q r (suc n) v = low q r n (q v) ++ r v ∷ []

-- without the z that lead
abbrev lead : ℕ → List ℕ → List ℕ
lead z [] = []
lead z (x ∷ l) = cond (eqb x z) (lead z l) (x ∷ l)

-- the digits of v, none for 0; at most k of them
abbrev pub short : (q r : ℕ → ℕ) → ℕ → ℕ → List ℕ
short q r zero v = []
short q r (suc k) v = cond (eqb v 0) [] (short q r k (q v) ++ r v ∷ [])

pub short_none : (q r : ℕ → ℕ) (k : ℕ) → short q r k 0 ≡ []
short_none q r zero = refl
short_none q r (suc k) = refl

pub short_some : (q r : ℕ → ℕ) (k v : ℕ) → (v ≡ 0 → ⊥) → short q r (suc k) v ≡ short q r k (q v) ++ r v ∷ []
short_some q r k v h = rw (ne_eqb v 0 h)

lead_same : (z : ℕ) (w : List ℕ) → lead z (z ∷ w) ≡ lead z w
lead_same z w = rw (eq-eqb z z refl)

lead_other : (x z : ℕ) (w : List ℕ) → (x ≡ z → ⊥) → lead z (x ∷ w) ≡ x ∷ w
lead_other x z w h = rw (ne_eqb x z h)

keeps_by : (b : Bool) (x : ℕ) (m l w k : List ℕ) → (0 < length m → k ≡ m ++ w) → 0 < length (cond b m (x ∷ l)) → cond b k (x ∷ (l ++ w)) ≡ cond b m (x ∷ l) ++ w
keeps_by true x m l w k f g = f g
keeps_by false x m l w k f g = refl

lead_keeps : (z : ℕ) (l w : List ℕ) → 0 < length (lead z l) → lead z (l ++ w) ≡ lead z l ++ w
lead_keeps z [] w h = absurd (omega arith)
lead_keeps z (x ∷ l) w h = keeps_by (eqb x z) x (lead z l) l w (lead z (l ++ w)) (lead_keeps z l w) h

module _ (q r : ℕ → ℕ) (z base : ℕ) (q0 : q 0 ≡ 0) (r0 : r 0 ≡ z) (none : (v : ℕ) → q v ≡ 0 → r v ≡ z → v ≡ 0) (less : (v m : ℕ) → v < base * m → q v < m) where
  zeros : (k : ℕ) (w : List ℕ) → lead z (low q r k 0 ++ w) ≡ lead z w
  zeros zero w = refl
  zeros (suc k) w = rw (q0, r0, append_assoc (low q r k 0) (z ∷ []) w) (zeros k (z ∷ w) ∙ lead_same z w)

  some : (k v : ℕ) → (v ≡ 0 → ⊥) → v < power base k → 0 < length (short q r k v)
  some zero v p h = absurd (p (omega arith))
  some (suc k) v p h = rw (short_some q r k v p) (omega (arith, length-append (short q r k (q v)) (r v ∷ [])))

  last_by : (k v : ℕ) (b : Bool) → (v ≡ 0 → ⊥) → q v < power base k → lead z (low q r k (q v)) ≡ short q r k (q v) → eqb (q v) 0 ≡ b → lead z (low q r k (q v) ++ r v ∷ []) ≡ short q r k (q v) ++ r v ∷ []
  last_by k v true p h i e =
      let g : q v ≡ 0 = eqb-true (q v) 0 e in
      rw (g, short_none q r k, zeros k (r v ∷ [])) (lead_other (r v) z [] (λ s. p (none v g s)))
  last_by k v false p h i e =
      let g : 0 < length (lead z (low q r k (q v))) = rw i (some k (q v) (eqb-false (q v) 0 e) h) in
      lead_keeps z (low q r k (q v)) (r v ∷ []) g ∙ ap (λ l. l ++ r v ∷ []) i

  step_by : (k v : ℕ) (b : Bool) → q v < power base k → lead z (low q r k (q v)) ≡ short q r k (q v) → eqb v 0 ≡ b → lead z (low q r k (q v) ++ r v ∷ []) ≡ cond b [] (short q r k (q v) ++ r v ∷ [])
  step_by k v true h i e =
      let g : v ≡ 0 = eqb-true v 0 e in
      rw (g, q0, r0, zeros k (z ∷ [])) (lead_same z [])
  step_by k v false h i e = last_by k v (eqb (q v) 0) (eqb-false v 0 e) h i refl

  -- the digits without the zeros that lead
  lead_low : (k v : ℕ) → v < power base k → lead z (low q r k v) ≡ short q r k v
  lead_low zero v h = refl
  lead_low (suc k) v h = step_by k v (eqb v 0) (less v (power base k) h) (lead_low k (q v) (less v (power base k) h)) refl

-- one digit more, from the back
pub digit_step : (q r : ℕ → ℕ) (out : List ℕ) (i w : ℕ) → 0 < i → i ≤ length out → (w ≡ 0 → ⊥) → short q r (i - 1) (q w) ++ drop (i - 1) (set out (i - 1) (r w)) ≡ short q r i w ++ drop i out
digit_step q r out zero w p h n = absurd (omega arith)
digit_step q r out (suc i) w p h n =
    let e : suc i - 1 ≡ i = omega arith in
    rw (e, drop-set out i (r w) h, short_some q r i w n, append_assoc (short q r i (q w)) (r w ∷ []) (drop (suc i) out))

-- the places before it stay
pub kept_step : (out first : List ℕ) (i x : ℕ) → take i out ≡ take i first → take (i - 1) (set out (i - 1) x) ≡ take (i - 1) first
kept_step out first i x h =
    take-set-le (i - 1) out (i - 1) x (omega arith) ∙ sym (take-take (i - 1) i out (omega arith)) ∙ ap (take (i - 1)) h ∙ take-take (i - 1) i first (omega arith)

-- no digit left
pub digit_end : (q r : ℕ → ℕ) (out : List ℕ) (i w : ℕ) → w ≡ 0 → short q r i w ++ drop i out ≡ drop i out
digit_end q r out i w h = rw (h, short_none q r i)

-- what is left is below the next power down
pub power_step : (base i w : ℕ) (q : ℕ → ℕ) → ((v m : ℕ) → v < base * m → q v < m) → (w ≡ 0 → ⊥) → w < power base i → (0 < i) × (q w < power base (i - 1))
power_step base zero w q less n h = absurd (n (omega arith))
power_step base (suc i) w q less n h = let e : suc i - 1 ≡ i = omega arith in (omega arith, rw e (less w (power base i) h))

-- ---- bytes
abbrev pub q256 : ℕ → ℕ
q256 v = v / 256

abbrev pub r256 : ℕ → ℕ
r256 v = v % 256

pub less256 : (v m : ℕ) → v < 256 * m → v / 256 < m
less256 v m h = omega arith

low_bytes_lem : (k v : ℕ) → low_bytes k v ≡ low q256 r256 k v
unfolding low_bytes
low_bytes_lem zero v = refl
low_bytes_lem (suc k) v = rw (low_bytes_lem k (v / 256))

strip_lead : (l : List ℕ) → strip l ≡ lead 0 l
unfolding strip
strip_lead [] = refl
strip_lead (x ∷ l) = rw (strip_lead l)

pub bytes_law : (k v : ℕ) → v < power 256 k → strip (low_bytes k v) ≡ short q256 r256 k v
bytes_law k v h = strip_lead (low_bytes k v) ∙ ap (lead 0) (low_bytes_lem k v) ∙ lead_low q256 r256 0 256 refl refl (λ v a b. omega arith) less256 k v h

-- ---- decimal digits
abbrev pub q10 : ℕ → ℕ
q10 v = v / 10

abbrev pub r10 : ℕ → ℕ
r10 v = byte "0" + v % 10

pub less10 : (v m : ℕ) → v < 10 * m → v / 10 < m
less10 v m h = omega arith

low_digits_lem : (k v : ℕ) → low_digits k v ≡ low q10 r10 k v
unfolding low_digits
low_digits_lem zero v = refl
low_digits_lem (suc k) v = rw (low_digits_lem k (v / 10))

trimmed_last : (l : List ℕ) (x : ℕ) → trimmed (l ++ x ∷ []) ≡ lead (byte "0") l ++ x ∷ []
unfolding trimmed
trimmed_last [] x = refl
trimmed_last (y ∷ []) x = by (eqb y (byte "0"))
  where
    by : (b : Bool) → cond b (x ∷ []) (y ∷ (x ∷ [])) ≡ cond b [] (y ∷ []) ++ x ∷ []
    by true = refl
    by false = refl
trimmed_last (y ∷ (u ∷ l)) x = by (eqb y (byte "0")) (trimmed_last (u ∷ l) x)
  where
    by : (b : Bool) → trimmed (u ∷ (l ++ x ∷ [])) ≡ lead (byte "0") (u ∷ l) ++ x ∷ [] → cond b (trimmed (u ∷ (l ++ x ∷ []))) (y ∷ (u ∷ (l ++ x ∷ []))) ≡ cond b (lead (byte "0") (u ∷ l)) (y ∷ (u ∷ l)) ++ x ∷ []
    by true e = e
    by false e = refl

pub decimal_law : (v : ℕ) → v < 2 ^ 64 → decimal v ≡ short q10 r10 19 (v / 10) ++ (byte "0" + v % 10) ∷ []
unfolding decimal low_digits
decimal_law v h =
    let g : v / 10 < power 10 19 = omega arith in
    trimmed_last (low_digits 19 (v / 10)) (byte "0" + v % 10) ∙ ap (λ l. lead (byte "0") l ++ (byte "0" + v % 10) ∷ []) (low_digits_lem 19 (v / 10)) ∙ ap (λ l. l ++ (byte "0" + v % 10) ∷ []) (lead_low q10 r10 (byte "0") 10 refl refl (λ v a b. omega arith) less10 19 (v / 10) g)

-- ---- where the loops begin
pub bytes-start : (out : List ℕ) (v : ℕ) → length out ≡ 8 → v < 2 ^ 64 → short q256 r256 8 v ++ drop 8 out ≡ strip (low_bytes 8 v)
bytes-start out v e h =
    let g : length out ≤ 8 = omega arith in
    let d : drop 8 out ≡ [] = drop_of_length-le out g in
    ap (λ l. short q256 r256 8 v ++ l) d ∙ append-nil (short q256 r256 8 v) ∙ sym (bytes_law 8 v h)

pub digits_start : (out : List ℕ) (v : ℕ) → length out ≡ 20 → v < 2 ^ 64 → short q10 r10 19 (v / 10) ++ drop 19 (set out 19 (byte "0" + v % 10)) ≡ decimal v
digits_start out v e h =
    let g : length out ≤ 20 = omega arith in
    let d : drop 20 out ≡ [] = drop_of_length-le out g in
    rw (drop-set out 19 (byte "0" + v % 10) (omega arith), d) (sym (decimal_law v h))
