-- A packed name is such as reading gives exactly where its halves are: no first half is short before a second one. Assumes nothing.
use Prim.Native.Nat.{ℕ, zero, suc, ◌+◌, ◌-◌, ◌*◌, ◌/◌, ◌%◌, ◌^◌, ◌<◌, ◌≤◌}
use native.Mathlib.Omega.{arith}
use mathlib.Core.Path.{◌≡◌, refl, sym, ap, ◌∙◌}
use mathlib.Core.List.{List, [], ◌∷◌, ◌++◌, append-nil}
use mathlib.Core.Bool.{Bool, true, false, ◌&&◌, ◌||◌, cond, and_assoc, and_comm}
use lib.ListN.{length, get_or, take, drop, length-append, drop_of_length-le}
use lib.Seq.{take_all, take_at, drop_at, take-append-add}
use lib.Dec.{ltb, leb, eqb}
use borrow.Author.Tests.{eq-eqb, ne_eqb, eqb-true, eqb-false}
use Rattle.tokens.specs.declared.Name.{Name}
use Rattle.tokens.specs.Bytes.{letter, word_byte, all}
use Rattle.tokens.specs.Names.{sigil, is_name, byte_digits, packed, low_bytes, strip, name_bytes, name_given}
use Rattle.writer.specs.Outputs.{halves_given}
use Rattle.tokens.proofs.Lengths.{strip_short, low_length}
use Rattle.writer.proofs.Laws.{all_append}
use Rattle.pieces.proofs.DigitLaws.{power, short, q256, r256, less256, bytes_law}

-- ---- `halves`
none_by : (y : List ℕ) → false ≡ halves_given [] y
unfolding halves_given is_name
none_by [] = refl
none_by (x ∷ l) = rw (ne_eqb (suc (length l)) 0 (λ e. absurd (omega arith)))

pub halves_none : (h y : List ℕ) → length h < 1 → false ≡ halves_given h y
halves_none [] y e = none_by y
halves_none (x ∷ h) y e = absurd (omega arith)

some_by : (x : ℕ) (l y : List ℕ) (n : ℕ) → length (l ++ y) ≡ n
    → ((letter x || sigil x && ltb 0 n) && leb n 15) && (all word_byte l && all word_byte y) ≡ is_name (x ∷ (l ++ y))
unfolding is_name
some_by x l y n e = rw (← e, ← all_append word_byte l y) (and_assoc (letter x || sigil x && ltb 0 (length (l ++ y))) (leb (length (l ++ y)) 15) (all word_byte (l ++ y)))

pub halves_some : (h y : List ℕ) (s p q : Bool) → 1 ≤ length h
    → s ≡ ((letter (get_or h 0 0) || sigil (get_or h 0 0) && ltb 0 (length (take (length h - 1) (drop 1 h)) + length y)) && leb (length (take (length h - 1) (drop 1 h)) + length y) 15)
    → p ≡ all word_byte (take (length h - 1) (drop 1 h)) → q ≡ all word_byte y → ((eqb (length h) 8 || eqb (length y) 0) && (s && (p && q))) ≡ halves_given h y
unfolding halves_given
halves_some [] y s p q e es ep eq = absurd (omega arith)
halves_some (x ∷ l) y s p q e es ep eq =
    let t : take (suc (length l) - 1) l ≡ l = take_all (suc (length l) - 1) l (omega arith) in
    rw (es, ep, eq, t, some_by x l y (length l + length y) (length-append l y))

-- ---- packing
append_digits : (v : ℕ) (l m : List ℕ) → byte_digits v (l ++ m) ≡ byte_digits (byte_digits v l) m
append_digits v [] m = refl
append_digits v (x ∷ l) m = append_digits (v * 256 + x) l m

grows : (v : ℕ) (l : List ℕ) → v ≤ byte_digits v l
grows v [] = omega arith
grows v (x ∷ l) = omega (arith, grows (v * 256 + x) l)

-- no zero leads
abbrev Led : List ℕ → Type 0
Led [] = Unit {0}
Led (d ∷ ds) = 0 < d

led_by : (x : ℕ) (l : List ℕ) (b : Bool) → eqb x 0 ≡ b → Led (strip l) → Led (cond b (strip l) (x ∷ l))
led_by x l true e h = h
led_by x l false e h = omega (arith, eqb-false x 0 e)

led : (l : List ℕ) → Led (strip l)
unfolding strip
led [] = tt
led (x ∷ l) = led_by x l (eqb x 0) refl (led l)

short_value : (k v : ℕ) → v < power 256 k → byte_digits 0 (short q256 r256 k v) ≡ v
short_value zero v h = omega arith
short_value (suc k) v h = by (eqb v 0) refl (short_value k (v / 256) (less256 v (power 256 k) h))
  where
    by : (b : Bool) → eqb v 0 ≡ b → byte_digits 0 (short q256 r256 k (v / 256)) ≡ v / 256 → byte_digits 0 (cond b [] (short q256 r256 k (v / 256) ++ (v % 256) ∷ [])) ≡ v
    by true e i = sym (eqb-true v 0 e)
    by false e i = append_digits 0 (short q256 r256 k (v / 256)) ((v % 256) ∷ []) ∙ ap (λ n. n * 256 + v % 256) i ∙ omega arith

-- a number's bytes
half_length : (v : ℕ) → length (strip (low_bytes 8 v)) ≤ 8
half_length v = omega (arith, strip_short (low_bytes 8 v), low_length 8 v)

half_value : (v : ℕ) → v < 2 ^ 64 → byte_digits 0 (strip (low_bytes 8 v)) ≡ v
half_value v h = rw (bytes_law 8 v h) (short_value 8 v h)

-- the packing of both is the name
abbrev Same : List ℕ → List ℕ → ℕ → ℕ → Bool
Same x y hi lo = eqb (byte_digits 0 (take 8 (x ++ y))) hi && eqb (byte_digits 0 (drop 8 (x ++ y))) lo

same_full : (x y : List ℕ) (hi lo : ℕ) → byte_digits 0 x ≡ hi → byte_digits 0 y ≡ lo → length x ≡ 8 → Same x y hi lo ≡ true
same_full x y hi lo p q e = rw (take_at x y 8 e, drop_at x y 8 e, eq-eqb (byte_digits 0 x) hi p, eq-eqb (byte_digits 0 y) lo q)

same_short : (x y : List ℕ) (hi lo : ℕ) → byte_digits 0 x ≡ hi → byte_digits 0 y ≡ lo → Led y → length x < 8 → Same x y hi lo ≡ eqb (length y) 0
same_short x [] hi lo p q d h =
    let g : length x ≤ 8 = omega arith in
    rw (append-nil x, take_all 8 x g, drop_of_length-le x g, eq-eqb (byte_digits 0 x) hi p, eq-eqb 0 lo q)
same_short x (z ∷ y) hi lo p q d h =
    let m = 7 - length x in
    let e : 8 ≡ length x + suc m = omega arith in
    let t : take 8 (x ++ z ∷ y) ≡ x ++ z ∷ take m y = ap (λ n. take n (x ++ z ∷ y)) e ∙ take-append-add x (z ∷ y) (suc m) in
    let v : byte_digits 0 (x ++ z ∷ take m y) ≡ byte_digits (hi * 256 + z) (take m y) = append_digits 0 x (z ∷ take m y) ∙ ap (λ n. byte_digits (n * 256 + z) (take m y)) p in
    let n : byte_digits 0 (take 8 (x ++ z ∷ y)) ≡ hi → ⊥ = λ f. absurd (omega (arith, grows (hi * 256 + z) (take m y), sym v ∙ sym (ap (byte_digits 0) t) ∙ f)) in
    rw (ne_eqb (byte_digits 0 (take 8 (x ++ z ∷ y))) hi n, ne_eqb (suc (length y)) 0 (λ f. absurd (omega arith)))

same : (x y : List ℕ) (hi lo : ℕ) → length x ≤ 8 → byte_digits 0 x ≡ hi → byte_digits 0 y ≡ lo → Led y → Same x y hi lo ≡ (eqb (length x) 8 || eqb (length y) 0)
same x y hi lo h p q d = by (eqb (length x) 8) refl
  where
    by : (b : Bool) → eqb (length x) 8 ≡ b → Same x y hi lo ≡ (b || eqb (length y) 0)
    by true e = same_full x y hi lo p q (eqb-true (length x) 8 e)
    by false e = same_short x y hi lo p q d (omega (arith, eqb-false (length x) 8 e))

pub given_law : (n : Name) → n.hi < 2 ^ 64 → n.lo < 2 ^ 64 → name_given n ≡ halves_given (strip (low_bytes 8 n.hi)) (strip (low_bytes 8 n.lo))
unfolding name_given halves_given name_bytes packed
given_law n a b =
    let x = strip (low_bytes 8 n.hi) in
    let y = strip (low_bytes 8 n.lo) in
    let e : Same x y n.hi n.lo ≡ (eqb (length x) 8 || eqb (length y) 0) = same x y n.hi n.lo (half_length n.hi) (half_value n.hi a) (half_value n.lo b) (led (low_bytes 8 n.lo)) in
    rw e (and_comm (is_name (x ++ y)) (eqb (length x) 8 || eqb (length y) 0))
