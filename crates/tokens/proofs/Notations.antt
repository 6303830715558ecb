-- Laws of the table of notations: each is one law over a row, and what it asks of a row is computed once for all four. Assumes nothing.
use Prim.Native.Nat.{ℕ, suc, ◌+◌, ◌<◌, ◌≤◌}
use native.Mathlib.Omega.{arith}
use native.Mathlib.Decide.{dec_le}
use mathlib.Core.Path.{◌≡◌, refl, sym, ◌∙◌}
use mathlib.Core.Logic.{◌⊎◌, inl, inr, ⊎_elim}
use mathlib.Core.List.{List, [], ◌∷◌}
use mathlib.Core.Bool.{Bool, true, false, ◌&&◌, ◌||◌, cond, and-false}
use lib.ListN.{length, drop}
use lib.Dec.{ltb, leb, eqb}
use borrow.Author.Tests.{eqb-true, lt-leb, le-ltb, ltb-true, leb-true}
use Rattle.laws.proofs.BoolLaws.{never, and_l, and_r, and_split}
use Rattle.laws.proofs.TestLaws.{agree_below, agree_below_lem}
use Rattle.tokens.specs.Text.{bytes}
use Rattle.tokens.specs.Bytes.{letter, word_byte, run_len, all}
use Rattle.tokens.specs.Numbers.{digit_of, among, Notation, hexadecimals, binaries, octals, decimals, notations, begins, row_for, row_of, body, digits_len, ending, spells, is_number}
use Rattle.tokens.proofs.Runs.{run_le}

-- ---- one of some bytes
-- what holds for each of them holds for it
pub among-each : (f : ℕ → Bool) (l : List ℕ) (x : ℕ) → all f l ≡ true → among l x ≡ true → f x ≡ true
among-each f [] x h e = never e
among-each f (y ∷ l) x h e = let p = and_split (f y) (all f l) h in go (eqb x y) refl e p.0 (among-each f l x p.1)
  where
    go : (b : Bool) → eqb x y ≡ b → (b || among l x) ≡ true → f y ≡ true → (among l x ≡ true → f x ≡ true) → f x ≡ true
    go true q e h i = rw (eqb-true x y q) h
    go false q e h i = i e

pub not-among : (f : ℕ → Bool) (l : List ℕ) (x : ℕ) → all f l ≡ true → f x ≡ false → among l x ≡ false
not-among f l x h e = go (among l x) refl
  where
    go : (b : Bool) → among l x ≡ b → b ≡ false
    go true q = never (sym e ∙ among-each f l x h q)
    go false q = refl

-- ---- the digits of a row are the bytes whose value is below its base
abbrev agrees : Notation → Bool
agrees r = agree_below 128 (among r.digits) (λ x. ltb (digit_of x) r.base)

abbrev pub digits_below_lem : Notation → Bool
digits_below_lem r = agrees r && (all (λ x. ltb x 128) r.digits && leb r.base 16)

digit_far : (x : ℕ) → 128 ≤ x → digit_of x ≡ 16
unfolding digit_of
digit_far x h = rw (lt-leb x 57 (omega arith), lt-leb x 70 (omega arith), lt-leb x 102 (omega arith), and-false (leb 48 x), and-false (leb 65 x), and-false (leb 97 x))

pub digits_below : (r : Notation) → digits_below_lem r ≡ true → (x : ℕ) → among r.digits x ≡ ltb (digit_of x) r.base
digits_below r h x =
    let p = and_split (agrees r) (all (λ x. ltb x 128) r.digits && leb r.base 16) h in
    let q = and_split (all (λ x. ltb x 128) r.digits) (leb r.base 16) p.1 in
    go (dec_le 128 x) p.0 q.0 (leb-true r.base 16 q.1)
  where
    go : Dec (128 ≤ x) → agrees r ≡ true → all (λ x. ltb x 128) r.digits ≡ true → r.base ≤ 16 → among r.digits x ≡ ltb (digit_of x) r.base
    go (yes far) h k b = rw (not-among (λ x. ltb x 128) r.digits x k (le-ltb x 128 far), digit_far x far, le-ltb 16 r.base b)
    go (no near) h k b = agree_below_lem 128 (among r.digits) (λ y. ltb (digit_of y) r.base) h x (omega arith)

-- ---- the row of a token
-- what is computed of each row
abbrev pub each : (Notation → Bool) → List Notation → Bool
each f [] = true
each f (r ∷ rows) = f r && each f rows

module _ (P : Notation → Bool) (last : P decimals ≡ true) (w : List ℕ) where
  row_in : (rows : List Notation) → each P rows ≡ true → (begins (row_for rows w).prefix w ≡ true) × (P (row_for rows w) ≡ true)
  row_in [] h = (refl, last)
  row_in (r ∷ rows) h = let p = and_split (P r) (each P rows) h in go (begins r.prefix w) refl p.0 (row_in rows p.1)
    where
      go : (b : Bool) → begins r.prefix w ≡ b → P r ≡ true → (begins (row_for rows w).prefix w ≡ true) × (P (row_for rows w) ≡ true)
          → (begins (cond b r (row_for rows w)).prefix w ≡ true) × (P (cond b r (row_for rows w)) ≡ true)
      go true e h i = (e, h)
      go false e h i = i

-- it begins with the prefix of its row, of which holds what holds of each
pub row-of : (P : Notation → Bool) → each P notations ≡ true → (w : List ℕ) → (begins (row_of w).prefix w ≡ true) × (P (row_of w) ≡ true)
row-of P h w =
    let others = and_r (P octals) (each P (decimals ∷ [])) (and_r (P binaries) (each P (octals ∷ decimals ∷ [])) (and_r (P hexadecimals) (each P (binaries ∷ octals ∷ decimals ∷ [])) h)) in
    row_in P (and_l (P decimals) true others) w notations h

-- ---- prefix and digits are word bytes, and there is one at least
abbrev pub prefix_words : List (List ℕ) → Bool
prefix_words [] = true
prefix_words (c ∷ p) = all word_byte c && prefix_words p

abbrev pub wordy : Notation → Bool
wordy r = prefix_words r.prefix && (all word_byte r.digits && ltb 0 (length r.prefix + r.fewest))

-- bytes of a run, and then word bytes, are word bytes
run_words : (f : ℕ → Bool) → ((x : ℕ) → f x ≡ true → word_byte x ≡ true) → (d : List ℕ) → all word_byte (drop (run_len f d) d) ≡ true → all word_byte d ≡ true
run_words f are [] h = refl
run_words f are (x ∷ d) h = go (f x) refl h (run_words f are d)
  where
    go : (b : Bool) → f x ≡ b → all word_byte (drop (cond b (suc (run_len f d)) 0) (x ∷ d)) ≡ true → (all word_byte (drop (run_len f d) d) ≡ true → all word_byte d ≡ true)
        → all word_byte (x ∷ d) ≡ true
    go true e h i = rw (are x e) (i h)
    go false e h i = h

-- what may follow the digits
pub ending-is : (u : Bool) (l : List ℕ) → ending u l ≡ true → (l ≡ []) ⊎ (l ≡ bytes "U")
ending-is u [] h = inl refl
ending-is true (x ∷ []) h = let e : x ≡ 85 = eqb-true x 85 (and_split (eqb x 85) true h).0 in inr (rw e)
ending-is false (x ∷ []) h = never h
ending-is true (x ∷ (y ∷ l)) h = never (sym (and-false (eqb x 85)) ∙ h)
ending-is false (x ∷ (y ∷ l)) h = never h

ending-words : (u : Bool) (l : List ℕ) → ending u l ≡ true → all word_byte l ≡ true
unfolding word_byte letter
ending-words u l h = ⊎_elim (λ e. rw e) (λ e. rw e) (ending-is u l h)

prefix_words_lem : (p : List (List ℕ)) (w : List ℕ) → prefix_words p ≡ true → begins p w ≡ true → all word_byte (drop (length p) w) ≡ true → all word_byte w ≡ true
prefix_words_lem [] w h b k = k
prefix_words_lem (c ∷ p) [] h b k = refl
prefix_words_lem (c ∷ p) (x ∷ w) h b k =
    let q = and_split (all word_byte c) (prefix_words p) h in
    let t = and_split (among c x) (begins p w) b in
    rw (among-each word_byte c x q.0 t.0) (prefix_words_lem p w q.1 t.1 k)

-- the bytes of a prefix and those after it
pub begins-length : (p : List (List ℕ)) (w : List ℕ) → begins p w ≡ true → length w ≡ length p + length (drop (length p) w)
begins-length [] w b = omega arith
begins-length (c ∷ p) [] b = never b
begins-length (c ∷ p) (x ∷ w) b = omega (arith, begins-length p w (and_split (among c x) (begins p w) b).1)

-- a number has word bytes alone, and one at least
pub notations_wordy : each wordy notations ≡ true
unfolding word_byte letter
notations_wordy = refl

row_words : (r : Notation) (w : List ℕ) → begins r.prefix w ≡ true → wordy r ≡ true → spells r (body r w) ≡ true → (all word_byte w ≡ true) × (0 < length w)
unfolding spells
row_words r w b h k =
    let d = body r w in
    let n = digits_len r d in
    let p = and_split (prefix_words r.prefix) (all word_byte r.digits && ltb 0 (length r.prefix + r.fewest)) h in
    let q = and_split (all word_byte r.digits) (ltb 0 (length r.prefix + r.fewest)) p.1 in
    let t = and_split (leb r.fewest n) (ending r.unsigned (drop n d)) k in
    let words = run_words (among r.digits) (λ x. among-each word_byte r.digits x q.0) d (ending-words r.unsigned (drop n d) t.1) in (
      prefix_words_lem r.prefix w p.0 b words,
      omega (arith, ltb-true 0 (length r.prefix + r.fewest) q.1, leb-true r.fewest n t.0, run_le (among r.digits) d, begins-length r.prefix w b),
    )

pub number-words : (w : List ℕ) → is_number w ≡ true → (all word_byte w ≡ true) × (0 < length w)
unfolding is_number
number-words w h = let r = row-of wordy notations_wordy w in row_words (row_of w) w r.0 r.1 h
