-- Laws of digits, and of a token that is a number or none, which the functions' proofs cite. Assumes nothing.
use Prim.Native.Nat.{ℕ, suc, ◌+◌, ◌*◌, ◌-◌, ◌^◌, ◌<◌, ◌≤◌}
use native.Mathlib.Numerals.{add-one}
use native.Mathlib.Nat.{le-mul_of_pos_right, add-zero}
use native.Mathlib.Omega.{arith}
use native.Mathlib.Decide.{dec_le}
use mathlib.Core.Path.{◌≡◌, refl, sym, ap, ◌∙◌}
use mathlib.Core.List.{List, [], ◌∷◌}
use mathlib.Core.Bool.{Bool, true, false, ◌&&◌, ◌||◌, not, true≢false, cond, and-false}
use lib.ListN.{length, get_or, take, drop, drop_of_length-le}
use lib.Seq.{drop-cons, drop-drop, get_or-drop, length-take-le}
use lib.Dec.{ltb, leb, eqb}
use borrow.Author.Tests.{eq-eqb, ne_eqb, eqb-true, le-leb, lt-leb, lt-ltb, le-ltb, ltb-false}
use Rattle.std.specs.Prelude.{Option, None, Some}
use Rattle.std.proofs.lemmas.Option.{none-some, cond_some}
use Rattle.laws.proofs.BoolLaws.{never, and_l, and_split}
use Rattle.tokens.specs.declared.Numeral.{Numeral}
use Rattle.tokens.specs.Text.{bytes}
use Rattle.tokens.specs.Bytes.{same_bytes, word_byte, letter, run_len, all, token_len, token_of, after_token}
use Rattle.tokens.specs.Numbers.{digit_of, among, positional, Notation, hexadecimals, binaries, octals, decimals, notations, begins, row_for, row_of, body, digits_len, ending, spells, worth, is_number, value_of, numeral_of, fit}
use Rattle.tokens.specs.Cursors.{Rest, on, off, number_here}
use Rattle.lexer.specs.declared.number.Base.{Base}
use Rattle.lexer.specs.declared.number.Base.TheVariants as base
use Rattle.lexer.specs.Runs.{notation_of, digit_below, row_for_base, words_of, suffix_len, row_numeral}
use Rattle.tokens.proofs.Runs.{run_stop, run_past, run_prefix}
use Rattle.std.specs.List.{prefix_len}
use Rattle.std.proofs.lemmas.Slice.{between_to_end}
use Rattle.lexer.specs.declared.number.Row.{Row}
use Rattle.tokens.proofs.Lengths.{token_le}
use Rattle.tokens.proofs.Notations.{among-each, not-among, digits_below_lem, digits_below, each, row-of, prefix_words, wordy, notations_wordy, begins-length, number-words}
use Rattle.lexer.proofs.Laws.{word_0}

-- ---- what is computed once for each base
record Facts (b : Base) : Type 0 where
  below : digits_below_lem (notation_of b) ≡ true
  words : all word_byte (notation_of b).digits ≡ true
  unsigned : (notation_of b).unsigned ≡ true
  some : 0 < (notation_of b).base
  short : length (notation_of b).prefix ≤ 2

facts : (b : Base) → Facts b
unfolding digit_of word_byte letter
facts base.Hexadecimal = record { below = refl; words = refl; unsigned = refl; some = omega arith; short = omega arith }
facts base.Binary = record { below = refl; words = refl; unsigned = refl; some = omega arith; short = omega arith }
facts base.Octal = record { below = refl; words = refl; unsigned = refl; some = omega arith; short = omega arith }
facts base.Decimal = record { below = refl; words = refl; unsigned = refl; some = omega arith; short = omega arith }

pub prefix_le : (b : Base) → length (notation_of b).prefix ≤ 2
prefix_le b = (facts b).short

-- ---- digits
digit_same : (b : Base) (x : ℕ) → among (notation_of b).digits x ≡ digit_below (notation_of b).base x
digit_same b x = digits_below (notation_of b) (facts b).below x

pub digit_no : (b : Base) (x : ℕ) → (notation_of b).base ≤ digit_of x → among (notation_of b).digits x ≡ false
digit_no b x h = digit_same b x ∙ le-ltb _ _ h

pub digit_is : (b : Base) (x : ℕ) → digit_of x < (notation_of b).base → among (notation_of b).digits x ≡ true
digit_is b x h = digit_same b x ∙ lt-ltb _ _ h

run_same : (f g : ℕ → Bool) → ((x : ℕ) → f x ≡ g x) → (l : List ℕ) → run_len f l ≡ run_len g l
run_same f g h [] = refl
run_same f g h (x ∷ l) = rw (h x, run_same f g h l)

pub run_below : (b : Base) (l : List ℕ) → run_len (digit_below (notation_of b).base) l ≡ digits_len (notation_of b) l
run_below b l = sym (run_same (among (notation_of b).digits) (digit_below (notation_of b).base) (digit_same b) l)

-- ---- room for a digit more
-- what the code keeps of a base is its row
pub row_base : (b : Base) → (row_for_base b).base ≡ (notation_of b).base
row_base base.Hexadecimal = refl
row_base base.Binary = refl
row_base base.Octal = refl
row_base base.Decimal = refl

pub row_prefix : (b : Base) → (row_for_base b).prefix ≡ length (notation_of b).prefix
row_prefix base.Hexadecimal = refl
row_prefix base.Binary = refl
row_prefix base.Octal = refl
row_prefix base.Decimal = refl

pub row_fewest : (b : Base) → (row_for_base b).fewest ≡ (notation_of b).fewest
row_fewest base.Hexadecimal = refl
row_fewest base.Binary = refl
row_fewest base.Octal = refl
row_fewest base.Decimal = refl

-- n, which is v and then the digit d, is below 2^64 exactly where v is below most, or at it and d at most the last digit
room_by : (most last v d n : ℕ) → (v < most → n < 2 ^ 64) → (v ≡ most → d ≤ last → n < 2 ^ 64) → (v ≡ most → last < d → 2 ^ 64 ≤ n) → (most < v → 2 ^ 64 ≤ n)
    → (ltb v most || eqb v most && leb d last) ≡ ltb n (2 ^ 64)
room_by most last v d n below fits more above = go (dec_le (suc v) most) (dec_le v most) (dec_le d last)
  where
    go : Dec (suc v ≤ most) → Dec (v ≤ most) → Dec (d ≤ last) → (ltb v most || eqb v most && leb d last) ≡ ltb n (2 ^ 64)
    go (yes p) q r = rw (lt-ltb v most (omega arith), lt-ltb n (2 ^ 64) (below (omega arith)))
    go (no p) (yes q) (yes r) =
        let e : v ≡ most = omega arith in
        rw (le-ltb v most (omega arith), eq-eqb v most e, le-leb d last r, lt-ltb n (2 ^ 64) (fits e r))
    go (no p) (yes q) (no r) =
        let e : v ≡ most = omega arith in
        rw (le-ltb v most (omega arith), eq-eqb v most e, lt-leb d last (omega arith), le-ltb n (2 ^ 64) (more e (omega arith)))
    go (no p) (no q) r = rw (le-ltb v most (omega arith), ne_eqb v most (omega arith), le-ltb n (2 ^ 64) (above (omega arith)))

pub room : (b : Base) (v d : ℕ) → d < (notation_of b).base → (ltb v (row_for_base b).most || eqb v (row_for_base b).most && leb d (row_for_base b).last) ≡ ltb (v * (notation_of b).base + d) (2 ^ 64)
room base.Hexadecimal v d h = room_by _ _ v d (v * 16 + d) (λ p. omega arith) (λ p q. omega arith) (λ p q. omega arith) (λ p. omega arith)
room base.Binary v d h = room_by _ _ v d (v * 2 + d) (λ p. omega arith) (λ p q. omega arith) (λ p q. omega arith) (λ p. omega arith)
room base.Octal v d h = room_by _ _ v d (v * 8 + d) (λ p. omega arith) (λ p q. omega arith) (λ p q. omega arith) (λ p. omega arith)
room base.Decimal v d h = room_by _ _ v d (v * 10 + d) (λ p. omega arith) (λ p q. omega arith) (λ p q. omega arith) (λ p. omega arith)

-- ---- a byte by the row that the code keeps
module _ (b : Base) (r : Row) (e : r ≡ row_for_base b) where
  row-base : r.base ≡ (notation_of b).base
  row-base = ap (λ (r : Row). r.base) e ∙ row_base b

  pub no_digit : (x d : ℕ) → d ≡ digit_of x → r.base ≤ d → (notation_of b).base ≤ digit_of x
  no_digit x d g h = rw (g, row-base) at h

  pub is_digit : (x d : ℕ) → d ≡ digit_of x → d < r.base → digit_of x < (notation_of b).base
  is_digit x d g h = rw (g, row-base) at h

  pub room_row : (v d : ℕ) → d < (notation_of b).base → (ltb v r.most || eqb v r.most && leb d r.last) ≡ ltb (v * (notation_of b).base + d) (2 ^ 64)
  room_row v d h = rw e (room b v d h)

  pub count_digits : (s : List ℕ) (i n : ℕ) → n ≡ prefix_len (digit_below r.base) (take (length s - i) (drop i s)) → n ≡ digits_len (notation_of b) (drop i s)
  count_digits s i n h =
      h
      ∙ ap (prefix_len (digit_below r.base)) (between_to_end s i (length s) (omega arith))
      ∙ run_prefix (digit_below r.base) (drop i s)
      ∙ ap (λ (k : ℕ). run_len (digit_below k) (drop i s)) row-base
      ∙ run_below b (drop i s)

-- a number is at least what stands before its last digits
grows : (base v : ℕ) → 0 < base → (l : List ℕ) → v ≤ positional base v l
grows base v h [] = omega arith
grows base v h (x ∷ l) = omega (arith, grows base (v * base + digit_of x) h l, le-mul_of_pos_right v h)

pub fit_small : (v w : ℕ) → v < 2 ^ 64 → v ≡ w → Some v ≡ fit w
unfolding fit
fit_small v w h e = rw (← e, lt-ltb v (2 ^ 64) h)

pub fit_over : (w : ℕ) → 2 ^ 64 ≤ w → None ≡ fit w
unfolding fit
fit_over w h = rw (le-ltb w (2 ^ 64) h)

-- the number that the digits are, after v
abbrev pub digits_after : Notation → ℕ → List ℕ → ℕ
digits_after r v l = positional r.base v (take (digits_len r l) l)

pub after_0 : (r : Notation) (l : List ℕ) → digits_after r 0 l ≡ worth r l
unfolding worth
after_0 r l = refl

-- one turn of the loop that reads digits
module _ (b : Base) (s : List ℕ) (v i : ℕ) where
  pub after_step : i < length s → digit_of (get_or s i 0) < (notation_of b).base
      → digits_after (notation_of b) v (drop i s) ≡ digits_after (notation_of b) (v * (notation_of b).base + digit_of (get_or s i 0)) (drop (i + 1) s)
  after_step h g = rw (add-one i, drop-cons s i 0 h, digit_is b (get_or s i 0) g)

  pub after_stop : i < length s → (notation_of b).base ≤ digit_of (get_or s i 0) → digits_after (notation_of b) v (drop i s) ≡ v
  after_stop h g = rw (run_stop (among (notation_of b).digits) s i h (digit_no b (get_or s i 0) g))

  pub after-past : length s ≤ i → digits_after (notation_of b) v (drop i s) ≡ v
  after-past h = rw (run_past (among (notation_of b).digits) s i h)

  pub after-over : i < length s → digit_of (get_or s i 0) < (notation_of b).base → 2 ^ 64 ≤ v * (notation_of b).base + digit_of (get_or s i 0) → 2 ^ 64 ≤ digits_after (notation_of b) v (drop i s)
  after-over h g o =
      rw (after_step h g)
      (omega (arith, grows (notation_of b).base (v * (notation_of b).base + digit_of (get_or s i 0)) (facts b).some (take (digits_len (notation_of b) (drop (i + 1) s)) (drop (i + 1) s))))

-- ---- the word bytes at the head
-- of n bytes of a run at the head of l, all of them word bytes, and the word bytes w there
abbrev Parts : (ℕ → Bool) → List ℕ → ℕ → List ℕ → Type 0
Parts f l n w = (run_len f w ≡ n) × (take n w ≡ take n l) × (drop n w ≡ words_of (drop n l)) × (length w ≡ n + length (words_of (drop n l)))

words_parts : (f : ℕ → Bool) → ((x : ℕ) → f x ≡ true → word_byte x ≡ true) → (l : List ℕ) → Parts f l (run_len f l) (words_of l)
words_parts f are [] = (refl, refl, refl, refl)
words_parts f are (x ∷ l) = go (f x) (word_byte x) refl refl (words_parts f are l)
  where
    go : (b w : Bool) → f x ≡ b → word_byte x ≡ w → Parts f l (run_len f l) (words_of l)
        → Parts f (x ∷ l) (cond b (suc (run_len f l)) 0) (take (cond w (suc (run_len word_byte l)) 0) (x ∷ l))
    go true true p q i = (rw p (ap suc i.0), ap (λ (m : List ℕ). x ∷ m) i.1, i.2, omega (arith, i.3))
    go true false p q i = absurd (true≢false (sym (are x p) ∙ q))
    go false true p q i = (rw p, refl, rw q, rw q (omega arith))
    go false false p q i = (refl, refl, rw q, rw q)

-- ---- what follows the digits
words-none : (m : List ℕ) → word_byte (get_or m 0 0) ≡ false → words_of m ≡ []
words-none [] e = refl
words-none (y ∷ m) e = rw e

words-end : (m : List ℕ) → same_bytes (words_of m) [] ≡ not (word_byte (get_or m 0 0))
words-end [] = rw word_0
words-end (y ∷ m) = go (word_byte y)
  where
    go : (w : Bool) → same_bytes (take (cond w (suc (run_len word_byte m)) 0) (y ∷ m)) [] ≡ not w
    go true = refl
    go false = refl

word-U : word_byte 85 ≡ true
unfolding word_byte letter
word-U = refl

pub suffix_le : (l : List ℕ) → suffix_len l ≤ 1
suffix_le l = go (eqb (get_or l 0 0) 85)
  where
    go : (u : Bool) → cond u 1 0 ≤ 1
    go true = omega arith
    go false = omega arith

-- it is nothing or a U exactly where no word byte stands after the U, if there is one
ending_by : (l : List ℕ) → ending true (words_of l) ≡ not (word_byte (get_or l (suffix_len l) 0))
ending_by [] = rw word_0
ending_by (x ∷ m) = go (eqb x 85) (word_byte x) refl refl
  where
    go : (u w : Bool) → eqb x 85 ≡ u → word_byte x ≡ w → ending true (take (cond w (suc (run_len word_byte m)) 0) (x ∷ m)) ≡ not (word_byte (get_or (x ∷ m) (cond u 1 0) 0))
    go true true e q = rw e (words-end m)
    go true false e q = let k : x ≡ 85 = eqb-true x 85 e in never (sym (rw k at q) ∙ word-U)
    go false true e q = rw (e, q)
    go false false e q = rw q

suffix_by : (l : List ℕ) → word_byte (get_or l (suffix_len l) 0) ≡ false → length (words_of l) ≡ suffix_len l
suffix_by [] h = refl
suffix_by (x ∷ m) h = go (eqb x 85) (word_byte x) refl refl h
  where
    go : (u w : Bool) → eqb x 85 ≡ u → word_byte x ≡ w → word_byte (get_or (x ∷ m) (cond u 1 0) 0) ≡ false → length (take (cond w (suc (run_len word_byte m)) 0) (x ∷ m)) ≡ cond u 1 0
    go true true e q h = rw (words-none m h)
    go true false e q h = let k : x ≡ 85 = eqb-true x 85 e in never (sym (rw k at q) ∙ word-U)
    go false true e q h = never (sym h ∙ q)
    go false false e q h = refl

-- ---- a number by its row, in the words of the code: its digits start at `first` and end at `last`
module _ (b : Base) (s : List ℕ) (first last : ℕ) (h : last ≡ first + digits_len (notation_of b) (drop first s)) where
  parts : Parts (among (notation_of b).digits) (drop first s) (digits_len (notation_of b) (drop first s)) (words_of (drop first s))
  parts = words_parts (among (notation_of b).digits) (λ x. among-each word_byte (notation_of b).digits x (facts b).words) (drop first s)

  count : last - first ≡ digits_len (notation_of b) (drop first s)
  count = omega (arith, h)

  after : drop (digits_len (notation_of b) (drop first s)) (drop first s) ≡ drop last s
  after = rw (drop-drop, h)

  row-spells : spells (notation_of b) (words_of (drop first s)) ≡ (leb (notation_of b).fewest (last - first) && not (word_byte (get_or s (last + suffix_len (drop last s)) 0)))
  unfolding spells
  row-spells = rw (parts.0, parts.2, after, count, (facts b).unsigned, ending_by (drop last s), get_or-drop last s (suffix_len (drop last s)) 0)

  row-worth : worth (notation_of b) (words_of (drop first s)) ≡ worth (notation_of b) (drop first s)
  unfolding worth
  row-worth = rw (parts.0, parts.1)

  pub spelled_few : leb (notation_of b).fewest (last - first) ≡ false → None ≡ row_numeral (notation_of b) (drop first s)
  unfolding row_numeral
  spelled_few e = rw (row-spells, e)

  pub spelled_more : word_byte (get_or s (last + suffix_len (drop last s)) 0) ≡ true → None ≡ row_numeral (notation_of b) (drop first s)
  unfolding row_numeral
  spelled_more e = rw (row-spells, e, and-false (leb (notation_of b).fewest (last - first)))

  pub spelled_is : (used : ℕ) (v : Option ℕ) → leb (notation_of b).fewest (last - first) ≡ true → word_byte (get_or s (last + suffix_len (drop last s)) 0) ≡ false
      → used ≡ length (notation_of b).prefix + (last - first) + suffix_len (drop last s) → v ≡ fit (worth (notation_of b) (drop first s))
      → Some (record { value = v; used = used }) ≡ row_numeral (notation_of b) (drop first s)
  unfolding row_numeral
  spelled_is used v e g k q =
      let m : length (words_of (drop first s)) ≡ digits_len (notation_of b) (drop first s) + length (words_of (drop last s)) = parts.3 ∙ rw after in
      let t = suffix_by (drop last s) (rw (get_or-drop last s (suffix_len (drop last s)) 0) g) in
      let u : used ≡ length (notation_of b).prefix + length (words_of (drop first s)) = omega (arith, k, m, t, count) in
      rw (row-spells, e, g, row-worth, ← u, ← q)

-- ---- a token by the first row with whose prefix it begins
prefix_begins : (p : List (List ℕ)) → prefix_words p ≡ true → (l : List ℕ) → begins p (words_of l) ≡ begins p l
prefix_begins [] h l = refl
prefix_begins (c ∷ p) h [] = refl
prefix_begins (c ∷ p) h (x ∷ l) = let q = and_split (all word_byte c) (prefix_words p) h in go (word_byte x) refl q.0 (prefix_begins p q.1 l)
  where
    go : (w : Bool) → word_byte x ≡ w → all word_byte c ≡ true → begins p (words_of l) ≡ begins p l → begins (c ∷ p) (take (cond w (suc (run_len word_byte l)) 0) (x ∷ l)) ≡ begins (c ∷ p) (x ∷ l)
    go true e h i = rw i
    go false e h i = rw (not-among word_byte c x h e)

words_prefix : (p : List (List ℕ)) → prefix_words p ≡ true → (l : List ℕ) → begins p l ≡ true → drop (length p) (words_of l) ≡ words_of (drop (length p) l)
words_prefix [] h l b = refl
words_prefix (c ∷ p) h [] b = refl
words_prefix (c ∷ p) h (x ∷ l) b =
    let q = and_split (all word_byte c) (prefix_words p) h in
    let t = and_split (among c x) (begins p l) b in
    rw (among-each word_byte c x q.0 t.0) (words_prefix p q.1 l t.1)

-- the row of the word bytes is that of all, and they are a number by it or none
row_same : (rows : List Notation) → each wordy rows ≡ true → (l : List ℕ) → row_for rows (words_of l) ≡ row_for rows l
row_same [] h l = refl
row_same (r ∷ rows) h l =
    let q = and_split (wordy r) (each wordy rows) h in
    rw (prefix_begins r.prefix (and_l (prefix_words r.prefix) _ q.0) l, row_same rows q.1 l)

row_numeral_lem : (r : Notation) (l : List ℕ) → prefix_words r.prefix ≡ true → begins r.prefix l ≡ true
    → cond (spells r (body r (words_of l))) (Some (record { value = fit (worth r (body r (words_of l))); used = length (words_of l) })) None ≡ row_numeral r (body r l)
unfolding row_numeral
row_numeral_lem r l h e = rw (begins-length r.prefix (words_of l) (prefix_begins r.prefix h l ∙ e), words_prefix r.prefix h l e)

-- no number starts with a byte that is no word byte, so that the token is the word bytes
no_number : (x : ℕ) (u : List ℕ) → word_byte x ≡ false → is_number (x ∷ u) ≡ false
no_number x u e = go (is_number (x ∷ u)) refl
  where
    go : (b : Bool) → is_number (x ∷ u) ≡ b → b ≡ false
    go true q = never (sym e ∙ (and_split (word_byte x) (all word_byte u) (number-words (x ∷ u) q).0).0)
    go false q = refl

no_numeral : (x : ℕ) (u : List ℕ) → word_byte x ≡ false → numeral_of (x ∷ u) ≡ None
unfolding numeral_of
no_numeral x u e = rw (no_number x u e)

empty_numeral : numeral_of [] ≡ None
unfolding numeral_of is_number spells
empty_numeral = refl

token_words : (l : List ℕ) → numeral_of (token_of l) ≡ numeral_of (words_of l)
unfolding token_of token_len
token_words [] = refl
token_words (x ∷ l) = go (word_byte x) refl
  where
    go : (w : Bool) → word_byte x ≡ w → numeral_of (x ∷ take (cond (w || eqb x 37) (run_len word_byte l) 0) l) ≡ numeral_of (take (cond w (suc (run_len word_byte l)) 0) (x ∷ l))
    go true e = refl
    go false e = no_numeral x (take (cond (eqb x 37) (run_len word_byte l) 0) l) e ∙ sym empty_numeral

numeral_row : (l : List ℕ) → numeral_of (token_of l) ≡ row_numeral (row_of l) (body (row_of l) l)
unfolding numeral_of is_number value_of
numeral_row l =
    let r = row-of wordy notations_wordy l in
    token_words l ∙ rw (row_same notations notations_wordy l) (row_numeral_lem (row_of l) l (and_l (prefix_words (row_of l).prefix) _ r.1) r.0)

-- ---- the token at a position
zero_numeral : Some (record { value = Some 0; used = 1 }) ≡ numeral_of (48 ∷ [])
unfolding numeral_of is_number value_of spells worth fit
zero_numeral = refl

word_48 : word_byte 48 ≡ true
unfolding word_byte letter
word_48 = refl

pub numeral_past : (s : List ℕ) (at : ℕ) → length s ≤ at → None ≡ numeral_of (token_of (drop at s))
unfolding token_of token_len
numeral_past s at h = rw (drop_of_length-le s h) (sym empty_numeral)

module _ (s : List ℕ) (at : ℕ) (h : at < length s) where
  pub numeral_decimal : (get_or s at 0 ≡ 48 → ⊥) → row_numeral decimals (drop (at + 0) s) ≡ numeral_of (token_of (drop at s))
  numeral_decimal n = rw (add-zero, numeral_row (drop at s), drop-cons s at 0 h, ne_eqb (get_or s at 0) 48 n)

  module _ (zero : get_or s at 0 ≡ 48) where
    starts : drop at s ≡ 48 ∷ drop (at + 1) s
    starts = rw (drop-cons s at 0 h, zero, add-one at)

    third : drop 1 (drop (at + 1) s) ≡ drop (at + 2) s
    third = let e : at + 1 + 1 ≡ at + 2 = omega arith in rw (drop-drop, e)

    pub numeral_hexadecimal : begins (bytes "xX" ∷ []) (drop (at + 1) s) ≡ true → row_numeral hexadecimals (drop (at + 2) s) ≡ numeral_of (token_of (drop at s))
    numeral_hexadecimal m = rw (numeral_row (drop at s), starts, m, third)

    pub numeral_zero : word_byte (get_or s (at + 1) 0) ≡ false → Some (record { value = Some 0; used = 1 }) ≡ numeral_of (token_of (drop at s))
    numeral_zero e =
        let d : word_byte (get_or (drop (at + 1) s) 0 0) ≡ false = rw (get_or-drop, add-zero) e in
        rw (token_words (drop at s), starts, word_48, words-none (drop (at + 1) s) d) zero_numeral

    module _ (no : begins (bytes "xX" ∷ []) (drop (at + 1) s) ≡ false) where
      pub numeral_binary : begins (bytes "bB" ∷ []) (drop (at + 1) s) ≡ true → row_numeral binaries (drop (at + 2) s) ≡ numeral_of (token_of (drop at s))
      numeral_binary m = rw (numeral_row (drop at s), starts, no, m, third)

      pub numeral_octal : begins (bytes "bB" ∷ []) (drop (at + 1) s) ≡ false → row_numeral octals (drop (at + 1) s) ≡ numeral_of (token_of (drop at s))
      numeral_octal m = rw (numeral_row (drop at s), starts, no, m)

-- ---- the number at the cursor
module _ (l : List ℕ) (o : Option Numeral) (p : o ≡ numeral_of (token_of l)) where
  -- no numeral, no number
  not_number : o ≡ None → is_number (token_of l) ≡ false
  unfolding numeral_of
  not_number e = by (is_number (token_of l)) refl
    where
      by : (b : Bool) → is_number (token_of l) ≡ b → b ≡ false
      by true h = absurd (none-some _ (sym e ∙ rw h at p))
      by false h = refl

  -- a number takes the bytes of its token
  module _ (n : Numeral) (e : o ≡ Some n) where
    is : (is_number (token_of l) ≡ true) × (record { value = fit (value_of (token_of l)); used = length (token_of l) } ≡ n)
    unfolding numeral_of
    is = cond_some (is_number (token_of l)) _ n (sym p ∙ e)

    pub used_token : n.used ≡ token_len l
    unfolding token_of
    used_token = ap (λ (m : Numeral). m.used) (sym is.1) ∙ length-take-le (token_len l) l (token_le l)

  module _ (limit : ℕ) (small : limit < 2 ^ 64) (r : Rest) where
    pub number-none : o ≡ None → number_here limit r l ≡ record { value = 0; next = off r l }
    number-none e = rw (not_number e)

    module _ (n : Numeral) (e : o ≡ Some n) (m : List ℕ) (t : m ≡ after_token l) where
      fits : fit (value_of (token_of l)) ≡ n.value
      fits = ap (λ (m : Numeral). m.value) (is n e).1

      pub number_small : (v : ℕ) → n.value ≡ Some v → v ≤ limit → number_here limit r l ≡ record { value = v; next = on r m }
      unfolding fit
      number_small v f h =
          let q = cond_some (ltb (value_of (token_of l)) (2 ^ 64)) (value_of (token_of l)) v (fits ∙ f) in
          rw (t, (is n e).0, q.1, le-leb v limit h)

      pub number_big : ((v : ℕ) → n.value ≡ Some v → limit < v) → number_here limit r l ≡ record { value = 0; next = record { rest = m; ok = true; over = true; far = cond r.over r.far l } }
      unfolding fit
      number_big f = rw (t, (is n e).0, lt-leb (value_of (token_of l)) limit (by (ltb (value_of (token_of l)) (2 ^ 64)) refl))
        where
          by : (b : Bool) → ltb (value_of (token_of l)) (2 ^ 64) ≡ b → limit < value_of (token_of l)
          by true h = f (value_of (token_of l)) (sym fits ∙ rw h)
          by false h = omega (arith, ltb-false (value_of (token_of l)) (2 ^ 64) h)
