-- Laws of runs, tokens and digits, which the functions' proofs cite. Assumes nothing.
use Prim.Native.Nat.{ℕ, suc, ◌+◌, ◌<◌, ◌≤◌}
use native.Mathlib.Omega.{arith}
use native.Mathlib.Decide.{dec_le}
use mathlib.Core.Path.{◌≡◌, refl, ap}
use mathlib.Core.List.{List}
use mathlib.Core.Bool.{Bool, true, false, ◌&&◌, ◌||◌, cond, and-true, or-false}
use lib.ListN.{length, drop, drop_of_length-le, length-drop}
use lib.Seq.{drop-cons, drop-drop}
use lib.Dec.{leb, eqb}
use borrow.Author.Tests.{eq-eqb, ne_eqb, le-leb, lt-leb}
use Rattle.tokens.specs.Bytes.{letter, word_byte, opcode_byte, blank, run_len, token_len, after_token, after_blanks}
use Rattle.tokens.specs.declared.Cursor.{Cursor}
use Rattle.tokens.specs.Cursors.{Rest, seen}
use Rattle.tokens.proofs.Runs.{run_le}
use Rattle.tokens.proofs.Lengths.{token_le}
use Rattle.lexer.specs.Places.{within}

-- ---- the classes of a byte, by the ranges that the code tests: from 97 on, up to the digits, and between
module _ (x : ℕ) where
  pub word_high : 97 ≤ x → leb x 122 ≡ word_byte x
  unfolding word_byte letter
  word_high h =
      simp (le-leb 65 x (omega arith), lt-leb x 90 (omega arith), le-leb 97 x h, le-leb 48 x (omega arith), lt-leb x 57 (omega arith), ne_eqb x 95 (omega arith), ne_eqb x 36 (omega arith), or-false)

  pub word_low : x ≤ 57 → (leb 48 x || eqb x 36) ≡ word_byte x
  unfolding word_byte letter
  word_low h =
      simp (lt-leb 65 x (omega arith), lt-leb 97 x (omega arith), le-leb x 57 h, ne_eqb x 95 (omega arith), and-true, or-false)

  pub word_mid : 57 < x → x < 97 → (leb 65 x && leb x 90 || eqb x 95) ≡ word_byte x
  unfolding word_byte letter
  word_mid g h =
      simp (lt-leb 97 x h, le-leb 48 x (omega arith), lt-leb x 57 g, ne_eqb x 36 (omega arith), or-false)

  pub opcode_high : 97 ≤ x → leb x 122 ≡ opcode_byte x
  unfolding opcode_byte letter
  opcode_high h =
      simp (le-leb 65 x (omega arith), lt-leb x 90 (omega arith), le-leb 97 x h, le-leb 48 x (omega arith), lt-leb x 57 (omega arith), ne_eqb x 95 (omega arith), ne_eqb x 46 (omega arith), ne_eqb x 58 (omega arith), or-false)

  pub opcode_low : x ≤ 58 → (leb 48 x || eqb x 46) ≡ opcode_byte x
  unfolding opcode_byte letter
  opcode_low h = go (dec_le x 57)
    where
      go : Dec (x ≤ 57)
          → (leb 48 x || eqb x 46) ≡ (((((leb 65 x && leb x 90 || leb 97 x && leb x 122) || leb 48 x && leb x 57) || eqb x 95) || eqb x 46) || eqb x 58)
      go (yes p) =
          simp (lt-leb 65 x (omega arith), lt-leb 97 x (omega arith), le-leb x 57 p, ne_eqb x 95 (omega arith), ne_eqb x 58 (omega arith), and-true, or-false)
      go (no q) = let e : x ≡ 58 = omega arith in rw e

  pub opcode_mid : 58 < x → x < 97 → (leb 65 x && leb x 90 || eqb x 95) ≡ opcode_byte x
  unfolding opcode_byte letter
  opcode_mid g h =
      simp (lt-leb 97 x h, le-leb 48 x (omega arith), lt-leb x 57 (omega arith), ne_eqb x 46 (omega arith), ne_eqb x 58 (omega arith), or-false)

pub word_0 : word_byte 0 ≡ false
unfolding word_byte letter
word_0 = refl

pub blank_no : (x : ℕ) → (x ≡ 32 → ⊥) → blank x ≡ false
unfolding blank
blank_no x h = ne_eqb x 32 h

pub blank-is : (x : ℕ) → x ≡ 32 → blank x ≡ true
unfolding blank
blank-is x h = eq-eqb x 32 h

-- ---- tokens, in the words of the code
-- past the blanks
pub blank_law : (s : List ℕ) (at i : ℕ) → i ≡ at + run_len blank (drop at s) → drop i s ≡ after_blanks (drop at s)
unfolding after_blanks
blank_law s at i h = rw (h, ← drop-drop)

pub end_law : (s : List ℕ) (e : ℕ) → leb (length s) e ≡ eqb (length (drop e s)) 0
end_law s e = go (dec_le (length s) e)
  where
    go : Dec (length s ≤ e) → leb (length s) e ≡ eqb (length (drop e s)) 0
    go (yes p) = rw (drop_of_length-le s p, le-leb _ _ p)
    go (no q) = let p : e < length s = omega arith in rw (lt-leb _ _ p, drop-cons s e 0 p, ne_eqb (suc (length (drop (suc e) s))) 0 (omega arith))

-- a token, and the blanks before it, end within the text
token_within : (s : List ℕ) (i : ℕ) → i ≤ length s → i + token_len (drop i s) ≤ length s
token_within s i h = omega (arith, token_le (drop i s), length-drop i s)

pub blank-within : (s : List ℕ) (at i : ℕ) → i ≡ at + run_len blank (drop at s) → at ≤ length s → i ≤ length s
blank-within s at i e h = omega (arith, run_le blank (drop at s), length-drop at s)

pub end-within : (s : List ℕ) (i e : ℕ) → e ≡ i + token_len (drop i s) → i ≤ length s → e ≤ length s
end-within s i e t h = omega (arith, t, token_within s i h)

pub far_within : (n : ℕ) (b : Bool) (a i : ℕ) → a ≤ n → i ≤ n → cond b a i ≤ n
far_within n true a i g h = g
far_within n false a i g h = h

-- past a token
pub after_law : (s : List ℕ) (i e : ℕ) → e ≡ i + token_len (drop i s) → drop e s ≡ after_token (drop i s)
unfolding after_token
after_law s i e t = rw (t, ← drop-drop)

pub far_law : (s : List ℕ) (b : Bool) (a i : ℕ) → drop (cond b a i) s ≡ cond b (drop a s) (drop i s)
far_law s true a i = refl
far_law s false a i = refl

-- a place within the text is told by the bytes from it on, and so is a cursor whose places are
place-told : (s : List ℕ) (a b : ℕ) → a ≤ length s → b ≤ length s → drop a s ≡ drop b s → a ≡ b
place-told s a b g h e = omega (arith, length-drop a s, length-drop b s, ap length e)

same_cursor : (a b f g : ℕ) (o p v w : Bool) → a ≡ b → o ≡ p → v ≡ w → f ≡ g
    → ◌≡◌ {A = Cursor} (record { at = a; ok = o; over = v; far = f }) (record { at = b; ok = p; over = w; far = g })
same_cursor a b f g o p v w h i j k = rw (h, i, j, k)

pub cursor_told : (s : List ℕ) (j k : Cursor) → within s j → within s k → seen s j ≡ seen s k → j ≡ k
cursor_told s j k g h e =
    same_cursor j.at k.at j.far k.far j.ok k.ok j.over k.over
    (place-told s j.at k.at g.0 h.0 (ap (λ (r : Rest). r.rest) e))
    (ap (λ (r : Rest). r.ok) e)
    (ap (λ (r : Rest). r.over) e)
    (place-told s j.far k.far g.1 h.1 (ap (λ (r : Rest). r.far) e))
