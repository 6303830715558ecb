-- Laws of runs of word bytes, and of a token that is a name or none, which the functions' proofs cite. Assumes nothing.
use Prim.Native.Nat.{ℕ, suc, ◌+◌, ◌*◌, ◌-◌, ◌^◌, ◌<◌, ◌≤◌, min}
use native.Mathlib.Numerals.{add-one}
use native.Mathlib.Nat.{zero-add}
use native.Mathlib.Omega.{arith}
use native.Mathlib.Decide.{dec_le}
use mathlib.Core.Path.{◌≡◌, refl, sym, ap, ◌∙◌}
use mathlib.Core.List.{List, ◌∷◌}
use mathlib.Core.Bool.{Bool, true, false, ◌&&◌, ◌||◌, true≢false, cond}
use lib.ListN.{length, get_or, take, drop, drop_of_length-le, length-take}
use lib.Seq.{drop-cons, drop-drop, take_all, take-take, length-take-le, get_or-drop}
use lib.Pow.{pow-add, pow_mono}
use lib.Dec.{ltb, leb, eqb}
use borrow.Author.Tests.{lt-ltb, le-ltb, le-leb, lt-leb, leb-true}
use Rattle.tokens.specs.declared.Name.{Name}
use Rattle.tokens.specs.Bytes.{between, letter, word_byte, run_len, token_len, token_of, after_token}
use Rattle.tokens.specs.Names.{sigil, is_name, byte_digits, packed, no_name}
use Rattle.tokens.specs.Cursors.{Rest, Took, on, off, name_here}
use Rattle.lexer.specs.Runs.{words_len, NameThere, there_by, name_there}
use mathlib.Core.Bool.{and-false, and-true}
use Rattle.laws.proofs.BoolLaws.{and_split, or_neither}
use Rattle.laws.proofs.ListLaws.{drop-take}
use Rattle.tokens.proofs.Runs.{run_le, run_step, all_run, run_next, run_in, run_split}
use Rattle.tokens.proofs.Names.{name_path}
use Rattle.lexer.proofs.Laws.{word_0}

-- ---- packing
pub pack-start : (at room : ℕ) → (at + room - at ≡ room) × (8 - room + (at - at) ≡ 8 - room)
pack-start at room = (omega arith, omega arith)

-- one more byte
pub pack_step : (s : List ℕ) (w q i : ℕ) → i < q → i < length s → word_byte (get_or s i 0) ≡ true
    → byte_digits w (take (words_len (q - i) (drop i s)) (drop i s)) ≡ byte_digits (w * 256 + get_or s i 0) (take (words_len (q - (i + 1)) (drop (i + 1) s)) (drop (i + 1) s))
pack_step s w q i h d e =
    let n : words_len (q - i) (drop i s) ≡ suc (words_len (q - (i + 1)) (drop (i + 1) s)) = omega (arith, run_step word_byte s i d e) in
    rw (n, add-one i, drop-cons s i 0 d)

pub pack-none : (l : List ℕ) (w n : ℕ) → n ≡ 0 → byte_digits w (take n l) ≡ w
pack-none l w n h = rw h

pub cap_step : (k : ℕ) → 2 ^ (8 * (k + 1)) ≡ 2 ^ (8 * k) * 256
cap_step k =
    let e : 8 * (k + 1) ≡ 8 * k + 8 = omega arith in
    rw e (pow-add 2 (8 * k) 8)

pub cap_next : (room at i : ℕ) → at ≤ i → 8 - room + (i + 1 - at) ≡ 8 - room + (i - at) + 1
cap_next room at i h = omega arith

pub cap_small : (k : ℕ) → k ≤ 7 → 2 ^ (8 * k) ≤ 2 ^ 56
cap_small k h =
    let e : 8 * k ≤ 56 = omega arith in
    pow_mono e

-- a name of at most eight bytes has no second word, and a longer one has two
pack_short : (x : ℕ) (u : List ℕ) → length u ≤ 7 → record { hi = byte_digits x u; lo = 0 } ≡ packed (x ∷ u)
unfolding packed
pack_short x u h = rw (take_all 7 u h, drop_of_length-le u h, zero-add x)

first_byte : (x : ℕ) (u : List ℕ) → byte_digits 0 (x ∷ u) ≡ byte_digits x u
first_byte x u = rw (zero-add x)

pack_long : (x n : ℕ) (m : List ℕ) → record { hi = byte_digits x (take 7 m); lo = byte_digits 0 (take n (drop 7 m)) } ≡ packed (x ∷ take (7 + n) m)
unfolding packed
pack_long x n m =
    let u = take (7 + n) m in
    name_path (byte_digits x (take 7 m)) (byte_digits 0 (x ∷ take 7 u)) (byte_digits 0 (take n (drop 7 m))) (byte_digits 0 (drop 7 u))
    (sym (first_byte x (take 7 u) ∙ ap (byte_digits x) (take-take 7 (7 + n) m (omega arith))))
    (let e : 7 + n - 7 ≡ n = omega arith in rw (drop-take 7 (7 + n) m, e))

-- ---- a token that starts as a name does
start_word : (x : ℕ) → (letter x || sigil x) ≡ true → (word_byte x || eqb x 37) ≡ true
unfolding word_byte sigil
start_word x h = by (letter x) (between 48 57 x) (eqb x 95) (eqb x 36) (eqb x 37) h
  where
    by : (l d u m p : Bool) → (l || ((u || m) || p)) ≡ true → ((((l || d) || u) || m) || p) ≡ true
    by true d u m p h = refl
    by false true u m p h = refl
    by false false u m p h = h

-- the shape of a name: n bytes after x
abbrev pub shape : ℕ → ℕ → Bool
shape x n = (letter x || sigil x && ltb 0 n) && leb n 15

there_by_lem : (x : ℕ) (m : List ℕ) → (letter x || sigil x) ≡ true
    → name_there (x ∷ m) ≡ cond (shape x (run_len word_byte m)) (record { ok = true; value = packed (x ∷ take (run_len word_byte m) m); rest = drop (run_len word_byte m) m }) (record { ok = false; value = no_name; rest = x ∷ m })
unfolding name_there token_of token_len after_token is_name
there_by_lem x m h = rw (start_word x h, length-take-le (run_len word_byte m) m (run_le word_byte m), all_run word_byte m, and-true (leb (run_len word_byte m) 15))

there_not : (x : ℕ) (m : List ℕ) → (letter x || sigil x) ≡ false → name_there (x ∷ m) ≡ record { ok = false; value = no_name; rest = x ∷ m }
unfolding name_there token_of token_len is_name
there_not x m h = let p = or_neither (letter x) (sigil x) h in rw (p.0, p.1)

-- ---- the token at a position
module _ (s : List ℕ) (at : ℕ) where
  pub name-past : length s ≤ at → record { ok = false; value = no_name; rest = drop at s } ≡ name_there (drop at s)
  unfolding name_there token_of token_len is_name
  name-past h = rw (drop_of_length-le s h)

  module _ (h : at < length s) where
    pub name-not : (letter (get_or s at 0) || sigil (get_or s at 0)) ≡ false → record { ok = false; value = no_name; rest = drop at s } ≡ name_there (drop at s)
    name-not g = rw (drop-cons s at 0 h) (sym (there_not (get_or s at 0) (drop (suc at) s) g))

    module _ (start : (letter (get_or s at 0) || sigil (get_or s at 0)) ≡ true) where
      there : name_there (drop at s) ≡ cond (shape (get_or s at 0) (run_len word_byte (drop (at + 1) s))) (record { ok = true; value = packed (get_or s at 0 ∷ take (run_len word_byte (drop (at + 1) s)) (drop (at + 1) s)); rest = drop (run_len word_byte (drop (at + 1) s)) (drop (at + 1) s) }) (record { ok = false; value = no_name; rest = drop at s })
      there = rw (add-one at, drop-cons s at 0 h) (there_by_lem (get_or s at 0) (drop (suc at) s) start)

      token_by : token_len (drop at s) ≡ suc (run_len word_byte (drop (at + 1) s))
      unfolding token_len
      token_by = rw (add-one at, drop-cons s at 0 h, start_word (get_or s at 0) start)

      -- the run ends within the first word
      module _ (e : ℕ) (t : e ≡ at + 1 + words_len 7 (drop (at + 1) s)) (short : e < at + 8) where
        ends : run_len word_byte (drop (at + 1) s) ≡ e - at - 1
        ends = omega arith

        pub short_end : e ≡ at + token_len (drop at s)
        short_end = omega (arith, token_by, ends)

        -- what starts as a name does is one where it starts with a letter or goes on
        short_shape : shape (get_or s at 0) (e - at - 1) ≡ (letter (get_or s at 0) || ltb (at + 1) e)
        short_shape = rw (le-leb (e - at - 1) 15 (omega arith), and-true (letter (get_or s at 0) || sigil (get_or s at 0) && ltb 0 (e - at - 1)), more (dec_le e (at + 1))) (sym (by (letter (get_or s at 0)) (sigil (get_or s at 0)) (ltb (at + 1) e) start))
          where
            more : Dec (e ≤ at + 1) → ltb 0 (e - at - 1) ≡ ltb (at + 1) e
            more (yes p) = rw (le-ltb (at + 1) e p) (le-ltb 0 (e - at - 1) (omega arith))
            more (no p) = rw (lt-ltb (at + 1) e (omega arith)) (lt-ltb 0 (e - at - 1) (omega arith))

            by : (l g t : Bool) → (l || g) ≡ true → (l || t) ≡ (l || g && t)
            by true g t h = refl
            by false true t h = refl
            by false false t h = absurd (true≢false (sym h))

        pub short_none : (letter (get_or s at 0) || ltb (at + 1) e) ≡ false → record { ok = false; value = no_name; rest = drop at s } ≡ name_there (drop at s)
        short_none k = rw (there, ends, short_shape, k)

        pub short_name : (letter (get_or s at 0) || ltb (at + 1) e) ≡ true
            → record { ok = true; value = record { hi = byte_digits (get_or s at 0) (take (words_len 7 (drop (at + 1) s)) (drop (at + 1) s)); lo = 0 }; rest = drop e s } ≡ name_there (drop at s)
        short_name k =
            let m = drop (at + 1) s in
            let p : min 7 (e - at - 1) ≡ e - at - 1 = omega arith in
            let q : at + 1 + (e - at - 1) ≡ e = omega arith in
            let n : length (take (e - at - 1) m) ≤ 7 = omega (arith, length-take (e - at - 1) m) in
            rw (there, ends, short_shape, k, p, drop-drop (e - at - 1) (at + 1) s, q, ← pack_short (get_or s at 0) (take (e - at - 1) m) n)

      -- the run goes on after the first word; e is where it ends, or the second word does
      module _ (long : at + 8 ≤ at + 1 + words_len 7 (drop (at + 1) s)) (e : ℕ) (t : e ≡ at + 8 + words_len 8 (drop (at + 8) s)) where
        rest_by : drop 7 (drop (at + 1) s) ≡ drop (at + 8) s
        rest_by = let q : at + 1 + 7 ≡ at + 8 = omega arith in rw (drop-drop, q)

        whole_by : run_len word_byte (drop (at + 1) s) ≡ 7 + run_len word_byte (drop (at + 8) s)
        whole_by = rw (← rest_by) (run_split word_byte 7 (drop (at + 1) s) (omega arith))

        next : (k : ℕ) → get_or (drop (at + 8) s) k 0 ≡ get_or s (at + 8 + k) 0
        next k = get_or-drop (at + 8) s k 0

        over : at + 16 ≤ e → word_byte (get_or s e 0) ≡ true → Dec (run_len word_byte (drop (at + 8) s) ≤ 8) → 8 < run_len word_byte (drop (at + 8) s)
        over g w (yes p) =
            let q : at + 8 + run_len word_byte (drop (at + 8) s) ≡ e = omega arith in
            absurd (true≢false (sym w ∙ (rw (← q, ← next (run_len word_byte (drop (at + 8) s))) (run_next word_byte word_0 (drop (at + 8) s)))))
        over g w (no p) = omega arith

        at_most : (leb (at + 16) e && word_byte (get_or s e 0)) ≡ false → Dec (run_len word_byte (drop (at + 8) s) ≤ 8) → run_len word_byte (drop (at + 8) s) ≤ 8
        at_most k (yes p) = p
        at_most k (no p) =
            let q : at + 8 + 8 ≡ e = omega arith in
            let w : word_byte (get_or s e 0) ≡ true = rw (← q, ← next 8) (run_in word_byte (drop (at + 8) s) 8 (omega arith)) in
            absurd (true≢false (sym (rw (le-leb (at + 16) e (omega arith), w)) ∙ k))

        pub long_none : (leb (at + 16) e && word_byte (get_or s e 0)) ≡ true → record { ok = false; value = no_name; rest = drop at s } ≡ name_there (drop at s)
        long_none k =
            let g = and_split (leb (at + 16) e) (word_byte (get_or s e 0)) k in
            let o : 15 < run_len word_byte (drop (at + 1) s) = omega (arith, whole_by, over (leb-true (at + 16) e g.0) g.1 (dec_le (run_len word_byte (drop (at + 8) s)) 8)) in
            rw (there, lt-leb (run_len word_byte (drop (at + 1) s)) 15 o, and-false (letter (get_or s at 0) || sigil (get_or s at 0) && ltb 0 (run_len word_byte (drop (at + 1) s))))

        pub long_end : (leb (at + 16) e && word_byte (get_or s e 0)) ≡ false → e ≡ at + token_len (drop at s)
        long_end k = omega (arith, token_by, whole_by, at_most k (dec_le (run_len word_byte (drop (at + 8) s)) 8))

        pub long_name : (leb (at + 16) e && word_byte (get_or s e 0)) ≡ false
            → record { ok = true; value = record { hi = byte_digits (get_or s at 0) (take (words_len 7 (drop (at + 1) s)) (drop (at + 1) s)); lo = byte_digits 0 (take (words_len 8 (drop (at + 8) s)) (drop (at + 8) s)) }; rest = drop e s } ≡ name_there (drop at s)
        long_name k =
            let x = get_or s at 0 in
            let n = run_len word_byte (drop (at + 8) s) in
            let g : n ≤ 8 = at_most k (dec_le n 8) in
            let p : min 7 (7 + n) ≡ 7 = omega arith in
            let r : min 8 n ≡ n = omega arith in
            let q : at + 1 + (7 + n) ≡ e = omega arith in
            let y : (letter x || sigil x && ltb 0 (7 + n)) ≡ true = rw (lt-ltb 0 (7 + n) (omega arith), and-true (sigil x)) start in
            rw (there, whole_by, y, le-leb (7 + n) 15 (omega arith), p, r, drop-drop (7 + n) (at + 1) s, q, ← pack_long x n (drop (at + 1) s), rest_by)

-- ---- the name at the cursor
module _ (r : Rest) (l : List ℕ) where
  pub name_is : (n : Name) (m : List ℕ) → ◌≡◌ {A = NameThere} (record { ok = true; value = n; rest = m }) (name_there l) → record { value = n; next = on r m } ≡ name_here r l
  unfolding name_there
  name_is n m e = by (is_name (token_of l)) e
    where
      by : (b : Bool) → ◌≡◌ {A = NameThere} (record { ok = true; value = n; rest = m }) (there_by b l)
          → ◌≡◌ {A = Took Name} (record { value = n; next = on r m }) (cond b (record { value = packed (token_of l); next = on r (after_token l) }) (record { value = no_name; next = off r l }))
      by true e = ap (λ (t : NameThere). record { value = t.value; next = on r t.rest }) e
      by false e = absurd (true≢false (ap (λ (t : NameThere). t.ok) e))

  pub name_none : ◌≡◌ {A = NameThere} (record { ok = false; value = no_name; rest = l }) (name_there l) → record { value = no_name; next = off r l } ≡ name_here r l
  unfolding name_there
  name_none e = by (is_name (token_of l)) e
    where
      by : (b : Bool) → ◌≡◌ {A = NameThere} (record { ok = false; value = no_name; rest = l }) (there_by b l)
          → ◌≡◌ {A = Took Name} (record { value = no_name; next = off r l }) (cond b (record { value = packed (token_of l); next = on r (after_token l) }) (record { value = no_name; next = off r l }))
      by true e = absurd (true≢false (ap (λ (t : NameThere). t.ok) (sym e)))
      by false e = refl
