-- Marks, names and numbers are read exactly where a text spells them: past the spaces there is one token, and its bytes say what it is. Assumes nothing.
use Prim.Native.Nat.{ℕ, zero, suc, ◌+◌, ◌<◌}
use native.Mathlib.Omega.{arith}
use mathlib.Core.Path.{◌≡◌, refl, sym, ap, ◌∙◌}
use mathlib.Core.List.{List, [], ◌∷◌, ◌++◌}
use mathlib.Core.Bool.{Bool, true, false, ◌&&◌, ◌||◌, cond}
use lib.ListN.{length, take, drop, take-append-drop}
use lib.Seq.{take-append_seam, drop-append_seam}
use lib.Dec.{eqb, leb, ltb}
use borrow.Author.Tests.{le-leb, eq-eqb, eqb-true, eqb-false}
use Rattle.tokens.specs.Text.{byte}
use Rattle.tokens.specs.declared.Name.{Name}
use Rattle.tokens.specs.Bytes.{between, letter, word_byte, blank, run_len, all, after_blanks, token_len, token_of, after_token}
use Rattle.tokens.specs.Names.{sigil, is_name, packed, no_name}
use Rattle.tokens.specs.Numbers.{is_number, value_of}
use Rattle.tokens.specs.Cursors.{Rest, on, off, large, Took, mark_here, mark_c, end_c, name_here, name_c, number_is, number_here, number_c}
use Rattle.laws.proofs.BoolLaws.{never, and_split}
use Rattle.tokens.proofs.Runs.{run_all, run_ends}
use Rattle.tokens.proofs.Notations.{number-words}
use Rattle.grammar.specs.Spells.{spaces, Mark, Word, NameText, NumberText}

-- ---- spaces
pub blanks_parts : (l : List ℕ) → l ≡ spaces (run_len blank l) ++ after_blanks l
unfolding after_blanks blank
blanks_parts [] = refl
blanks_parts (x ∷ l) = go (eqb x (byte " ")) refl (blanks_parts l)
  where
    go : (b : Bool) → eqb x (byte " ") ≡ b → l ≡ spaces (run_len blank l) ++ drop (run_len blank l) l
        → x ∷ l ≡ spaces (cond b (suc (run_len blank l)) 0) ++ drop (cond b (suc (run_len blank l)) 0) (x ∷ l)
    go true e i = rw (eqb-true x (byte " ") e) (ap (λ (w : List ℕ). byte " " ∷ w) i)
    go false e i = refl

pub spaces_skip : (n : ℕ) (l : List ℕ) → after_blanks (spaces n ++ l) ≡ after_blanks l
unfolding after_blanks blank
spaces_skip zero l = refl
spaces_skip (suc n) l = spaces_skip n l

pub blanks_skip : (n x : ℕ) (r : List ℕ) → blank x ≡ false → after_blanks (spaces n ++ (x ∷ r)) ≡ x ∷ r
unfolding after_blanks
blanks_skip n x r h = spaces_skip n (x ∷ r) ∙ rw h

-- ---- marks
mark-here : (m : ℕ) (r : Rest) (l : List ℕ) → (mark_here m r l).ok ≡ true → l ≡ m ∷ (mark_here m r l).rest
mark-here m r [] h = never h
mark-here m r (x ∷ l) h = go (eqb x m) refl h
  where
    go : (b : Bool) → eqb x m ≡ b → (cond b (on r l) (off r (x ∷ l))).ok ≡ true → x ∷ l ≡ m ∷ (cond b (on r l) (off r (x ∷ l))).rest
    go true e k = rw (eqb-true x m e)
    go false e k = never k

pub mark_sound : (m : ℕ) (r : Rest) → (mark_c m r).ok ≡ true → (r.ok ≡ true) × Mark m r.rest (mark_c m r).rest
unfolding mark_c
mark_sound m r h = go r.ok refl h
  where
    go : (b : Bool) → r.ok ≡ b → (cond b (mark_here m r (after_blanks r.rest)) r).ok ≡ true → (b ≡ true) × Mark m r.rest (cond b (mark_here m r (after_blanks r.rest)) r).rest
    go true e k = (
      refl,
      record {
        blanks = run_len blank r.rest;
        parts = blanks_parts r.rest ∙ ap (λ (w : List ℕ). spaces (run_len blank r.rest) ++ w) (mark-here m r (after_blanks r.rest) k);
      },
    )
    go false e k = never (sym e ∙ k)

-- reading goes on at l, with what was too large before
abbrev pub at : List ℕ → Bool → List ℕ → Rest
at l o f = record { rest = l; ok = true; over = o; far = f }

pub mark-at : (m : ℕ) {l r : List ℕ} → blank m ≡ false → Mark m l r → after_blanks l ≡ m ∷ r
mark-at m {l} {r} d k = ap (λ (w : List ℕ). after_blanks w) k.parts ∙ blanks_skip k.blanks m r d

pub mark_complete : (m : ℕ) (l r : List ℕ) (o : Bool) (f : List ℕ) → blank m ≡ false → Mark m l r → mark_c m (at l o f) ≡ at r o f
unfolding mark_c
mark_complete m l r o f d k = rw (mark-at m d k, eq-eqb m m refl)

-- where a byte x comes first, no other mark is read
pub mark-none : (m x : ℕ) (l r : List ℕ) (o : Bool) (f : List ℕ) → after_blanks l ≡ x ∷ r → eqb x m ≡ false → (mark_c m (at l o f)).ok ≡ false
unfolding mark_c
mark-none m x l r o f p e = rw (p, e)

-- ---- the end
end_by : (a : Bool) (l : List ℕ) → (a && eqb (length l) 0) ≡ true → (a ≡ true) × (l ≡ [])
end_by true [] h = (refl, refl)
end_by true (x ∷ l) h = absurd (let z : suc (length l) ≡ 0 = eqb-true (suc (length l)) 0 h in omega arith)
end_by false l h = never h

pub end_sound : (r : Rest) → (end_c r).ok ≡ true → (r.ok ≡ true) × Mark (byte ";") r.rest []
unfolding end_c
end_sound r h =
    let e = end_by (mark_c (byte ";") r).ok (mark_c (byte ";") r).rest h in
    let m = mark_sound (byte ";") r e.0 in
    (m.0, rw e.1 at m.1)

pub end_complete : (l : List ℕ) (o : Bool) (f : List ℕ) → Mark (byte ";") l [] → end_c (at l o f) ≡ at [] o f
unfolding end_c blank
end_complete l o f k = rw (mark_complete (byte ";") l [] o f refl k)

-- ---- tokens
-- a byte that a token of more than one byte may start with
abbrev pub starts : ℕ → Bool
starts x = word_byte x || eqb x (byte "%")

-- a byte that starts one, then word bytes
unfoldable pub whole : List ℕ → Bool
whole [] = false
whole (x ∷ l) = starts x && all word_byte l

module _ (w r : List ℕ) (good : whole w ≡ true) (ends : run_len word_byte r ≡ 0) where
  token_len_lem : token_len (w ++ r) ≡ length w
  unfolding whole token_len
  token_len_lem = go w good
    where
      go : (v : List ℕ) → whole v ≡ true → token_len (v ++ r) ≡ length v
      go [] h = never h
      go (x ∷ u) h = let p = and_split (starts x) (all word_byte u) h in rw (p.0, run_all word_byte u r p.1 ends)

  pub token_is : token_of (w ++ r) ≡ w
  unfolding token_of
  token_is = rw token_len_lem (take-append_seam w r)

  pub token_after : after_token (w ++ r) ≡ r
  unfolding after_token
  token_after = rw token_len_lem (drop-append_seam w r)

-- no token of word bytes starts with a byte that is neither a word byte nor %
pub whole_head : (w : List ℕ) → whole w ≡ true → (x : ℕ) × (u : List ℕ) × (w ≡ x ∷ u) × (starts x ≡ true)
unfolding whole
whole_head [] h = never h
whole_head (x ∷ u) h = (x, u, refl, (and_split (starts x) (all word_byte u) h).0)

pub other : (x y : ℕ) → starts x ≡ true → starts y ≡ false → eqb x y ≡ false
other x y h k = go (eqb x y) refl
  where
    go : (b : Bool) → eqb x y ≡ b → b ≡ false
    go true e = never (sym k ∙ (ap starts (sym (eqb-true x y e)) ∙ h))
    go false e = refl

-- past the spaces
pub word_at : (w l r : List ℕ) → whole w ≡ true → Word w l r → after_blanks l ≡ w ++ r
unfolding blank word_byte letter whole
word_at [] l r g k = never g
word_at (x ∷ u) l r g k =
    let d : blank x ≡ false = other x (byte " ") (and_split (starts x) (all word_byte u) g).0 refl in
    ap (λ (v : List ℕ). after_blanks v) k.parts ∙ blanks_skip k.blanks x (u ++ r) d

-- a token that is whole is a word of the text
head_starts : (l : List ℕ) → whole (token_of l) ≡ true → run_len word_byte (after_token l) ≡ 0
unfolding whole token_of after_token token_len
head_starts [] h = refl
head_starts (x ∷ l) h = let p = and_split (starts x) (all word_byte (take (cond (starts x) (run_len word_byte l) 0) l)) h in rw p.0 (run_ends word_byte l)

pub token_parts : (l : List ℕ) → l ≡ token_of l ++ after_token l
unfolding token_of after_token
token_parts l = sym (take-append-drop (token_len l) l)

pub word_sound : (l : List ℕ) → whole (token_of (after_blanks l)) ≡ true → Word (token_of (after_blanks l)) l (after_token (after_blanks l))
word_sound l h =
    record {
      blanks = run_len blank l;
      parts = blanks_parts l ∙ ap (λ (w : List ℕ). spaces (run_len blank l) ++ w) (token_parts (after_blanks l));
      ends = head_starts (after_blanks l) h;
    }

-- ---- a name's bytes, and a number's, are a whole token
sigil-starts : (x : ℕ) → sigil x ≡ true → starts x ≡ true
unfolding sigil word_byte
sigil-starts x h = go (letter x || between (byte "0") (byte "9") x) (eqb x (byte "_")) (eqb x (byte "$")) (eqb x (byte "%")) h
  where
    go : (a b c d : Bool) → (b || c || d) ≡ true → (a || b || c || d) ≡ true
    go true b c d k = refl
    go false b c d k = k

letter-starts : (x : ℕ) → letter x ≡ true → starts x ≡ true
unfolding word_byte
letter-starts x h = rw h

name-starts : (x : ℕ) (b : Bool) → (letter x || sigil x && b) ≡ true → starts x ≡ true
name-starts x b h = go (letter x) (sigil x) refl refl h
  where
    go : (c d : Bool) → letter x ≡ c → sigil x ≡ d → (c || d && b) ≡ true → starts x ≡ true
    go true d p q k = letter-starts x p
    go false true p q k = sigil-starts x q
    go false false p q k = never k

pub name-whole : (w : List ℕ) → is_name w ≡ true → whole w ≡ true
unfolding is_name whole
name-whole [] h = h
name-whole (x ∷ u) h =
    let p = and_split (letter x || sigil x && ltb 0 (length u)) (leb (length u) 15 && all word_byte u) h in
    let q = and_split (leb (length u) 15) (all word_byte u) p.1 in
    rw (name-starts x (ltb 0 (length u)) p.0, q.1)

words-whole : (w : List ℕ) → 0 < length w → all word_byte w ≡ true → whole w ≡ true
unfolding whole
words-whole [] n h = absurd (omega arith)
words-whole (x ∷ w) n h = let p = and_split (word_byte x) (all word_byte w) h in rw (p.0, p.1)

pub number-whole : (w : List ℕ) → is_number w ≡ true → whole w ≡ true
number-whole w h = let p = number-words w h in words-whole w p.1 p.0

-- ---- names
name-here : (r : Rest) (l : List ℕ) → (name_here r (after_blanks l)).next.ok ≡ true → NameText (name_here r (after_blanks l)).value l (name_here r (after_blanks l)).next.rest
name-here r l h = go (is_name (token_of (after_blanks l))) refl h
  where
    took : Bool → Took Name
    took b = cond b (record { value = packed (token_of (after_blanks l)); next = on r (after_token (after_blanks l)) }) (record { value = no_name; next = off r (after_blanks l) })

    go : (b : Bool) → is_name (token_of (after_blanks l)) ≡ b → (took b).next.ok ≡ true → NameText (took b).value l (took b).next.rest
    go true e k = record { bytes = token_of (after_blanks l); spelled = word_sound l (name-whole (token_of (after_blanks l)) e); good = e; value = refl }
    go false e k = never k

pub name_sound : (r : Rest) → (name_c r).next.ok ≡ true → (r.ok ≡ true) × NameText (name_c r).value r.rest (name_c r).next.rest
unfolding name_c
name_sound r h = go r.ok refl h
  where
    took : Bool → Took Name
    took b = cond b (name_here r (after_blanks r.rest)) (record { value = no_name; next = r })

    go : (b : Bool) → r.ok ≡ b → (took b).next.ok ≡ true → (b ≡ true) × NameText (took b).value r.rest (took b).next.rest
    go true e k = (refl, name-here r r.rest k)
    go false e k = never (sym e ∙ k)

pub name_complete : (n : Name) (l r : List ℕ) (o : Bool) (f : List ℕ) → NameText n l r → name_c (at l o f) ≡ record { value = n; next = at r o f }
unfolding name_c
name_complete n l r o f k =
    let g = name-whole k.bytes k.good in
    rw (word_at k.bytes l r g k.spelled, token_is k.bytes r g k.spelled.ends, token_after k.bytes r g k.spelled.ends, k.good, k.value)

-- ---- numbers
number_is_lem : (limit : ℕ) (r : Rest) (l : List ℕ) (v : ℕ) → (number_is limit r l v).next.rest ≡ after_token l
number_is_lem limit r l v = go (leb v limit)
  where
    go : (b : Bool) → (cond {A = Took ℕ} b (record { value = v; next = on r (after_token l) }) (record { value = 0; next = large r l })).next.rest ≡ after_token l
    go true = refl
    go false = refl

number-here : (limit : ℕ) (r : Rest) (l : List ℕ) → (number_here limit r (after_blanks l)).next.ok ≡ true → (v : ℕ) × NumberText v l (number_here limit r (after_blanks l)).next.rest
number-here limit r l h = go (is_number (token_of (after_blanks l))) refl h
  where
    took : Bool → Took ℕ
    took b = cond b (number_is limit r (after_blanks l) (value_of (token_of (after_blanks l)))) (record { value = 0; next = off r (after_blanks l) })

    go : (b : Bool) → is_number (token_of (after_blanks l)) ≡ b → (took b).next.ok ≡ true → (v : ℕ) × NumberText v l (took b).next.rest
    go true e k = (
      value_of (token_of (after_blanks l)),
      rw (number_is_lem limit r (after_blanks l) (value_of (token_of (after_blanks l))))
          (record { bytes = token_of (after_blanks l); spelled = word_sound l (number-whole (token_of (after_blanks l)) e); good = e; value = refl }),
    )
    go false e k = never k

pub number_sound : (limit : ℕ) (r : Rest) → (number_c limit r).next.ok ≡ true → (r.ok ≡ true) × (v : ℕ) × NumberText v r.rest (number_c limit r).next.rest
unfolding number_c
number_sound limit r h = go r.ok refl h
  where
    took : Bool → Took ℕ
    took b = cond b (number_here limit r (after_blanks r.rest)) (record { value = 0; next = r })

    go : (b : Bool) → r.ok ≡ b → (took b).next.ok ≡ true → (b ≡ true) × (v : ℕ) × NumberText v r.rest (took b).next.rest
    go true e k = let p = number-here limit r r.rest k in (refl, p.0, p.1)
    go false e k = never (sym e ∙ k)

-- what is read: a value and where reading goes on, whether a number so far was too large, and, somewhere, the first such
pub record Reads {A : Type 0} (t : Took A) (v : A) (l : List ℕ) (o : Bool) : Type 0 where
  pub far : List ℕ
  pub is : t ≡ record { value = v; next = at l o far }

-- the number as it is read, 0 for one over the limit
abbrev pub cut : ℕ → ℕ → ℕ
cut limit v = cond (leb v limit) v 0

-- whether a number so far was too large
abbrev pub over_by : Bool → Bool → Bool
over_by fits o = cond fits o true

number_cut : (limit v : ℕ) (r : List ℕ) (o : Bool) (f b : List ℕ) → after_token b ≡ r → Reads (number_is limit (at [] o f) b v) (cut limit v) r (over_by (leb v limit) o)
number_cut limit v r o f b p = go (leb v limit)
  where
    go : (c : Bool) → Reads (cond c (record { value = v; next = on (at [] o f) (after_token b) }) (record { value = 0; next = large (at [] o f) b })) (cond c v 0) r (over_by c o)
    go true = record { far = f; is = rw p }
    go false = record { far = cond o f b; is = rw p }

pub number_complete : (limit v : ℕ) (l r : List ℕ) (o : Bool) (f : List ℕ) → NumberText v l r → Reads (number_c limit (at l o f)) (cut limit v) r (over_by (leb v limit) o)
unfolding number_c
number_complete limit v l r o f k =
    let g = number-whole k.bytes k.good in
    rw (word_at k.bytes l r g k.spelled, token_is k.bytes r g k.spelled.ends, k.good, k.value)
    (number_cut limit v r o f (k.bytes ++ r) (token_after k.bytes r g k.spelled.ends))

-- ---- one reading: a reader gives one answer, so a text that spells two things spells one
pub took_one : {A : Type 0} {t : Took A} {v u : A} {r s f g : List ℕ} {o p : Bool} → t ≡ record { value = v; next = at r o f } → t ≡ record { value = u; next = at s p g } → (v ≡ u) × (r ≡ s)
took_one {A} e d = let q = sym e ∙ d in (ap (λ (x : Took A). x.value) q, ap (λ (x : Took A). x.next.rest) q)

pub mark-one : (m : ℕ) (l r s : List ℕ) → blank m ≡ false → Mark m l r → Mark m l s → r ≡ s
mark-one m l r s d a b = ap (λ (x : Rest). x.rest) (sym (mark_complete m l r false [] d a) ∙ mark_complete m l s false [] d b)

pub mark_two : (m x : ℕ) (l r s : List ℕ) → blank m ≡ false → blank x ≡ false → eqb m x ≡ false → Mark m l r → Mark x l s → ⊥
mark_two m x l r s d e h a b = let p = sym (mark-at m d a) ∙ mark-at x e b in let q : m ≡ x = cc in eqb-false m x h q

pub name-one : (n m : Name) (l r s : List ℕ) → NameText n l r → NameText m l s → (n ≡ m) × (r ≡ s)
name-one n m l r s a b = took_one (name_complete n l r false [] a) (name_complete m l s false [] b)

-- read with a limit that neither is over
pub number-one : (n m : ℕ) (l r s : List ℕ) → NumberText n l r → NumberText m l s → (n ≡ m) × (r ≡ s)
number-one n m l r s a b =
    let q = took_one (number_complete (n + m) n l r false [] a).is (number_complete (n + m) m l s false [] b).is in
    (rw (le-leb n (n + m) (omega arith), le-leb m (n + m) (omega arith)) at q.0, q.1)
