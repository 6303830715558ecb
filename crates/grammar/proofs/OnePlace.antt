-- There is one place at most at which a text stops: at the later of two the text would have gone on past the earlier. Assumes nothing.
use Prim.Native.Nat.{ℕ, suc, ◌≤◌, ◌<◌}
use native.Mathlib.Omega.{arith}
use mathlib.Core.Path.{◌≡◌, refl, sym, ap, ◌∙◌}
use mathlib.Core.List.{List, [], ◌∷◌, ◌++◌, append_assoc}
use mathlib.Core.Bool.{Bool, true, false, cond}
use mathlib.Core.Option.{some-injective}
use lib.ListN.{length, get_or, take, drop, length-append, length-drop, take-append-drop}
use lib.Seq.{take_at}
use Rattle.tokens.specs.Bytes.{letter, word_byte, run_len, after_blanks, token_len, token_of, after_token}
use Rattle.statement.specs.Reading.{opcode_len}
use Rattle.grammar.specs.Spells.{Spells}
use Rattle.grammar.specs.Claims.{After, here, past, Stops, Over, One}
use Rattle.grammar.proofs.Lexing.{token_parts}
use Rattle.grammar.proofs.Stops.{lights, token_ends, token_replay}
use mathlib.Core.Logic.{◌⊎◌, inl, inr}

compare : (s a b : List ℕ) → After s a → After s b → (After a b) ⊎ (After b a)
compare s a b here y = inl y
compare s a b (past x) here = inr (past x)
compare s a b (past x) (past y) = compare (after_token s) a b x y

-- what stands between
between : (s l : List ℕ) → After s l → (mid : List ℕ) × (s ≡ mid ++ l)
between s l here = ([], refl)
between s l (past a) =
    let i = between (after_token s) l a in
    (token_of s ++ i.0, token_parts s ∙ (ap (λ (w : List ℕ). token_of s ++ w) i.1 ∙ sym (append_assoc (token_of s) i.0 l)))

no_word : (y : List ℕ) → run_len word_byte y ≡ 0 → word_byte (get_or y 0 0) ≡ false
unfolding word_byte letter
no_word [] h = refl
no_word (x ∷ y) h = go (word_byte x) h
  where
    go : (b : Bool) → cond b (suc (run_len word_byte y)) 0 ≡ 0 → b ≡ false
    go true k = absurd (omega arith)
    go false k = refl

nil-after : (l : List ℕ) → After (after_token []) l → l ≡ []
unfolding after_token token_len
nil-after l k = let b = between [] l k in go b.0 l b.1
  where
    go : (mid r : List ℕ) → [] ≡ mid ++ r → r ≡ []
    go [] r e = sym e
    go (x ∷ mid) r e = absurd (let z : ◌≡◌ {A = ℕ} 0 1 = cc in omega arith)

-- where the token at l stays, before mid and more, as it is
token_same : (l mid rest more : List ℕ) → 0 < length l → after_token l ≡ mid ++ rest → run_len word_byte more ≡ 0 → token_of (token_of l ++ (mid ++ more)) ≡ token_of l
token_same l mid rest more n e h = token_replay l (mid ++ more) n (λ w. lights word_byte mid more rest (no_word more h) (rw (← e) (token_ends l w)))

-- what stands before a place in the text
cut_front : (q : ℕ) (text front : List ℕ) → text ≡ front ++ drop q text → q ≤ length text → take q text ≡ front
cut_front q text front e h =
    let n : length front ≡ q = omega (arith, ap length e, length-append front (drop q text), length-drop q text) in
    let z : take q (front ++ drop q text) ≡ front = take_at front (drop q text) q n in
    ap (take q) e ∙ z

module _ (text : List ℕ) (p q : ℕ) (a : Stops text p) (b : Stops text q) where
  -- no later place stops too
  not_later : (x : ℕ) (l : List ℕ) → drop p text ≡ x ∷ l → After (after_token (x ∷ l)) (drop q text) → ⊥
  not_later x l e k =
      let m = between (after_token (x ∷ l)) (drop q text) k in
      let t : List ℕ = token_of (x ∷ l) ++ (m.0 ++ b.more) in
      let same : token_of t ≡ token_of (drop p text) = rw e (token_same (x ∷ l) m.0 (drop q text) b.more (omega arith) m.1 b.ends) in
      let whole : text ≡ (take p text ++ (token_of (x ∷ l) ++ m.0)) ++ drop q text =
      sym (take-append-drop p text) ∙ (ap (λ (w : List ℕ). take p text ++ w) (e ∙ (token_parts (x ∷ l) ∙ ap (λ (w : List ℕ). token_of (x ∷ l) ++ w) m.1)) ∙ simp append_assoc) in
      let front : take q text ≡ take p text ++ (token_of (x ∷ l) ++ m.0) = cut_front q text (take p text ++ (token_of (x ∷ l) ++ m.0)) whole b.inside in
      let s : Spells b.goes.0 (take p text ++ t) = rw (front, append_assoc, append_assoc) at b.goes.1 in
      a.stuck t same b.goes.0 s

  same_place : drop p text ≡ drop q text → p ≡ q
  same_place e = omega (arith, ap length e, length-drop p text, length-drop q text, a.inside, b.inside)

  ordered : (m l : List ℕ) → drop p text ≡ m → drop q text ≡ l → After m l → p ≡ q
  ordered m l e f here = same_place (e ∙ sym f)
  ordered [] l e f (past k) = same_place (e ∙ sym (f ∙ nil-after l k))
  ordered (x ∷ m) l e f (past k) = absurd (not_later x m e (rw f k))

one_place : (text : List ℕ) (p q : ℕ) → Stops text p → Stops text q → p ≡ q
one_place text p q a b = go (compare (drop (opcode_len text) text) (drop p text) (drop q text) a.reached b.reached)
  where
    go : (After (drop p text) (drop q text)) ⊎ (After (drop q text) (drop p text)) → p ≡ q
    go (inl k) = ordered text p q a b (drop p text) (drop q text) refl refl k
    go (inr k) = sym (ordered text q p b a (drop q text) (drop p text) refl refl k)

-- of reason 4, by any one spelling
one-over : (text : List ℕ) (p q : ℕ) → Over text p → Over text q → p ≡ q
one-over text p q a b =
    let x = a.starts a.whole a.spelled in
    let y = b.starts a.whole a.spelled in
    let e : drop p text ≡ drop q text = x.2 ∙ ap after_blanks (some-injective x.0 y.0 (sym x.1 ∙ y.1)) ∙ sym y.2 in
    omega (arith, ap length e, length-drop p text, length-drop q text, a.inside, b.inside)

pub ones : (text : List ℕ) → One text
ones text = record { place = one_place text; over = one-over text }
