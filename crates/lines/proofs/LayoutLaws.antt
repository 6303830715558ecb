-- The layout of a line, by the tests that the code makes: of two bytes, of blocks of 16 bytes, and of the byte after the run of a statement's bytes.
-- Assumes nothing.
use Prim.Native.Nat.{ℕ, suc, ◌+◌, ◌<◌, ◌≤◌}
use native.Mathlib.Omega.{arith}
use mathlib.Core.Path.{◌≡◌, refl, sym, ap, ◌∙◌, subst}
use mathlib.Core.List.{List, [], ◌∷◌}
use mathlib.Core.Bool.{Bool, true, false, ◌&&◌, ◌||◌, and-true, and-false, and_assoc}
use lib.ListN.{length, get_or, take, drop, drop_of_length-le, take-append-drop}
use lib.Seq.{drop-cons, length-take-le}
use native.Mathlib.Numerals.{add-one}
use lib.Dec.{leb, eqb, leb-suc-suc}
use borrow.Author.Tests.{ne_eqb, ltb-true, eqb-true, leb-true}
use Rattle.laws.proofs.BoolLaws.{never, clash, and_split}
use Rattle.tokens.specs.Text.{tab, lf}
use Rattle.tokens.specs.Bytes.{all, run_len}
use Rattle.tokens.proofs.Runs.{run_append}
use Rattle.lines.specs.Sheet.{upto, text_of, ended_of, warp_byte, plain, laid_out}
use Rattle.lines.proofs.LineLaws.{upto-cons, text_cons, ended-cons, upto-lf, text_lf, ended-lf, text_length}

-- ---- blocks of 16 bytes

-- a block of bytes that pass is the start of the run
pub run_block : (f : ℕ → Bool) (d : List ℕ) → 16 ≤ length d → all f (take 16 d) ≡ true → run_len f d ≡ 16 + run_len f (drop 16 d)
run_block f d h e =
    let n : length (take 16 d) ≡ 16 = length-take-le 16 d h in
    let a : run_len f d ≡ length (take 16 d) + run_len f (drop 16 d) = rw (take-append-drop 16 d) at (run_append f (take 16 d) (drop 16 d) e) in
    omega (arith, a, n)

-- one test more
module _ (f : ℕ → Bool) (s : List ℕ) (i : ℕ) (b : Bool) where
  pub all_step : i < length s → (b && all f (drop i s)) ≡ ((b && f (get_or s i 0)) && all f (drop (i + 1) s))
  all_step h = rw (add-one, drop-cons s i 0 h) (sym (and_assoc b (f (get_or s i 0)) _))

  pub all_end : length s ≤ i → (b && all f (drop i s)) ≡ b
  all_end h = rw (drop_of_length-le s h) (and-true b)

-- ---- the layout

-- a byte that passes a test is no LF where an LF fails it
no_lf : (f : ℕ → Bool) → f lf ≡ false → (x : ℕ) → f x ≡ true → eqb x lf ≡ false
no_lf f h x e = ne_eqb x lf (λ z. clash (subst (λ (y : ℕ). f y ≡ true) z e) h)

plain_no_lf : (x : ℕ) → plain x ≡ true → eqb x lf ≡ false
unfolding plain
plain_no_lf = no_lf plain refl

-- what stands after a run of statement bytes is an LF exactly when the first line has such bytes alone and is ended
module _ (x : ℕ) (m : List ℕ) (k : eqb (get_or m (run_len plain m) 0) lf ≡ (all plain (text_of m) && ended_of m)) where
  plain_by : (p t : Bool) → plain x ≡ p → eqb x lf ≡ t
      → eqb (get_or (x ∷ m) (run_len plain (x ∷ m)) 0) lf ≡ (all plain (text_of (x ∷ m)) && ended_of (x ∷ m))
  plain_by true t e h = let n : eqb x lf ≡ false = plain_no_lf x e in rw (text_cons x m n, ended-cons x m n, e) k
  plain_by false true e h = rw (text_lf x m h, ended-lf x m h, e, h)
  plain_by false false e h = rw (text_cons x m h, e, h)

plain_line : (m : List ℕ) → eqb (get_or m (run_len plain m) 0) lf ≡ (all plain (text_of m) && ended_of m)
unfolding text_of ended_of upto
plain_line [] = refl
plain_line (x ∷ m) = plain_by x m (plain_line m) (plain x) (eqb x lf) refl refl

-- and the line is then that run
module _ (x : ℕ) (m : List ℕ) (k : eqb (get_or m (run_len plain m) 0) lf ≡ true → run_len plain m ≡ upto m) where
  run_by : (p : Bool) → plain x ≡ p → eqb (get_or (x ∷ m) (run_len plain (x ∷ m)) 0) lf ≡ true → run_len plain (x ∷ m) ≡ upto (x ∷ m)
  run_by true e = let n : eqb x lf ≡ false = plain_no_lf x e in rw (upto-cons x m n, e) (λ h. ap suc (k h))
  run_by false e = rw e (λ h. sym (upto-lf x m h))

run_line : (m : List ℕ) → eqb (get_or m (run_len plain m) 0) lf ≡ true → run_len plain m ≡ upto m
unfolding upto
run_line [] h = refl
run_line (x ∷ m) h = run_by x m (run_line m) (plain x) refl h

-- the tests of the code: of the first byte, of the second, of the byte after the run of statement bytes from the third on, and of its place
abbrev end_of : List ℕ → ℕ
end_of l = suc (suc (run_len plain (drop 2 l)))

abbrev pub tested : List ℕ → ℕ → Bool
tested l e = warp_byte (get_or l 0 0) && eqb (get_or l 1 0) tab && eqb (get_or l e 0) lf && leb e 2048

tests_by : (u p e b q c : Bool) → q ≡ (p && e) → (q ≡ true → c ≡ b) → (u && p && e && b) ≡ (u && q && c)
tests_by false p e b q c h k = refl
tests_by true p e b true c h k = rw (k refl, ← h)
tests_by true p e b false c h k = rw (← h)

module _ (x y : ℕ) (m : List ℕ) where
  laid_by : (s t : Bool) → eqb x lf ≡ s → eqb y lf ≡ t → laid_out (x ∷ (y ∷ m)) ≡ tested (x ∷ (y ∷ m)) (end_of (x ∷ (y ∷ m)))
  unfolding laid_out warp_byte
  laid_by true t e h = let z : x ≡ lf = eqb-true x lf e in rw (text_lf x (y ∷ m) e, z)
  laid_by false true e h = let z : y ≡ lf = eqb-true y lf h in rw (text_cons x (y ∷ m) e, text_lf y m h, z, and-false)
  laid_by false false e h =
      rw (text_cons x (y ∷ m) e, text_cons y m h, ended-cons x (y ∷ m) e, ended-cons y m h)
      (tests_by (warp_byte x && eqb y tab) (all plain (text_of m)) (ended_of m) (leb (suc (suc (length (text_of m)))) 2048) (eqb (get_or m (run_len plain m) 0) lf) (leb (suc (suc (run_len plain m))) 2048) (plain_line m) (λ k. ap (λ (n : ℕ). leb (suc (suc n)) 2048) (run_line m k ∙ sym (text_length m))))

  short_by : (s : Bool) → eqb x lf ≡ s → laid_out (x ∷ []) ≡ tested (x ∷ []) (end_of (x ∷ []))
  unfolding laid_out text_of upto warp_byte
  short_by true e = rw (text_lf x [] e, and-false)
  short_by false e = rw (text_cons x [] e, and-false)

laid-tested : (l : List ℕ) → laid_out l ≡ tested l (end_of l)
unfolding laid_out text_of upto warp_byte
laid-tested [] = refl
laid-tested (x ∷ []) = short_by x 0 [] (eqb x lf) refl
laid-tested (x ∷ (y ∷ m)) = laid_by x y m (eqb x lf) (eqb y lf) refl refl

-- a warp byte that is not * is a digit
pub warp_digit : (x : ℕ) → warp_byte x ≡ true → (x ≡ 42 → ⊥) → 48 ≤ x
unfolding warp_byte
warp_digit x e h = digit_by (leb 48 x) (leb x 51) (eqb x 42) refl refl e (ne_eqb x 42 h)
  where
    digit_by : (a b d : Bool) → leb 48 x ≡ a → eqb x 42 ≡ d → (a && b || d) ≡ true → eqb x 42 ≡ false → 48 ≤ x
    digit_by true b d p q r z = leb-true 48 x p
    digit_by false b true p q r z = never (sym z ∙ q)
    digit_by false b false p q r z = never r

module _ (l : List ℕ) (e : ℕ) (k : tested l e ≡ true) where
  split : ((warp_byte (get_or l 0 0) ≡ true) × (eqb (get_or l 1 0) tab ≡ true)) × (eqb (get_or l e 0) lf ≡ true)
  split =
      let a = and_split (warp_byte (get_or l 0 0) && eqb (get_or l 1 0) tab && eqb (get_or l e 0) lf) (leb e 2048) k in
      let b = and_split (warp_byte (get_or l 0 0) && eqb (get_or l 1 0) tab) (eqb (get_or l e 0) lf) a.0 in
      (and_split (warp_byte (get_or l 0 0)) (eqb (get_or l 1 0) tab) b.0, b.1)

end_by : (l : List ℕ) → ((warp_byte (get_or l 0 0) ≡ true) × (eqb (get_or l 1 0) tab ≡ true)) × (eqb (get_or l (end_of l) 0) lf ≡ true) → upto l ≡ end_of l
unfolding warp_byte
end_by [] k = never k.0.0
end_by (x ∷ []) k = never k.0.1
end_by (x ∷ (y ∷ m)) k = upto-cons x (y ∷ m) (no_lf warp_byte refl x k.0.0) ∙ ap suc (upto-cons y m (no_lf (λ z. eqb z tab) refl y k.0.1) ∙ ap suc (sym (run_line m k.1)))

-- the tests of a line that starts with a warp byte and has a byte more, by what follows these two
module _ (x y : ℕ) (t : List ℕ) where
  pub laid_tests : warp_byte x ≡ true → laid_out (x ∷ (y ∷ t)) ≡ (eqb y tab && eqb (get_or t (run_len plain t) 0) lf && leb (run_len plain t) 2046)
  laid_tests k = laid-tested (x ∷ (y ∷ t)) ∙ rw (k, leb-suc-suc (suc (run_len plain t)) 2047, leb-suc-suc (run_len plain t) 2046) refl

  pub laid_end : laid_out (x ∷ (y ∷ t)) ≡ true → upto (x ∷ (y ∷ t)) ≡ suc (suc (run_len plain t))
  laid_end h = end_by (x ∷ (y ∷ t)) (split (x ∷ (y ∷ t)) (end_of (x ∷ (y ∷ t))) (sym (laid-tested (x ∷ (y ∷ t))) ∙ h))

-- a line is none without a warp byte, or with nothing after it
pub unlaid_warp : (x : ℕ) (m : List ℕ) → warp_byte x ≡ false → laid_out (x ∷ m) ≡ false
unlaid_warp x m e = laid-tested (x ∷ m) ∙ rw e refl

pub unlaid_one : (x : ℕ) → laid_out (x ∷ []) ≡ false
unlaid_one x = laid-tested (x ∷ []) ∙ rw (and-false (warp_byte x)) refl

-- a line that is laid out has its warp byte and its tab
pub laid_warp : (l : List ℕ) → laid_out l ≡ true → (warp_byte (get_or l 0 0) ≡ true) × (eqb (get_or l 1 0) tab ≡ true)
laid_warp l h = (split l (end_of l) (sym (laid-tested l) ∙ h)).0

-- all its tests
pub laid_parts : (l : List ℕ) → laid_out l ≡ true
    → (warp_byte (get_or (text_of l) 0 0) ≡ true) × (eqb (get_or (text_of l) 1 0) tab ≡ true) × (all plain (drop 2 (text_of l)) ≡ true) × (ended_of l ≡ true) × (length (text_of l) ≤ 2048)
unfolding laid_out
laid_parts l h =
    let t = text_of l in
    let a = and_split (warp_byte (get_or t 0 0) && eqb (get_or t 1 0) tab && all plain (drop 2 t) && ended_of l) (leb (length t) 2048) h in
    let b = and_split (warp_byte (get_or t 0 0) && eqb (get_or t 1 0) tab && all plain (drop 2 t)) (ended_of l) a.0 in
    let d = and_split (warp_byte (get_or t 0 0) && eqb (get_or t 1 0) tab) (all plain (drop 2 t)) b.0 in
    let e = and_split (warp_byte (get_or t 0 0)) (eqb (get_or t 1 0) tab) d.0 in
    (e.0, e.1, d.1, b.1, leb-true (length t) 2048 a.1)

-- it is ended by an LF, and has at most 2,048 bytes before that
pub laid-ended : (l : List ℕ) → laid_out l ≡ true → (upto l < length l) × (upto l ≤ 2048)
unfolding ended_of
laid-ended l h = let a = laid_parts l h in (ltb-true (upto l) (length l) a.3, omega (arith, a.4, text_length l))

-- it ends after them
pub laid_two : (l : List ℕ) → laid_out l ≡ true → 2 ≤ upto l
laid_two l h = omega (arith, end_by l (split l (end_of l) (sym (laid-tested l) ∙ h)))
