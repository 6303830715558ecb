-- The header: its bytes and an LF stand at the start exactly when the first line is the header, and ended; and line 2 starts after them. Assumes nothing.
use Prim.Native.Nat.{ℕ, suc, ◌≤◌}
use native.Mathlib.Omega.{arith}
use mathlib.Core.Path.{◌≡◌, refl, sym, ap, ◌∙◌}
use mathlib.Core.List.{List, [], ◌∷◌, ◌++◌}
use mathlib.Core.Bool.{Bool, true, false, not, ◌&&◌, and-false}
use lib.ListN.{length, take, drop}
use lib.Pointwise.{pointwise}
use lib.Dec.{eqb}
use borrow.Author.Tests.{ltb-true, eqb-true, not-true}
use Rattle.std.proofs.lemmas.Bool.Decides.{same_from_decides, Decides-eqb}
use Rattle.laws.proofs.BoolLaws.{and_split, and_swap}
use Rattle.tokens.specs.Text.{lf}
use Rattle.tokens.specs.Bytes.{all, same_bytes}
use Rattle.tokens.proofs.Bytes.{same_eq}
use Rattle.lines.specs.Sheet.{upto, text_of, ended_of, rest, after, line_count, header, body_at, headed}
use Rattle.lines.proofs.LineLaws.{text_cons, ended-cons, text_lf, ended-lf, text_length, count_line}

-- ---- the header

-- the bytes of a list are the first of another
abbrev starts : List ℕ → List ℕ → Bool
starts m s = pointwise eqb m (take (length m) s)

eqb_sym : (x y : ℕ) → eqb x y ≡ eqb y x
eqb_sym x y = same_from_decides (eqb x y) (eqb y x) (Decides-eqb x y) (let d = Decides-eqb y x in (λ h. sym (d.0 h), λ h. d.1 (sym h)))

module _ (s y : ℕ) (l m : List ℕ) (z : eqb lf y ≡ false) (k : starts (m ++ lf ∷ []) l ≡ (ended_of l && same_bytes (text_of l) m)) where
  head_by : (t : Bool) → eqb s lf ≡ t → (eqb y s && starts (m ++ lf ∷ []) l) ≡ (ended_of (s ∷ l) && same_bytes (text_of (s ∷ l)) (y ∷ m))
  head_by true e = let q : s ≡ lf = eqb-true s lf e in rw (text_lf s l e, and-false, q, eqb_sym y lf, z)
  head_by false e = rw (text_cons s l e, ended-cons s l e, k, eqb_sym y s) (and_swap (eqb s y) (ended_of l) (same_bytes (text_of l) m))

last_by : (s : ℕ) (l : List ℕ) (t : Bool) → eqb s lf ≡ t → (eqb lf s && true) ≡ (ended_of (s ∷ l) && same_bytes (text_of (s ∷ l)) [])
last_by s l true e = rw (text_lf s l e, ended-lf s l e, eqb_sym lf s, e)
last_by s l false e = rw (text_cons s l e, and-false, eqb_sym lf s, e)

-- the bytes of a line and an LF stand at the start exactly when the first line is that line, and ended
line_is : (w s : List ℕ) → all (λ x. not (eqb lf x)) w ≡ true → starts (w ++ lf ∷ []) s ≡ (ended_of s && same_bytes (text_of s) w)
unfolding ended_of upto
line_is [] [] k = refl
line_is [] (x ∷ l) k = last_by x l (eqb x lf) refl
line_is (y ∷ m) [] k = refl
line_is (y ∷ m) (x ∷ l) k =
    let p = and_split (not (eqb lf y)) (all (λ x. not (eqb lf x)) m) k in
    head_by x y l m (not-true (eqb lf y) p.0) (line_is m l p.1) (eqb x lf) refl

-- line 1 with its LF stands at the start
pub headed_starts : (s : List ℕ) → headed s ≡ pointwise eqb (header ++ lf ∷ []) (take 16 s)
unfolding headed
headed_starts s = sym (line_is header s refl)

-- ---- after the header

-- a sheet that begins with its header: line 2 starts after it
module _ (s : List ℕ) (h : headed s ≡ true) where
  headed_split : (ended_of s ≡ true) × (text_of s ≡ header)
  unfolding headed
  headed_split = let a = and_split (ended_of s) (same_bytes (text_of s) header) h in (a.0, same_eq (text_of s) header a.1)

  header-end : suc (upto s) ≡ body_at
  header-end = ap suc (sym (text_length s) ∙ ap length headed_split.1)

  pub header-inside : body_at ≤ length s
  unfolding ended_of
  header-inside = omega (arith, ltb-true (upto s) (length s) headed_split.0, header-end)

  header-rest : drop body_at s ≡ rest s
  unfolding rest
  header-rest = rw header-end

  pub header-after : drop body_at s ≡ after 1 s
  unfolding after
  header-after = header-rest

  pub header-counted : line_count s ≡ suc (line_count (drop body_at s))
  header-counted = count_line s (omega (arith, header-inside)) ∙ ap (λ (l : List ℕ). suc (line_count l)) (sym header-rest)
