-- A row of tokens, expressions among them, stops at the first token at which it cannot go on: one induction over the bytes that are left and over the row, for every
-- row whose branches begin with different tokens. Assumes nothing.
use Prim.Native.Nat.{ℕ, zero, suc, ◌≤◌, ◌<◌}
use native.Mathlib.Nat.{add-zero}
use native.Mathlib.Omega.{arith}
use mathlib.Core.Path.{◌≡◌, refl, sym, ap, ◌∙◌}
use mathlib.Core.List.{List, [], ◌∷◌, ◌++◌, append_assoc}
use mathlib.Core.Bool.{Bool, true, false, ◌||◌, cond}
use lib.ListN.{length, get_or, take, drop, length-drop}
use lib.Seq.{take_at, drop_at, length-take-le, get_or-drop}
use lib.Dec.{eqb}
use borrow.Author.Tests.{ne_eqb, eqb-true}
use Rattle.tokens.specs.Text.{byte}
use Rattle.tokens.specs.Numbers.{spells, is_number}
use Rattle.tokens.specs.Bytes.{letter, word_byte, blank, run_len, after_blanks, token_len, token_of, after_token}
use Rattle.grammar.specs.Claims.{After, here, past}
use Rattle.laws.proofs.BoolLaws.{never, cond_same}
use Rattle.tokens.proofs.Runs.{run_le, run_all, all_run, run_next}
use Rattle.tokens.proofs.Lengths.{token_le}
use Rattle.grammar.specs.Spells.{spaces}
use Rattle.grammar.proofs.Lexing.{blanks_parts, spaces_skip, starts, token_parts}

-- ---- rows
-- where reading stands: what is left, and whether all before it did fit
pub record Stand : Type 0 where
  pub rest : List ℕ
  pub ok : Bool

abbrev pub good : List ℕ → Stand
good l = record { rest = l; ok = true }

abbrev pub bad : List ℕ → Stand
bad l = record { rest = l; ok = false }

-- a kind of token: a test of its bytes, and a token of one byte that passes
pub record Kind : Type 0 where
  pub test : List ℕ → Bool
  pub none : test [] ≡ false
  pub wit : ℕ
  pub fits : test (wit ∷ []) ≡ true
  pub dark : blank wit ≡ false

-- the kinds of an expression's tokens, and how they differ
pub record Signs : Type 0 where
  pub number : Kind
  pub opens : Kind
  pub minus : Kind
  pub closes : Kind
  pub operator : Kind
  pub opens-number : opens.test (number.wit ∷ []) ≡ false
  pub minus_number : minus.test (number.wit ∷ []) ≡ false
  pub operator_closes : operator.test (closes.wit ∷ []) ≡ false

unfoldable pub signs : Signs
unfolding is_number spells blank
signs = record {
  number = record { test = is_number; none = refl; wit = byte "0"; fits = refl; dark = refl };
  opens = record { test = λ w. eqb (get_or w 0 0) (byte "("); none = refl; wit = byte "("; fits = refl; dark = refl };
  minus = record { test = λ w. eqb (get_or w 0 0) (byte "-"); none = refl; wit = byte "-"; fits = refl; dark = refl };
  closes = record { test = λ w. eqb (get_or w 0 0) (byte ")"); none = refl; wit = byte ")"; fits = refl; dark = refl };
  operator = record { test = λ w. eqb (get_or w 0 0) (byte "+") || eqb (get_or w 0 0) (byte "-") || eqb (get_or w 0 0) (byte "*"); none = refl; wit = byte "+"; fits = refl; dark = refl };
  opens-number = refl;
  minus_number = refl;
  operator_closes = refl;
}

-- what may follow: nothing; a token of a kind; after a token of a kind one thing, else, at any other token, another; a factor, so many levels being left; operators
-- with a factor behind each
pub data Row : Type 0 where
  end : Row
  one : Kind → Row → Row
  branch : Kind → Row → Row → Row
  factor : ℕ → Row → Row
  chain : ℕ → Row → Row

-- the first token, and what follows it
abbrev pub tok : List ℕ → List ℕ
tok l = token_of (after_blanks l)

abbrev pub rest : List ℕ → List ℕ
rest l = after_token (after_blanks l)

-- the tokens of a row, which spaces may precede, and nothing after the last; x reads what comes after one of the tokens of an expression
unfoldable pub within : (Row → List ℕ → Stand) → Row → List ℕ → Stand
within x end l = cond (eqb (length l) 0) (good l) (bad l)
within x (one f g) l = cond (f.test (tok l)) (within x g (rest l)) (bad (after_blanks l))
within x (branch f g h) l = cond (f.test (tok l)) (within x g (rest l)) (within x h l)
within x (factor zero g) l = cond (signs.number.test (tok l)) (within x g (rest l)) (bad (after_blanks l))
within x (factor (suc d) g) l =
    cond (signs.opens.test (tok l)) (x (factor d (chain d (one signs.closes g))) (rest l))
    (cond (signs.minus.test (tok l)) (x (factor d g) (rest l)) (cond (signs.number.test (tok l)) (within x g (rest l)) (bad (after_blanks l))))
within x (chain d g) l = cond (signs.operator.test (tok l)) (x (factor d (chain d g)) (rest l)) (within x g l)

unfoldable pub reads_by : ℕ → Row → List ℕ → Stand
reads_by zero g l = within (λ h m. bad m) g l
reads_by (suc n) g l = within (reads_by n) g l

unfoldable pub reads : Row → List ℕ → Stand
reads g l = reads_by (length l) g l

-- ---- no more turns than bytes
some : (f : Kind) (b : List ℕ) → f.test (token_of b) ≡ true → 0 < length b
unfolding token_of token_len
some f [] e = never (sym f.none ∙ e)
some f (x ∷ b) e = omega arith

token_some : (l : List ℕ) → 0 < length l → 0 < token_len l
unfolding token_len
token_some [] h = absurd (omega arith)
token_some (x ∷ l) h = omega arith

rest_le : (l : List ℕ) → length (rest l) ≤ length l
unfolding after_blanks after_token
rest_le l = omega (arith, length-drop (run_len blank l) l, length-drop (token_len (drop (run_len blank l) l)) (drop (run_len blank l) l))

rest_less : (f : Kind) (l : List ℕ) → f.test (tok l) ≡ true → length (rest l) < length l
rest_less f l e = unfold after_blanks after_token in (
    let m : 0 < length (drop (run_len blank l) l) = some f (after_blanks l) e in
    omega (arith, m, token_some (drop (run_len blank l) l) m, length-drop (run_len blank l) l, length-drop (token_len (drop (run_len blank l) l)) (drop (run_len blank l) l))
    )

-- two readers that agree on what is shorter
module _ (x y : Row → List ℕ → Stand) (k : ℕ) (e : (g : Row) (l : List ℕ) → length l < k → x g l ≡ y g l) where
  agree : (g : Row) (l : List ℕ) → length l ≤ k → within x g l ≡ within y g l
  unfolding within
  agree end l h = refl
  agree (one f g) l h = ap (λ (z : Stand). cond (f.test (tok l)) z (bad (after_blanks l))) (agree g (rest l) (omega (arith, h, rest_le l)))
  agree (branch f g h) l b =
      ap (λ (z : Stand). cond (f.test (tok l)) z (within x h l)) (agree g (rest l) (omega (arith, b, rest_le l)))
      ∙ ap (cond (f.test (tok l)) (within y g (rest l))) (agree h l b)
  agree (factor zero g) l h = ap (λ (z : Stand). cond (signs.number.test (tok l)) z (bad (after_blanks l))) (agree g (rest l) (omega (arith, h, rest_le l)))
  agree (factor (suc d) g) l h =
      at (signs.opens.test (tok l)) refl (signs.minus.test (tok l)) refl (ap (λ (z : Stand). cond (signs.number.test (tok l)) z (bad (after_blanks l))) (agree g (rest l) (omega (arith, h, rest_le l))))
    where
      at : (a : Bool) → signs.opens.test (tok l) ≡ a → (b : Bool) → signs.minus.test (tok l) ≡ b → {u v : Stand} → u ≡ v
          → cond a (x (factor d (chain d (one signs.closes g))) (rest l)) (cond b (x (factor d g) (rest l)) u) ≡ cond a (y (factor d (chain d (one signs.closes g))) (rest l)) (cond b (y (factor d g) (rest l)) v)
      at true p b q i = e (factor d (chain d (one signs.closes g))) (rest l) (omega (arith, h, rest_less signs.opens l p))
      at false p true q i = e (factor d g) (rest l) (omega (arith, h, rest_less signs.minus l q))
      at false p false q i = i
  agree (chain d g) l h = at (signs.operator.test (tok l)) refl (agree g l h)
    where
      at : (a : Bool) → signs.operator.test (tok l) ≡ a → within x g l ≡ within y g l → cond a (x (factor d (chain d g)) (rest l)) (within x g l) ≡ cond a (y (factor d (chain d g)) (rest l)) (within y g l)
      at true p i = e (factor d (chain d g)) (rest l) (omega (arith, h, rest_less signs.operator l p))
      at false p i = i

turns : (n m : ℕ) (g : Row) (l : List ℕ) → length l ≤ n → length l ≤ m → reads_by n g l ≡ reads_by m g l
unfolding reads_by
turns zero zero g l a b = refl
turns zero (suc m) g l a b = agree (λ h q. bad q) (reads_by m) (length l) (λ h q c. absurd (omega (arith, a, c))) g l (omega arith)
turns (suc n) zero g l a b = agree (reads_by n) (λ h q. bad q) (length l) (λ h q c. absurd (omega (arith, b, c))) g l (omega arith)
turns (suc n) (suc m) g l a b = agree (reads_by n) (reads_by m) (length l) (λ h q c. turns n m h q (omega (arith, a, c)) (omega (arith, b, c))) g l (omega arith)

-- so each token is read, and then the rest from it on
by_turns : (n : ℕ) (g : Row) (l : List ℕ) → length l ≤ n → reads_by n g l ≡ reads g l
unfolding reads
by_turns n g l h = turns n (length l) g l h (omega arith)

-- the reader behind the tokens of an expression: of a text not longer than k, what is shorter
abbrev Reader : (Row → List ℕ → Stand) → ℕ → Type 0
Reader x k = (g : Row) (l : List ℕ) → length l < k → x g l ≡ reads g l

reader : (k : ℕ) → (x : Row → List ℕ → Stand) × ((g : Row) (l : List ℕ) → length l ≡ k → reads g l ≡ within x g l) × Reader x k
unfolding reads reads_by
reader zero = (λ h m. bad m, λ g l e. rw e, λ g l h. absurd (omega arith))
reader (suc n) = (reads_by n, λ g l e. rw e, λ g l h. turns n (length l) g l (omega (arith, h)) (omega arith))

-- reading the rest of a row by it
inside : (x : Row → List ℕ → Stand) (k : ℕ) → Reader x k → (g : Row) (l : List ℕ) → length l ≤ k → within x g l ≡ reads g l
inside x k r g l h =
    let z = reader (length l) in
    sym (z.1 g l refl ∙ agree z.0 x (length l) (λ g₁ m c. z.2 g₁ m c ∙ sym (r g₁ m (omega (arith, h, c)))) g l (omega arith))

-- the clauses, one token at a time
module _ (l : List ℕ) where
  pub reads_end : reads end l ≡ cond (eqb (length l) 0) (good l) (bad l)
  unfolding within
  reads_end = (reader (length l)).1 end l refl

  pub reads-one : (f : Kind) (g : Row) → reads (one f g) l ≡ cond (f.test (tok l)) (reads g (rest l)) (bad (after_blanks l))
  unfolding within
  reads-one f g =
      let z = reader (length l) in
      z.1 (one f g) l refl ∙ ap (λ (y : Stand). cond (f.test (tok l)) y (bad (after_blanks l))) (inside z.0 (length l) z.2 g (rest l) (rest_le l))

  pub reads-branch : (f : Kind) (g h : Row) → reads (branch f g h) l ≡ cond (f.test (tok l)) (reads g (rest l)) (reads h l)
  unfolding within
  reads-branch f g h =
      let z = reader (length l) in
      z.1 (branch f g h) l refl
      ∙ ap (λ (y : Stand). cond (f.test (tok l)) y (within z.0 h l)) (inside z.0 (length l) z.2 g (rest l) (rest_le l))
      ∙ ap (cond (f.test (tok l)) (reads g (rest l))) (inside z.0 (length l) z.2 h l (omega arith))

  -- a row that stands for another: a factor, and a chain, by what comes first
  pub reads-chain : (d : ℕ) (g : Row) → reads (chain d g) l ≡ reads (branch signs.operator (factor d (chain d g)) g) l
  unfolding within
  reads-chain d g = z.1 (chain d g) l refl ∙ at (signs.operator.test (tok l)) refl ∙ sym (reads-branch signs.operator (factor d (chain d g)) g)
    where
      z : (x : Row → List ℕ → Stand) × ((g : Row) (m : List ℕ) → length m ≡ length l → reads g m ≡ within x g m) × Reader x (length l)
      z = reader (length l)

      at : (a : Bool) → signs.operator.test (tok l) ≡ a → cond a (z.0 (factor d (chain d g)) (rest l)) (within z.0 g l) ≡ cond a (reads (factor d (chain d g)) (rest l)) (reads g l)
      at true p = z.2 (factor d (chain d g)) (rest l) (rest_less signs.operator l p)
      at false p = inside z.0 (length l) z.2 g l (omega arith)

  pub reads-number : (g : Row) → reads (factor zero g) l ≡ reads (one signs.number g) l
  unfolding within
  reads-number g =
      let z = reader (length l) in
      z.1 (factor zero g) l refl ∙ ap (λ (y : Stand). cond (signs.number.test (tok l)) y (bad (after_blanks l))) (inside z.0 (length l) z.2 g (rest l) (rest_le l)) ∙ sym (reads-one signs.number g)

  pub reads-factor : (d : ℕ) (g : Row) → reads (factor (suc d) g) l ≡ reads (branch signs.opens (factor d (chain d (one signs.closes g))) (branch signs.minus (factor d g) (one signs.number g))) l
  unfolding within
  reads-factor d g =
      z.1 (factor (suc d) g) l refl
      ∙ at (signs.opens.test (tok l)) refl (signs.minus.test (tok l)) refl
      ∙ sym (reads-branch signs.opens (factor d (chain d (one signs.closes g))) (branch signs.minus (factor d g) (one signs.number g))
      ∙ ap (cond (signs.opens.test (tok l)) (reads (factor d (chain d (one signs.closes g))) (rest l)))
      (reads-branch signs.minus (factor d g) (one signs.number g) ∙ ap (cond (signs.minus.test (tok l)) (reads (factor d g) (rest l))) (reads-one signs.number g)))
    where
      z : (x : Row → List ℕ → Stand) × ((g : Row) (m : List ℕ) → length m ≡ length l → reads g m ≡ within x g m) × Reader x (length l)
      z = reader (length l)

      tail : (x : Stand) → Stand
      tail x = cond (signs.number.test (tok l)) x (bad (after_blanks l))

      at : (a : Bool) → signs.opens.test (tok l) ≡ a → (b : Bool) → signs.minus.test (tok l) ≡ b
          → cond a (z.0 (factor d (chain d (one signs.closes g))) (rest l)) (cond b (z.0 (factor d g) (rest l)) (tail (within z.0 g (rest l))))
          ≡ cond a (reads (factor d (chain d (one signs.closes g))) (rest l)) (cond b (reads (factor d g) (rest l)) (tail (reads g (rest l))))
      at true p b q = z.2 (factor d (chain d (one signs.closes g))) (rest l) (rest_less signs.opens l p)
      at false p true q = z.2 (factor d g) (rest l) (rest_less signs.minus l q)
      at false p false q = ap tail (inside z.0 (length l) z.2 g (rest l) (rest_le l))

-- ---- runs
pub head_none : (f : ℕ → Bool) (y : List ℕ) → f (get_or y 0 0) ≡ false → run_len f y ≡ 0
head_none f [] h = refl
head_none f (x ∷ y) h = rw h

run_replay : (f : ℕ → Bool) (z y : List ℕ) → f (get_or y 0 0) ≡ false → run_len f (take (run_len f z) z ++ y) ≡ run_len f z
run_replay f z y h = run_all f (take (run_len f z) z) y (all_run f z) (head_none f y h) ∙ length-take-le (run_len f z) z (run_le f z)

pub run_stops : (f : ℕ → Bool) (z : List ℕ) → f 0 ≡ false → f (get_or (drop (run_len f z) z) 0 0) ≡ false
run_stops f z h = rw (get_or-drop (run_len f z) z 0 0, add-zero (run_len f z)) (run_next f h z)

-- ---- blanks
abbrev blanks : List ℕ → List ℕ
blanks l = spaces (run_len blank l)

blanks-end : (l : List ℕ) → blank (get_or (after_blanks l) 0 0) ≡ false
unfolding after_blanks blank
blanks-end l = run_stops blank l refl

dark_stays : (x : List ℕ) → blank (get_or x 0 0) ≡ false → after_blanks x ≡ x
unfolding after_blanks
dark_stays x h = rw (head_none blank x h)

-- ---- tokens
token_head : (l : List ℕ) → get_or (token_of l) 0 0 ≡ get_or l 0 0
unfolding token_of token_len
token_head [] = refl
token_head (x ∷ l) = refl

pub same_head : (t l : List ℕ) → token_of t ≡ token_of l → get_or t 0 0 ≡ get_or l 0 0
same_head t l e = sym (token_head t) ∙ (ap (λ (w : List ℕ). get_or w 0 0) e ∙ token_head l)

pub heads : (p t l : List ℕ) → get_or t 0 0 ≡ get_or l 0 0 → get_or (p ++ t) 0 0 ≡ get_or (p ++ l) 0 0
heads [] t l h = h
heads (x ∷ p) t l h = refl

pub lights : (f : ℕ → Bool) (p t l : List ℕ) → f (get_or t 0 0) ≡ false → f (get_or (p ++ l) 0 0) ≡ false → f (get_or (p ++ t) 0 0) ≡ false
lights f [] t l h g = h
lights f (x ∷ p) t l h g = g

-- a token b, before y, stays as it is
abbrev pub Seam : List ℕ → List ℕ → Type 0
Seam b y = starts (get_or b 0 0) ≡ true → word_byte (get_or y 0 0) ≡ false

pub token_ends : (b : List ℕ) → Seam b (after_token b)
unfolding after_token token_len word_byte letter
token_ends [] w = refl
token_ends (x ∷ z) w = rw w (run_stops word_byte z refl)

len_replay : (b y : List ℕ) → 0 < length b → Seam b y → token_len (token_of b ++ y) ≡ token_len b
unfolding token_of token_len
len_replay [] y n h = absurd (omega arith)
len_replay (x ∷ z) y n h = go (starts x) refl
  where
    go : (w : Bool) → starts x ≡ w → suc (cond w (run_len word_byte (take (cond w (run_len word_byte z) 0) z ++ y)) 0) ≡ suc (cond w (run_len word_byte z) 0)
    go true e = rw (run_replay word_byte z y (h e))
    go false e = refl

module _ (b y : List ℕ) (n : 0 < length b) (h : Seam b y) where
  pub token_replay : token_of (token_of b ++ y) ≡ token_of b
  unfolding token_of
  token_replay = rw (len_replay b y n h) (take_at (take (token_len b) b) y (token_len b) (length-take-le (token_len b) b (token_le b)))

  rest_replay : after_token (token_of b ++ y) ≡ y
  unfolding token_of after_token
  rest_replay = rw (len_replay b y n h) (drop_at (take (token_len b) b) y (token_len b) (length-take-le (token_len b) b (token_le b)))

-- ---- what is left after some tokens
blank-past : (x : ℕ) (s : List ℕ) → blank x ≡ true → after_token (x ∷ s) ≡ s
unfolding blank after_token token_len word_byte letter
blank-past x s e = rw (eqb-true x (byte " ") e)

after_blanks_lem : (s l : List ℕ) → After (after_blanks s) l → After s l
unfolding after_blanks
after_blanks_lem [] l a = a
after_blanks_lem (x ∷ s) l a = go (blank x) refl a (after_blanks_lem s l)
  where
    go : (b : Bool) → blank x ≡ b → After (drop (cond b (suc (run_len blank s)) 0) (x ∷ s)) l → (After (drop (run_len blank s) s) l → After s l) → After (x ∷ s) l
    go true e k i = let z : After (after_token (x ∷ s)) l = rw (blank-past x s e) (i k) in past z
    go false e k i = k

-- ---- a text that a row takes
head_stays : (b y : List ℕ) → 0 < length b → get_or (token_of b ++ y) 0 0 ≡ get_or b 0 0
unfolding token_of token_len
head_stays [] y n = absurd (omega arith)
head_stays (x ∷ b) y n = refl

-- a space and a byte for each token, the shorter way at each branch
abbrev pub easy : Row → List ℕ
easy end = []
easy (one f g) = byte " " ∷ f.wit ∷ easy g
easy (branch f g h) = easy h
easy (factor d g) = byte " " ∷ signs.number.wit ∷ easy g
easy (chain d g) = easy g

abbrev pub Open : Row → Type 0
Open end = ⊥
Open (one f g) = Unit {0}
Open (branch f g h) = Unit {0}
Open (factor d g) = Unit {0}
Open (chain d g) = Unit {0}

-- at each branch the other way begins with another token
abbrev pub Good : Row → Type 0
Good end = Unit {0}
Good (one f g) = Good g
Good (branch f g h) = Open h × (f.test (token_of (after_blanks (easy h))) ≡ false) × Good g × Good h
Good (factor d g) = Good g
Good (chain d g) = Open g × (signs.operator.test (token_of (after_blanks (easy g))) ≡ false) × Good g

-- nothing, or a space first
abbrev pub Light : List ℕ → Type 0
Light y = (f : ℕ → Bool) → f (byte " ") ≡ false → f 0 ≡ false → f (get_or y 0 0) ≡ false

light_word : (y : List ℕ) → Light y → word_byte (get_or y 0 0) ≡ false
unfolding word_byte letter
light_word y h = h word_byte refl refl

easy_light : (g : Row) → Light (easy g)
easy_light end f a b = b
easy_light (one f g) k a b = a
easy_light (branch f g h) k a b = easy_light h k a b
easy_light (factor d g) k a b = a
easy_light (chain d g) k a b = easy_light g k a b

abbrev pub Past : Kind → Row → Row → Type 0
Past f g r = (x : List ℕ) → f.test (token_of (after_blanks x)) ≡ true → reads r x ≡ reads g (after_token (after_blanks x))

pub one_yes : (f : Kind) (g : Row) → Past f g (one f g)
one_yes f g x e = reads-one x f g ∙ rw e

one_no : (f : Kind) (g : Row) (x : List ℕ) → f.test (token_of (after_blanks x)) ≡ false → reads (one f g) x ≡ bad (after_blanks x)
one_no f g x e = reads-one x f g ∙ rw e

pub branch_yes : (f : Kind) (g h : Row) → Past f g (branch f g h)
branch_yes f g h x e = reads-branch x f g h ∙ rw e

pub branch_no : (f : Kind) (g h : Row) (x : List ℕ) → f.test (token_of (after_blanks x)) ≡ false → reads (branch f g h) x ≡ reads h x
branch_no f g h x e = reads-branch x f g h ∙ rw e

abbrev ok_of : Stand → Bool
ok_of r = r.ok

abbrev pub takes : Row → List ℕ → Bool
takes g l = (reads g l).ok

easy_first : (f : Kind) (g : Row) → token_len (f.wit ∷ easy g) ≡ 1
unfolding token_len
easy_first f g = rw (head_none word_byte (easy g) (light_word (easy g) (easy_light g)), cond_same)

easy_blank : (f : Kind) (y : List ℕ) → after_blanks (byte " " ∷ f.wit ∷ y) ≡ f.wit ∷ y
unfolding after_blanks blank
easy_blank f y = rw f.dark

easy_tok : (f : Kind) (g : Row) → token_of (after_blanks (byte " " ∷ f.wit ∷ easy g)) ≡ f.wit ∷ []
unfolding token_of
easy_tok f g = rw (easy_blank f (easy g), easy_first f g)

easy_rest : (f : Kind) (g : Row) → after_token (after_blanks (byte " " ∷ f.wit ∷ easy g)) ≡ easy g
unfolding after_token
easy_rest f g = rw (easy_blank f (easy g), easy_first f g)

-- the tests of an expression's kinds at such tokens
factor-good : (d : ℕ) (g : Row) → Good g → Good (branch signs.opens (factor d (chain d (one signs.closes g))) (branch signs.minus (factor d g) (one signs.number g)))
factor-good d g k =
    let n = easy_tok signs.number g in (
      tt,
      ap signs.opens.test n ∙ signs.opens-number,
      (tt, ap signs.operator.test (easy_tok signs.closes g) ∙ signs.operator_closes, k),
      (tt, ap signs.minus.test n ∙ signs.minus_number, k, k),
    )

chain-good : (d : ℕ) (g : Row) → Good (chain d g) → Good (branch signs.operator (factor d (chain d g)) g)
chain-good d g k = (k.0, k.1, k, k.2)

one-goes : (f : Kind) (g : Row) → (reads g (easy g)).ok ≡ true → (reads (one f g) (byte " " ∷ f.wit ∷ easy g)).ok ≡ true
one-goes f g i =
    let x = byte " " ∷ f.wit ∷ easy g in
    ap ok_of (one_yes f g x (ap f.test (easy_tok f g) ∙ f.fits) ∙ ap (reads g) (easy_rest f g)) ∙ i

easy_goes : (g : Row) → Good g → (reads g (easy g)).ok ≡ true
easy_goes end k = ap ok_of (reads_end [])
easy_goes (one f g) k = one-goes f g (easy_goes g k)
easy_goes (branch f g h) k = ap ok_of (branch_no f g h (easy h) k.1) ∙ easy_goes h k.3
easy_goes (factor zero g) k = ap ok_of (reads-number (easy (factor zero g)) g) ∙ one-goes signs.number g (easy_goes g k)
easy_goes (factor (suc d) g) k =
    let x = easy (factor (suc d) g) in
    let y = factor-good d g k in
    ap ok_of (reads-factor x d g ∙ branch_no signs.opens (factor d (chain d (one signs.closes g))) (branch signs.minus (factor d g) (one signs.number g)) x y.1 ∙ branch_no signs.minus (factor d g) (one signs.number g) x y.3.1)
    ∙ one-goes signs.number g (easy_goes g k)
easy_goes (chain d g) k = ap ok_of (reads-chain (easy g) d g ∙ branch_no signs.operator (factor d (chain d g)) g (easy g) k.1) ∙ easy_goes g k.2

-- ---- what is shown of a row: where it stops, and that a text tried in place of s begins with s's first token, or with the row's easy one
pub record Stop (g : Row) (s l : List ℕ) : Type 0 where
  pub reached : After s l
  pub before : List ℕ
  pub parts : s ≡ before ++ l
  pub more : List ℕ
  pub light : Light more
  pub goes : takes g (before ++ more) ≡ true
  pub stuck : (t : List ℕ) → token_of t ≡ token_of l → takes g (before ++ t) ≡ false
  pub first_more : Open g → (f : Kind) → f.test (token_of (after_blanks s)) ≡ false → f.test (token_of (after_blanks (easy g))) ≡ false → f.test (token_of (after_blanks (before ++ more))) ≡ false
  pub first_same : Open g → (t : List ℕ) → token_of t ≡ token_of l → token_of (after_blanks (before ++ t)) ≡ token_of (after_blanks s)

-- ---- the end
end_bad : (y : ℕ) (t : List ℕ) → reads end (y ∷ t) ≡ bad (y ∷ t)
end_bad y t = let z : eqb (suc (length t)) 0 ≡ false = ne_eqb (suc (length t)) 0 (omega arith) in reads_end (y ∷ t) ∙ rw z

end_stuck : (x : ℕ) (s t : List ℕ) → token_of t ≡ token_of (x ∷ s) → takes end t ≡ false
unfolding token_of token_len
end_stuck x s [] e = absurd (let z : ◌≡◌ {A = ℕ} 0 1 = cc in omega arith)
end_stuck x s (y ∷ t) e = ap ok_of (end_bad y t)

end-stops : (s l : List ℕ) → reads end s ≡ bad l → Stop end s l
end-stops [] l h = never (sym (ap ok_of (sym (reads_end []) ∙ h)))
end-stops (x ∷ s) l h =
    let q : x ∷ s ≡ l = ap (λ (r : Stand). r.rest) (sym (end_bad x s) ∙ h) in
    record {
      reached = rw (← q) here;
      before = [];
      parts = q;
      more = [];
      light = λ f a b. b;
      goes = ap ok_of (reads_end []);
      stuck = λ t e. end_stuck x s t (e ∙ ap (λ (w : List ℕ). token_of w) (sym q));
      first_more = λ o. absurd o;
      first_same = λ o. absurd o;
    }

-- ---- at the first token
stays : (s y : List ℕ) → 0 < length (after_blanks s) → after_blanks (blanks s ++ (token_of (after_blanks s) ++ y)) ≡ token_of (after_blanks s) ++ y
stays s y n =
    let b = after_blanks s in
    spaces_skip (run_len blank s) (token_of b ++ y) ∙ dark_stays (token_of b ++ y) (rw (head_stays b y n) (blanks-end s))

one_skip : (f : Kind) (g : Row) (x y : List ℕ) → after_blanks x ≡ after_blanks y → reads (one f g) x ≡ reads (one f g) y
one_skip f g x y p = reads-one x f g ∙ ap (λ (b : List ℕ). cond (f.test (token_of b)) (reads g (after_token b)) (bad b)) p ∙ sym (reads-one y f g)

here-stops : (f : Kind) (g : Row) (s l : List ℕ) → Good g → f.test (token_of (after_blanks s)) ≡ false → reads (one f g) s ≡ bad l → Stop (one f g) s l
here-stops f g s l k e h =
    let q : after_blanks s ≡ l = ap (λ (r : Stand). r.rest) (sym (one_no f g s e) ∙ h) in
    let same : (t : List ℕ) → token_of t ≡ token_of l → token_of (after_blanks (blanks s ++ t)) ≡ token_of (after_blanks s) =
    λ t i.
    let j : token_of t ≡ token_of (after_blanks s) = i ∙ ap (λ (w : List ℕ). token_of w) (sym q) in
    let d : after_blanks t ≡ t = dark_stays t (rw (same_head t (after_blanks s) j) (blanks-end s)) in
    ap (λ (w : List ℕ). token_of w) (spaces_skip (run_len blank s) t ∙ d) ∙ j in
    let x = easy (one f g) in
    let skip : after_blanks (blanks s ++ x) ≡ after_blanks x = spaces_skip (run_len blank s) x in
    let arrived : After (after_blanks s) l = rw q here in
    record {
      reached = after_blanks_lem s l arrived;
      before = blanks s;
      parts = rw (← q) (blanks_parts s);
      more = x;
      light = easy_light (one f g);
      goes = ap ok_of (one_skip f g (blanks s ++ x) x skip) ∙ easy_goes (one f g) k;
      stuck = λ t i. ap ok_of (one_no f g (blanks s ++ t) (ap f.test (same t i) ∙ e));
      first_more = λ o f₁ a b. rw skip b;
      first_same = λ o. same;
    }

-- ---- past the first token
past-stops : (f : Kind) (g r : Row) → Past f g r → (s l : List ℕ) → f.test (token_of (after_blanks s)) ≡ true → Stop g (after_token (after_blanks s)) l → Stop r s l
past-stops f g r law s l e i =
    let b = after_blanks s in
    let n : 0 < length b = some f b e in
    let join : (t : List ℕ) → (blanks s ++ (token_of b ++ i.before)) ++ t ≡ blanks s ++ (token_of b ++ (i.before ++ t)) = λ t. simp append_assoc in
    let ends : Seam b (i.before ++ l) = λ w. rw (← i.parts) (token_ends b w) in
    let seam-more : Seam b (i.before ++ i.more) = λ w. lights word_byte i.before i.more l (light_word i.more i.light) (ends w) in
    let seam-same : (t : List ℕ) → token_of t ≡ token_of l → Seam b (i.before ++ t) = λ t j w. rw (heads i.before t l (same_head t l j)) (ends w) in
    let first : (y : List ℕ) → Seam b y → token_of (after_blanks (blanks s ++ (token_of b ++ y))) ≡ token_of b = λ y k. rw (stays s y n) (token_replay b y n k) in
    let step : (y : List ℕ) → Seam b y → reads r (blanks s ++ (token_of b ++ y)) ≡ reads g y =
    λ y k. law (blanks s ++ (token_of b ++ y)) (rw (first y k) e) ∙ rw (stays s y n, rest_replay b y n k) in
    record {
      reached = after_blanks_lem s l (past i.reached);
      before = blanks s ++ (token_of b ++ i.before);
      parts = rw (join l, ← i.parts, ← token_parts b) (blanks_parts s);
      more = i.more;
      light = i.light;
      goes = rw (join i.more) (ap ok_of (step (i.before ++ i.more) seam-more) ∙ i.goes);
      stuck = λ t j. rw (join t) (ap ok_of (step (i.before ++ t) (seam-same t j)) ∙ i.stuck t j);
      first_more = λ o f₁ a z. rw (join i.more, first (i.before ++ i.more) seam-more) a;
      first_same = λ o t j. rw (join t) (first (i.before ++ t) (seam-same t j));
    }

-- ---- past a branch that is not taken
else_stops : (f : Kind) (g h : Row) (s l : List ℕ) → Good (branch f g h) → f.test (token_of (after_blanks s)) ≡ false → Stop h s l → Stop (branch f g h) s l
else_stops f g h s l k e i =
    record {
      reached = i.reached;
      before = i.before;
      parts = i.parts;
      more = i.more;
      light = i.light;
      goes = ap ok_of (branch_no f g h (i.before ++ i.more) (i.first_more k.0 f e k.1)) ∙ i.goes;
      stuck = λ t j. ap ok_of (branch_no f g h (i.before ++ t) (ap f.test (i.first_same k.0 t j) ∙ e)) ∙ i.stuck t j;
      first_more = λ o. i.first_more k.0;
      first_same = λ o. i.first_same k.0;
    }

-- a row that reads as another stops where that does
as_stops : (g h : Row) (s l : List ℕ) → ((x : List ℕ) → reads g x ≡ reads h x) → easy g ≡ easy h → Open h → Stop h s l → Stop g s l
as_stops g h s l law p o i =
    record {
      reached = i.reached;
      before = i.before;
      parts = i.parts;
      more = i.more;
      light = i.light;
      goes = ap ok_of (law (i.before ++ i.more)) ∙ i.goes;
      stuck = λ t j. ap ok_of (law (i.before ++ t)) ∙ i.stuck t j;
      first_more = λ q f a b. i.first_more o f a (ap (λ (w : List ℕ). f.test (token_of (after_blanks w))) (sym p) ∙ b);
      first_same = λ q. i.first_same o;
    }

-- where a row stops, if every row does on what is shorter
module _ (k : ℕ) (ih : (g : Row) (s l : List ℕ) → length s < k → Good g → reads g s ≡ bad l → Stop g s l) where
  -- past a token
  later : (f : Kind) (g : Row) (s l : List ℕ) → length s ≤ k → Good g → f.test (token_of (after_blanks s)) ≡ true → reads g (after_token (after_blanks s)) ≡ bad l → Stop g (after_token (after_blanks s)) l
  later f g s l b c e q = ih g (after_token (after_blanks s)) l (omega (arith, b, rest_less f s e)) c q

  one_stop : (f : Kind) (g : Row) (s l : List ℕ) → length s ≤ k → Good g → reads (one f g) s ≡ bad l → Stop (one f g) s l
  one_stop f g s l b c h = go (f.test (token_of (after_blanks s))) refl
    where
      go : (v : Bool) → f.test (token_of (after_blanks s)) ≡ v → Stop (one f g) s l
      go true e = past-stops f g (one f g) (one_yes f g) s l e (later f g s l b c e (sym (one_yes f g s e) ∙ h))
      go false e = here-stops f g s l c e h

  branch_stop : (f : Kind) (g h : Row) (s l : List ℕ) → length s ≤ k → Good (branch f g h) → reads (branch f g h) s ≡ bad l → (reads h s ≡ bad l → Stop h s l) → Stop (branch f g h) s l
  branch_stop f g h s l b c p i = go (f.test (token_of (after_blanks s))) refl
    where
      go : (v : Bool) → f.test (token_of (after_blanks s)) ≡ v → Stop (branch f g h) s l
      go true e = past-stops f g (branch f g h) (branch_yes f g h) s l e (later f g s l b c.2 e (sym (branch_yes f g h s e) ∙ p))
      go false e = else_stops f g h s l c e (i (sym (branch_no f g h s e) ∙ p))

  stop_by_lem : (g : Row) (s l : List ℕ) → length s ≤ k → Good g → reads g s ≡ bad l → Stop g s l
  stop_by_lem end s l b c h = end-stops s l h
  stop_by_lem (one f g) s l b c h = one_stop f g s l b c h
  stop_by_lem (branch f g h) s l b c p = branch_stop f g h s l b c p (λ q. stop_by_lem h s l b c.3 q)
  stop_by_lem (factor zero g) s l b c h =
      as_stops (factor zero g) (one signs.number g) s l (λ x. reads-number x g) refl tt (one_stop signs.number g s l b c (sym (reads-number s g) ∙ h))
  stop_by_lem (factor (suc d) g) s l b c h =
      let inner = branch signs.minus (factor d g) (one signs.number g) in
      let y = factor-good d g c in
      as_stops (factor (suc d) g) (branch signs.opens (factor d (chain d (one signs.closes g))) inner) s l (λ x. reads-factor x d g) refl tt
      (branch_stop signs.opens (factor d (chain d (one signs.closes g))) inner s l b y (sym (reads-factor s d g) ∙ h)
      (λ q. branch_stop signs.minus (factor d g) (one signs.number g) s l b y.3 q (λ u. one_stop signs.number g s l b c u)))
  stop_by_lem (chain d g) s l b c h =
      as_stops (chain d g) (branch signs.operator (factor d (chain d g)) g) s l (λ x. reads-chain x d g) refl tt
      (branch_stop signs.operator (factor d (chain d g)) g s l b (chain-good d g c) (sym (reads-chain s d g) ∙ h) (λ q. stop_by_lem g s l b c.2 q))

stop_all : (k : ℕ) (g : Row) (s l : List ℕ) → length s ≤ k → Good g → reads g s ≡ bad l → Stop g s l
stop_all zero = stop_by_lem zero (λ g s l b. absurd (omega arith))
stop_all (suc k) = stop_by_lem (suc k) (λ g s l b. stop_all k g s l (omega (arith, b)))

-- where a row stops
pub stop : (g : Row) (s l : List ℕ) → Good g → reads g s ≡ bad l → Stop g s l
stop g s l c h = stop_all (length s) g s l (omega arith) c h
