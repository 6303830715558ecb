-- Ordered rules: the number of the first broken one is 0 exactly where all are kept, and k exactly where rule k is the first broken. Each law is an
-- induction on the list. Assumes nothing.
use Prim.Native.Nat.{ℕ, ◌<◌}
use mathlib.Core.Path.{◌≡◌, refl, sym, ap, ◌∙◌, subst}
use mathlib.Core.Bool.{Bool, true, false, not, ◌&&◌, ◌||◌, cond}
use mathlib.Core.Option.{some}
use mathlib.Core.List.{List, [], ◌∷◌, ◌++◌}
use native.Mathlib.Omega.{arith}
use lib.Dec.{ltb, eqb}
use borrow.Author.Tests.{not-true, ltb-true, eqb-true, eq-eqb, ne_eqb}
use Rattle.laws.specs.Tests.{all_from, is_some}
use Rattle.laws.specs.Rules.{Rule, rule, first_broken}
use Rattle.tokens.specs.declared.Name.{Name}
use Rattle.request.specs.Request.{legal}
use Rattle.statement.specs.declared.Transfer.{Transfer}
use Rattle.statement.specs.declared.Access.{Access}
use Rattle.statement.specs.declared.Mma.{Mma}
use Rattle.statement.specs.declared.Position.{Position}
use Rattle.statement.specs.declared.Statement.{Statement}
use Rattle.statement.specs.Views as act
use Rattle.statement.specs.Views.{Ask, Act, is_exit, act_of, request_of, release_of, request_in, release_in, access_in, mma_in, bound_in, for}
use Rattle.rules.specs.State.{State, Placer, is_live, is_bound, columns_of, is_busy}
use Rattle.statement.specs.Positions.{address_at}
use Rattle.rules.specs.Rows.{at_start, pointed, Test, test, outcomes, kept, leftmost, one, whole, asked, Row, row, rules_of, first_position}
use Rattle.rules.specs.Reasons.{mma_named, mma_reads, all_end, room_for, lane_of_warp, ends, named, roomed, laned, warped, sized, permitted, placed, reads, m_listed, n_listed, types_listed, inside, cleared, waited, open_rows, closed_rows, rows}
use Rattle.statement.specs.Cells as cells
use Rattle.statement.specs.Cells.{counted}
use Rattle.rules.specs.Sheet.{Line, bad_layout, no_form, too_large, statement, line_rules}
use Rattle.rules.specs.Claims.{AllKept, LeftmostIs, FirstIs, heads, InOrder}
use Rattle.laws.proofs.BoolLaws.{and_l, and_r, and-join, clash}

-- no rule has that number
abbrev pub lacks : ℕ → List Rule → Bool
lacks m [] = true
lacks m (rule n kept ∷ rs) = not (eqb n m) && lacks m rs

-- the first of them has another
other : (m n : ℕ) (rs : List Rule) → not (eqb n m) && lacks m rs ≡ true → n ≡ m → ⊥
other m n rs p e = clash (eq-eqb n m e) (not-true (eqb n m) (and_l (not (eqb n m)) (lacks m rs) p))

pub kept-none : (rs : List Rule) → AllKept rs → first_broken rs ≡ 0
kept-none [] h = refl
kept-none (rule n kept ∷ rs) h = rw h.0 (kept-none rs h.1)

pub none_kept : (rs : List Rule) → lacks 0 rs ≡ true → first_broken rs ≡ 0 → AllKept rs
none_kept [] p e = tt
none_kept (rule n true ∷ rs) p e = (refl, none_kept rs (and_r (not (eqb n 0)) (lacks 0 rs) p) e)
none_kept (rule n false ∷ rs) p e = absurd (other 0 n rs p e)

-- such a number is not the first broken one's
pub never : (m : ℕ) (rs : List Rule) → lacks m rs ≡ true → 0 < m → first_broken rs ≡ m → ⊥
never m [] p h e = omega (arith, h, e)
never m (rule n true ∷ rs) p h e = never m rs (and_r (not (eqb n m)) (lacks m rs) p) h e
never m (rule n false ∷ rs) p h e = other m n rs p e

-- ---- tests: the leftmost that is broken
pub kept_more : (i : ℕ) (l : List Test) → kept (test i true ∷ l) ≡ kept l
kept_more i [] = refl
kept_more i (test j b ∷ l) = refl

none_left : (l : List Bool) → all_from false l ≡ false
none_left [] = refl
none_left (b ∷ l) = none_left l

kept_less : (i : ℕ) (l : List Test) → kept (test i false ∷ l) ≡ false
kept_less i l = none_left (outcomes l)

leftmost-is : (l : List Test) → kept l ≡ false → LeftmostIs (leftmost l) l
leftmost-is [] e = absurd (clash refl e)
leftmost-is (test i true ∷ l) e =
    let f = leftmost-is l (sym (kept_more i l) ∙ e) in
    record { left = test i true ∷ f.left; right = f.right; parts = ap (λ m. test i true ∷ m) f.parts; kept = kept_more i f.left ∙ f.kept }
leftmost-is (test i false ∷ l) e = record { left = []; right = l; parts = refl; kept = refl }

over_left : (left l : List Test) → kept left ≡ true → (kept (left ++ l) ≡ kept l) × (leftmost (left ++ l) ≡ leftmost l)
over_left [] l h = (refl, refl)
over_left (test i true ∷ left) l h = let f = over_left left l (sym (kept_more i left) ∙ h) in (kept_more i (left ++ l) ∙ f.0, f.1)
over_left (test i false ∷ left) l h = absurd (clash h (kept_less i left))

is-leftmost : (i : ℕ) (l : List Test) → LeftmostIs i l → (kept l ≡ false) × (leftmost l ≡ i)
is-leftmost i l f =
    let o = over_left f.left (test i false ∷ f.right) f.kept in
    (ap kept f.parts ∙ o.0 ∙ kept_less i f.right, ap leftmost f.parts ∙ o.1)

-- ---- rows: the first that is broken, and where
pub first_is : (k : ℕ) (rs : List Row) → first_broken (rules_of rs) ≡ k → 0 < k → FirstIs k (first_position rs) rs
first_is k [] e p = absurd (omega (arith, e))
first_is k (row n sort tests ∷ rs) e p = by (λ q. first_is k rs q p) (kept tests) refl e
  where
    by : (first_broken (rules_of rs) ≡ k → FirstIs k (first_position rs) rs) → (b : Bool) → kept tests ≡ b → cond b (first_broken (rules_of rs)) n ≡ k
        → FirstIs k (cond b (first_position rs) (pointed sort (leftmost tests))) (row n sort tests ∷ rs)
    by more true q e =
        let f = more e in
        record {
          before = row n sort tests ∷ f.before;
          sort = f.sort;
          tests = f.tests;
          after = f.after;
          parts = ap (λ l. row n sort tests ∷ l) f.parts;
          kept = (q, f.kept);
          operand = f.operand;
          broken = f.broken;
          points = f.points;
        }
    by more false q e =
        record {
          before = [];
          sort = sort;
          tests = tests;
          after = rs;
          parts = ap (λ j. row j sort tests ∷ rs) e;
          kept = tt;
          operand = leftmost tests;
          broken = leftmost-is tests q;
          points = refl;
        }

passes_over : (before rs : List Row) → AllKept (rules_of before)
    → (first_broken (rules_of (before ++ rs)) ≡ first_broken (rules_of rs)) × (first_position (before ++ rs) ≡ first_position rs)
passes_over [] rs h = (refl, refl)
passes_over (row n sort tests ∷ before) rs h = rw h.0 (passes_over before rs h.1)

pub is_first : (k : ℕ) (p : Position) (rs : List Row) → FirstIs k p rs → (first_broken (rules_of rs) ≡ k) × (first_position rs ≡ p)
is_first k p rs f =
    let o = passes_over f.before (row k f.sort f.tests ∷ f.after) f.kept in
    let b = is-leftmost f.operand f.tests f.broken in (
      ap (λ l. first_broken (rules_of l)) f.parts ∙ o.0 ∙ rw b.0,
      ap first_position f.parts ∙ o.1 ∙ rw b.0 (ap (pointed f.sort) b.1 ∙ f.points),
    )

-- two lists in turn
pub rules-both : (xs ys : List Row) → rules_of (xs ++ ys) ≡ rules_of xs ++ rules_of ys
rules-both [] ys = refl
rules-both (row n sort tests ∷ xs) ys = ap (λ l. rule n (kept tests) ∷ l) (rules-both xs ys)

pub position_kept : (xs ys : List Row) → lacks 0 (rules_of xs) ≡ true → first_broken (rules_of xs) ≡ 0 → first_position (xs ++ ys) ≡ first_position ys
position_kept xs ys p e = (passes_over xs ys (none_kept (rules_of xs) p e)).1

pub position_broken : (xs ys : List Row) → 0 < first_broken (rules_of xs) → first_position (xs ++ ys) ≡ first_position xs
position_broken [] ys h = absurd (omega (arith, h))
position_broken (row n sort tests ∷ xs) ys h = by (λ k. position_broken xs ys k) (kept tests) h
  where
    by : (0 < first_broken (rules_of xs) → first_position (xs ++ ys) ≡ first_position xs) → (b : Bool) → 0 < cond b (first_broken (rules_of xs)) n → cond b (first_position (xs ++ ys)) (pointed sort (leftmost tests)) ≡ cond b (first_position xs) (pointed sort (leftmost tests))
    by more true h = more h
    by more false h = refl

pub lacks_both : (m : ℕ) (xs ys : List Rule) → lacks m xs ≡ true → lacks m ys ≡ true → lacks m (xs ++ ys) ≡ true
lacks_both m [] ys p q = q
lacks_both m (rule n kept ∷ xs) ys p q =
    and-join (not (eqb n m)) (lacks m (xs ++ ys)) (and_l (not (eqb n m)) (lacks m xs) p) (lacks_both m xs ys (and_r (not (eqb n m)) (lacks m xs) p) q)

pub in_turn : (xs ys : List Rule) → lacks 0 xs ≡ true → first_broken (xs ++ ys) ≡ cond (eqb (first_broken xs) 0) (first_broken ys) (first_broken xs)
in_turn [] ys p = refl
in_turn (rule n true ∷ xs) ys p = in_turn xs ys (and_r (not (eqb n 0)) (lacks 0 xs) p)
in_turn (rule n false ∷ xs) ys p = rw (ne_eqb n 0 (other 0 n xs p))

pub in_turn_kept : (xs ys : List Rule) → lacks 0 xs ≡ true → first_broken xs ≡ 0 → first_broken (xs ++ ys) ≡ first_broken ys
in_turn_kept xs ys p e = in_turn xs ys p ∙ rw (eq-eqb (first_broken xs) 0 e)

pub in_turn_broken : (xs ys : List Rule) → lacks 0 xs ≡ true → 0 < first_broken xs → first_broken (xs ++ ys) ≡ first_broken xs
in_turn_broken xs ys p h = in_turn xs ys p ∙ rw (ne_eqb (first_broken xs) 0 (omega (arith, h)))

-- ---- the numbers of a line's rules: none is 0, and none is 16, that of the lent list. A rule may have any other
abbrev pub Numbered : List Rule → Type 0
Numbered rs = (lacks 0 rs ≡ true) × (lacks 16 rs ≡ true)

rows-numbered : (place : Placer) (s : State) (held w : ℕ) (t : Statement) → Numbered (rules_of (rows place s held w t))
unfolding rows open_rows closed_rows
rows-numbered place s held w t = by s.exited
  where
    by : (b : Bool) → Numbered (rules_of (cond b (closed_rows t) (open_rows place s held w t)))
    by true = (refl, refl)
    by false = (refl, refl)

pub line_numbered : (place : Placer) (s : State) (held : ℕ) (x : Line) → Numbered (line_rules place s held x)
line_numbered place s held bad_layout = (refl, refl)
line_numbered place s held no_form = (refl, refl)
line_numbered place s held too_large = (refl, refl)
line_numbered place s held (statement w t) = rows-numbered place s held w t

-- the published order of a line
pub in_order : (place : Placer) (s : State) (held w : ℕ) (t : Statement) → InOrder place s held w t
unfolding rows open_rows closed_rows
in_order place s held w t =
    record {
      before = λ e. ap (λ b. heads (row 2 at_start (whole (ltb w 4)) ∷ cond b (closed_rows t) (open_rows place s held w t))) e;
      after = λ e. ap (λ b. heads (row 2 at_start (whole (ltb w 4)) ∷ cond b (closed_rows t) (open_rows place s held w t))) e;
    }

-- ---- a statement that keeps every rule
pub record Accepted (place : Placer) (s : State) (held w : ℕ) (t : Statement) : Type 0 where
  pub open' : s.exited ≡ false
  pub counts : counted t ≡ true
  pub names : kept (named s t) ≡ true
  pub rooms : kept (roomed s t) ≡ true
  pub lanes : kept (laned w t) ≡ true
  pub warps : kept (warped s w t) ≡ true
  pub sizes : kept (sized s t) ≡ true
  pub permits : kept (permitted s t) ≡ true
  pub places : kept (placed place s t) ≡ true
  pub words : kept (reads s t) ≡ true
  pub lists_m : kept (m_listed s t) ≡ true
  pub lists_n : kept (n_listed s t) ≡ true
  pub lists_types : kept (types_listed s t) ≡ true
  pub ends : kept (inside s t) ≡ true
  pub clears : cleared held t ≡ true
  pub waits : kept (waited s t) ≡ true

kept_open : (place : Placer) (s : State) (held w : ℕ) (t : Statement) → s.exited ≡ false → AllKept (rules_of (open_rows place s held w t)) → Accepted place s held w t
unfolding open_rows
kept_open place s held w t e h =
    record {
      open' = e;
      counts = h.0;
      names = h.1.0;
      rooms = h.1.1.0;
      lanes = h.1.1.1.0;
      warps = h.1.1.1.1.0;
      sizes = h.1.1.1.1.1.0;
      permits = h.1.1.1.1.1.1.0;
      places = h.1.1.1.1.1.1.1.0;
      words = h.1.1.1.1.1.1.1.1.0;
      lists_m = h.1.1.1.1.1.1.1.1.1.0;
      lists_n = h.1.1.1.1.1.1.1.1.1.1.0;
      lists_types = h.1.1.1.1.1.1.1.1.1.1.1.0;
      ends = h.1.1.1.1.1.1.1.1.1.1.1.1.0;
      clears = h.1.1.1.1.1.1.1.1.1.1.1.1.1.0;
      waits = h.1.1.1.1.1.1.1.1.1.1.1.1.1.1.0;
    }

-- after exit a rule is broken
pub kept_closed : (t : Statement) → AllKept (rules_of (closed_rows t)) → ⊥
unfolding closed_rows
kept_closed t h = clash h.1.0 refl

pub accepted : (place : Placer) (s : State) (held w : ℕ) (t : Statement) → AllKept (rules_of (rows place s held w t)) → Accepted place s held w t
unfolding rows
accepted place s held w t h = by s.exited refl h
  where
    by : (b : Bool) → s.exited ≡ b → AllKept (rules_of (cond b (closed_rows t) (open_rows place s held w t))) → Accepted place s held w t
    by true e k = absurd (kept_closed t k)
    by false e k = kept_open place s held w t e k

-- a line that keeps every rule is a statement, of one of four warps
pub accepted_line : (place : Placer) (s : State) (held : ℕ) (x : Line) → AllKept (line_rules place s held x) → (P : Line → Type 0)
    → ((w : ℕ) (t : Statement) → w < 4 → Accepted place s held w t → P (statement w t)) → P x
accepted_line place s held bad_layout h P f = absurd (clash h.0 refl)
accepted_line place s held no_form h P f = absurd (clash h.0 refl)
accepted_line place s held too_large h P f = absurd (clash h.0 refl)
accepted_line place s held (statement w t) h P f = f w t (ltb-true w 4 h.0) (accepted place s held w t h.1)

-- a request that is accepted is legal, and has a start
first_of : (x : Bool) (l : List Test) → kept (test 1 x ∷ l) ≡ true → x ≡ true
first_of true l e = refl
first_of false l e = absurd (clash e (kept_less 1 l))

pub request-kept : (place : Placer) (s : State) (held w : ℕ) (t : Statement) → Accepted place s held w t → (r : Ask) → request_of t ≡ some r
    → (legal r.columns ≡ true) × (is_some (place s.live r.columns) ≡ true)
unfolding sized placed
request-kept place s held w t a r e = (
  first_of (legal r.columns) (asked (for (release_of t) (λ r. one 1 (eqb (columns_of r.name s.live) r.columns)) ∷ []))
      (subst (λ q. kept (asked (for q (λ r. one 1 (legal r.columns)) ∷ for (release_of t) (λ r. one 1 (eqb (columns_of r.name s.live) r.columns)) ∷ [])) ≡ true) e
      a.sizes),
  subst (λ q. kept (asked (for q (λ r. whole (is_some (place s.live r.columns))) ∷ [])) ≡ true) e a.places,
)

-- the tests of reason 6, by what a statement does, its address being operand i
abbrev named_in : State → ℕ → Act → List Test
named_in s i x = asked
    (for (bound_in x) (λ n. one 0 (not (is_live n s.live)))
    ∷ for (request_in x) (λ r. one 0 (not (is_live r.name s.live) && not (is_bound r.name s.values)))
    ∷ for (release_in x) (λ r. one 0 (is_live r.name s.live))
    ∷ for (access_in x) (λ a. one i (is_live a.address.base s.live))
    ∷ for (mma_in x) (mma_named s)
    ∷ [])

-- and those of reason 14
abbrev inside_in : State → ℕ → Act → List Test
inside_in s i x = asked (for (access_in x) (λ a. one i (ends s a.address (cells.columns_for a.shape a.num))) ∷ for (mma_in x) (all_end s) ∷ [])

module _ (place : Placer) (s : State) (held w : ℕ) (t : Statement) (a : Accepted place s held w t) (n : Name) (k : ℕ) where
  -- a mov that is accepted names no live allocation, and has room
  pub binds-kept : (width : ℕ) → act_of t ≡ act.binds n width k → (not (is_live n s.live) ≡ true) × (room_for s n ≡ true)
  unfolding named roomed
  binds-kept width e = (subst (λ x. kept (named_in s (address_at t) x) ≡ true) e a.names, subst (λ x. kept (asked (for (bound_in x) (λ n. one 0 (room_for s n)) ∷ [])) ≡ true) e a.rooms)

  -- an alloc a name that is not taken
  pub requests-kept : act_of t ≡ act.requests n k → not (is_live n s.live) && not (is_bound n s.values) ≡ true
  unfolding named
  requests-kept e = subst (λ x. kept (named_in s (address_at t) x) ≡ true) e a.names

  -- a dealloc a live allocation and its columns
  pub releases-kept : act_of t ≡ act.releases n k → (is_live n s.live ≡ true) × (columns_of n s.live ≡ k)
  unfolding sized named
  releases-kept e = (
    subst (λ x. kept (named_in s (address_at t) x) ≡ true) e a.names,
    eqb-true (columns_of n s.live) k
        (subst (λ x. kept (asked (for (request_in x) (λ r. one 1 (legal r.columns)) ∷ for (release_in x) (λ r. one 1 (eqb (columns_of r.name s.live) r.columns)) ∷ [])) ≡ true) e a.sizes),
  )

  -- and nothing is outstanding on it
  pub waited-kept : act_of t ≡ act.releases n k → is_busy n s.outstanding ≡ false
  unfolding waited
  waited-kept e = not-true (is_busy n s.outstanding) (subst (λ x. kept (asked (for (release_in x) (λ r. whole (not (is_busy r.name s.outstanding))) ∷ [])) ≡ true) e a.waits)

module _ (place : Placer) (s : State) (held w : ℕ) (t : Statement) (a : Accepted place s held w t) where
  -- a ld or st a live allocation, the lane of its warp, and columns inside
  pub accesses-kept : (y : Transfer) (x : Access) → act_of t ≡ act.accesses y x
      → (is_live x.address.base s.live ≡ true) × (lane_of_warp w x ≡ true) × (ends s x.address (cells.columns_for x.shape x.num) ≡ true)
  unfolding named laned inside
  accesses-kept y x e = (
    subst (λ z. kept (named_in s (address_at t) z) ≡ true) e a.names,
    subst (λ z. kept (asked (for (access_in z) (λ a. one (address_at t) (lane_of_warp w a)) ∷ [])) ≡ true) e a.lanes,
    subst (λ z. kept (inside_in s (address_at t) z) ≡ true) e a.ends,
  )

  -- an mma its names, words that read, and columns inside
  pub multiplies-kept : (m : Mma) → act_of t ≡ act.multiplies m → (kept (mma_named s m) ≡ true) × (kept (mma_reads s m) ≡ true) × (kept (all_end s m) ≡ true)
  unfolding named reads inside
  multiplies-kept m e = (
    subst (λ y. kept (named_in s (address_at t) y) ≡ true) e a.names,
    subst (λ y. kept (asked (for (mma_in y) (mma_reads s) ∷ [])) ≡ true) e a.words,
    subst (λ y. kept (inside_in s (address_at t) y) ≡ true) e a.ends,
  )

-- exit where nothing is held
pub exits-kept : (place : Placer) (s : State) (held w : ℕ) (t : Statement) → Accepted place s held w t → is_exit t ≡ true → held ≡ 0
unfolding cleared
exits-kept place s held w t a e = eqb-true held 0 (subst (λ b. not b || eqb held 0 ≡ true) e a.clears)
