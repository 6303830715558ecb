-- Of any statements under any starts: no two holdings overlap, and the columns held, counted one by one, are those asked for less those given back.
-- A start that may be used has only free columns, and a dealloc takes out exactly the length that it names. Assumes nothing.
use Prim.Native.Nat.{ℕ, zero, suc, ◌+◌, ◌-◌, ◌%◌, ◌≤◌, ◌<◌, min}
use mathlib.Core.Path.{◌≡◌, refl, ◌∙◌}
use mathlib.Core.Bool.{Bool, true, false, not, ◌&&◌, ◌||◌, cond}
use mathlib.Core.List.{List, [], ◌∷◌}
use mathlib.Core.Option.{Option, none, some}
use mathlib.Core.Logic.{◌⊎◌, inl, inr}
use native.Mathlib.Omega.{arith}
use lib.Dec.{leb, ltb, eqb}
use borrow.Author.Tests.{not-true, ltb-true, leb-true, eqb-true}
use Rattle.tokens.specs.declared.Name.{Name}
use Rattle.tokens.specs.Names.{same_name}
use Rattle.statement.specs.Views as act
use Rattle.statement.specs.Views.{Act, Turn}
use Rattle.rules.specs.Counting.{every}
use Rattle.laws.proofs.BoolLaws.{and_l, and_r, or_right, clash}
use Rattle.rules.proofs.CountingLaws.{count-or, count_none, count_range, every-at}
use Rattle.run.specs.Run.{Holding, Run, Phase, going, stopped_at, exited, ended, within, held, held_columns, usable, start_at, may_use, has, without, has_name, has_both, or_zero, booked_by, all_lie, known, able, done, in_phase, go, after}
use Rattle.run.specs.Demand3.{NoOverlap}

-- the lengths of all holdings
unfoldable pub total : List Holding → ℕ
total [] = 0
total (h ∷ l) = h.length + total l

-- a holding of some length ends by column 512
abbrev Low : Holding → Type 0
Low h = (h.length ≡ 0) ⊎ (h.start + h.length ≤ 512)

abbrev pub AllLow : List Holding → Type 0
AllLow [] = Unit {0}
AllLow (h ∷ l) = Low h × AllLow l

pub within_from : (h : Holding) (c : ℕ) → within h c ≡ true → h.start ≤ c
unfolding within
within_from h c e = leb-true h.start c (and_l (leb h.start c) (ltb c (h.start + h.length)) e)

pub within_to : (h : Holding) (c : ℕ) → within h c ≡ true → c < h.start + h.length
unfolding within
within_to h c e = ltb-true c (h.start + h.length) (and_r (leb h.start c) (ltb c (h.start + h.length)) e)

-- ---- counting
low_count : (h : Holding) → Low h → min 512 (h.start + h.length) - min 512 h.start ≡ h.length
low_count h (inl e) = omega (arith, e)
low_count h (inr e) = omega (arith, e)

-- the columns held, counted one by one, are the sum of the lengths
pub counted : (l : List Holding) → AllLow l → NoOverlap l → held_columns l ≡ total l
unfolding held_columns held total within
counted [] r d = count_none (held []) 512 (λ c. refl)
counted (h ∷ l) r d =
    count-or (within h) (held l) (held (h ∷ l)) 512 (λ c. refl) d.0
    ∙ omega (arith, counted l r.1 d.1, count_range (within h) h.start (h.start + h.length) 512 (λ c. refl) (omega arith), low_count h r.0)

-- ---- a start that may be used
pub usable_at : (l : List Holding) (x s c : ℕ) → usable l x s ≡ true → s ≤ c → c < s + x → ltb c 512 && not (held l c) ≡ true
unfolding usable
usable_at l x s c e p q = every-at (λ c. ltb c 512 && not (held l c)) s x c (and_r (eqb (s % 32) 0) (every (λ c. ltb c 512 && not (held l c)) s x) e) p q

pub usable_free : (l : List Holding) (x s c : ℕ) → usable l x s ≡ true → s ≤ c → c < s + x → held l c ≡ false
usable_free l x s c e p q = not-true (held l c) (and_r (ltb c 512) (not (held l c)) (usable_at l x s c e p q))

usable_low : (l : List Holding) (x s : ℕ) → usable l x s ≡ true → (x ≡ 0) ⊎ (s + x ≤ 512)
usable_low l zero s e = inl refl
usable_low l (suc x) s e =
    let b : s + x < 512 = ltb-true (s + x) 512 (and_l (ltb (s + x) 512) (not (held l (s + x))) (usable_at l (suc x) s (s + x) e (omega arith) (omega arith))) in
    inr (omega (arith, b))

-- the start that a list has, if it may be used
pub used : (l : List Holding) (x : ℕ) (o : Option ℕ) → may_use l x o ≡ true → usable l x (or_zero o) ≡ true
unfolding may_use
used l x none e = absurd (clash e refl)
used l x (some s) e = e

-- ---- taking one out
or_keep : (a b c : Bool) → (c ≡ true → b ≡ true) → a || c ≡ true → a || b ≡ true
or_keep true b c f e = refl
or_keep false b c f e = f e

held-cond : (h : Holding) (m l : List Holding) (c : ℕ) (t : Bool) → (held m c ≡ true → held l c ≡ true) → held (cond t l (h ∷ m)) c ≡ true → held (h ∷ l) c ≡ true
unfolding held
held-cond h m l c true f e = or_right (within h c) (held l c) e
held-cond h m l c false f e = or_keep (within h c) (held l c) (held m c) f e

held-without : (p : Holding → Bool) (l : List Holding) (c : ℕ) → held (without p l) c ≡ true → held l c ≡ true
unfolding without
held-without p [] c e = e
held-without p (h ∷ l) c e = held-cond h (without p l) l c (p h) (held-without p l c) e

low_without : (p : Holding → Bool) (l : List Holding) → AllLow l → AllLow (without p l)
unfolding without
low_without p [] r = tt
low_without p (h ∷ l) r = elim (p h) as (λ t. AllLow (cond t l (h ∷ without p l))) [ true ↦ r.1 | false ↦ (r.0, low_without p l r.1) ]

apart_without : (p : Holding → Bool) (l : List Holding) → NoOverlap l → NoOverlap (without p l)
unfolding without
apart_without p [] d = tt
apart_without p (h ∷ l) d =
    elim (p h) as (λ t. NoOverlap (cond t l (h ∷ without p l))) [
      | true ↦ d.1
      | false ↦ ((λ c e f. d.0 c e (held-without p l c f)), apart_without p l d.1)
    ]

-- what is taken out has the length that is named
pub total-without : (n : Name) (x : ℕ) (l : List Holding) → has (has_both n x) l ≡ true → total (without (has_both n x) l) + x ≡ total l
unfolding has without total has_both
total-without n x [] e = absurd (clash e refl)
total-without n x (h ∷ l) e = at (has_both n x h) refl e (total-without n x l)
  where
    at : (t : Bool) → has_both n x h ≡ t → t || has (has_both n x) l ≡ true
        → (has (has_both n x) l ≡ true → total (without (has_both n x) l) + x ≡ total l)
        → total (cond t l (h ∷ without (has_both n x) l)) + x ≡ h.length + total l
    at true z w ih = omega (arith, eqb-true h.length x (and_r (same_name h.name n) (eqb h.length x) z))
    at false z w ih = omega (arith, ih w)

-- ---- what stays true
pub record Sound (r : Run) : Type 0 where
  pub low : AllLow r.live
  pub apart : NoOverlap r.live
  pub sum : r.asked ≡ r.returned + total r.live

does : (starts : List ℕ) (r : Run) (w : ℕ) (x : Act) → able starts r x ≡ true → Sound r → Sound (done starts r w x)
unfolding able done total known booked_by all_lie
does starts r w (act.binds n width v) e s = record { low = s.low; apart = s.apart; sum = s.sum }
does starts r w (act.requests n v) e s =
    let o = start_at starts r.requests in
    let u = used r.live v o (and_r (not (has (has_name n) r.live)) (may_use r.live v o) e) in
    let h : Holding = record { name = n; start = or_zero o; length = v } in
    record {
      low = (usable_low r.live v (or_zero o) u, s.low);
      apart = ((λ c p q. clash q (usable_free r.live v (or_zero o) c u (within_from h c p) (within_to h c p))), s.apart);
      sum = omega (arith, s.sum);
    }
does starts r w (act.releases n v) e s =
    record {
      low = low_without (has_both n v) r.live s.low;
      apart = apart_without (has_both n v) r.live s.apart;
      sum = omega (arith, s.sum, total-without n v r.live e);
    }
does starts r w act.relinquishes e s = s
does starts r w (act.accesses x a) e s = record { low = s.low; apart = s.apart; sum = s.sum }
does starts r w (act.waits x) e s = record { low = s.low; apart = s.apart; sum = s.sum }
does starts r w act.nothing e s = s
does starts r w (act.multiplies m) e s = s
does starts r w act.exits e s = record { low = s.low; apart = s.apart; sum = s.sum }

goes : (p : Phase) (starts : List ℕ) (r : Run) (line : ℕ) (x : Turn) → Sound r → Sound (go p starts r line x)
unfolding go
goes going starts r line x s = at (able starts r x.act) refl
  where
    at : (t : Bool) → able starts r x.act ≡ t → Sound (cond t (done starts r x.warp x.act) (in_phase (stopped_at line) r))
    at true e = does starts r x.warp x.act e s
    at false e = record { low = s.low; apart = s.apart; sum = s.sum }
goes (stopped_at l) starts r line x s = s
goes exited starts r line x s = s
goes ended starts r line x s = s

-- after every line
pub sound : (starts : List ℕ) (turns : ℕ → Turn) (k : ℕ) → Sound (after starts turns k)
unfolding after total
sound starts turns zero = record { low = tt; apart = tt; sum = refl }
sound starts turns (suc k) = goes (after starts turns k).phase starts (after starts turns k) (k + 2) (turns k) (sound starts turns k)

-- the columns held, with those given back, are those asked for
pub sums : (starts : List ℕ) (turns : ℕ → Turn) (k : ℕ) → held_columns (after starts turns k).live + (after starts turns k).returned ≡ (after starts turns k).asked
sums starts turns k =
    let s = sound starts turns k in
    omega (arith, s.sum, counted (after starts turns k).live s.low s.apart)
