-- Demand 3 under our own placing: the run has the allocations' very starts, so each start may be used and is the lowest that may; the run reaches
-- its exit, and its peak is ours. Assumes nothing.
use Prim.Native.Nat.{ℕ, zero, suc, ◌+◌, ◌*◌, ◌/◌, ◌%◌, ◌≤◌, ◌<◌}
use mathlib.Core.Path.{◌≡◌, refl, sym, ap, ◌∙◌, subst}
use mathlib.Core.Bool.{Bool, true, false, not, ◌&&◌, cond}
use mathlib.Core.List.{List, [], ◌∷◌, ◌++◌, append_assoc, append-nil}
use mathlib.Core.Option.{Option, none, some, some-injective, none-ne-some}
use mathlib.Core.Logic.{◌⊎◌}
use native.Mathlib.Omega.{arith}
use lib.Count.{ones}
use lib.Dec.{leb, ltb, eqb}
use lib.ListN.{length, length-append, drop}
use lib.Seq.{sets, sets-eq}
use borrow.Author.Tests.{ltb-true, lt-ltb, leb-true, leb-false, le-leb, eqb-true, eq-eqb}
use Rattle.laws.specs.Tests.{bit, is_some}
use Rattle.laws.proofs.TestLaws.{each}
use Rattle.tokens.specs.declared.Name.{Name}
use Rattle.tokens.specs.Names.{same_name}
use Rattle.request.specs.Request.{legal}
use Rattle.statement.specs.declared.Statement.{Statement}
use Rattle.statement.specs.Views as act
use Rattle.statement.specs.Views.{Ask, Act, act_of, request_of, request_in, of}
use Rattle.rules.specs.Counting.{every, least}
use Rattle.rules.specs.State as s
use Rattle.rules.specs.State.{State, Allocation, covers, is_free, free_from, slot, lowest}
use Rattle.rules.specs.Sheet.{Line, statement, turn_of, act_in, Sheet, ours, line_rules, line_effect, added, effect, given, start_list, state_by, starts_by, rules_by, held_after, peak_up_to, answer_by, starts_of, places_after}
use Rattle.rules.specs.Claims.{AllKept}
use Rattle.laws.proofs.BoolLaws.{and_l, and_r, and-join, not-or, bool, clash}
use Rattle.statement.proofs.Each.{each_act}
use Rattle.rules.proofs.CountingLaws.{every-at, every-all, least_hit, least-below}
use Rattle.rules.proofs.RuleLaws.{Accepted, accepted_line, request-kept, releases-kept}
use Rattle.rules.proofs.StateLaws.{one-start}
use Rattle.rules.proofs.Figures.{held-total}
use Rattle.rules.proofs.RulesProved.{Clear, zero-kept, no_more, passed_figures}
use Rattle.rules.proofs.FiguresProved.{figures_exact}
use Rattle.run.specs.Run.{Holding, Run, Phase, going, stopped_at, exited, ended, within, held, held_columns, usable, start_at, may_use, has_name, without, or_zero, able, done, go, after, peak_of}
use Rattle.run.specs.Demand3.{turns_of, Requests, Asks, Placed, Reached}
use Rattle.run.proofs.Sound.{sound, counted, usable_at}
use Rattle.run.proofs.Agree.{Alike, Agree, Follows, free_for, total_alike, dealloc-both}
use Rattle.run.proofs.AnyStarts.{Is, goes, stopped, out, over, phase, done-goes, go_by, beside, agrees, able-at, any_starts}

-- ---- the same allocations, starts and all
abbrev Same : List Allocation → List Holding → Type 0
Same [] [] = Unit {0}
Same [] (h ∷ b) = ⊥
Same (g ∷ a) [] = ⊥
Same (g ∷ a) (h ∷ b) = (g.name ≡ h.name) × (g.start ≡ h.start) × (g.columns ≡ h.length) × Same a b

same_alike : (a : List Allocation) (b : List Holding) → Same a b → Alike a b
same_alike [] [] e = tt
same_alike [] (h ∷ b) e = absurd e
same_alike (g ∷ a) [] e = absurd e
same_alike (g ∷ a) (h ∷ b) e = (e.0, e.2, same_alike a b e.3)

-- a column is free by the rules where it is not held in the run
same_free : (a : List Allocation) (b : List Holding) (c : ℕ) → Same a b → is_free a c ≡ not (held b c)
unfolding is_free held covers within
same_free [] [] c e = refl
same_free [] (h ∷ b) c e = absurd e
same_free (g ∷ a) [] c e = absurd e
same_free (g ∷ a) (h ∷ b) c e =
    rw (e.1, e.2, same_free a b c e.3) (sym (not-or (leb h.start c && ltb c (h.start + h.length)) (held b c)))

same_without : (n : Name) (a : List Allocation) (b : List Holding) → Same a b → Same (s.without n a) (without (has_name n) b)
unfolding s.without without has_name
same_without n [] [] e = tt
same_without n [] (h ∷ b) e = absurd e
same_without n (g ∷ a) [] e = absurd e
same_without n (g ∷ a) (h ∷ b) e = at (same_name g.name n) (same_name h.name n) (ap (λ m. same_name m n) e.0) (same_without n a b e.3)
  where
    at : (t u : Bool) → t ≡ u → Same (s.without n a) (without (has_name n) b) → Same (cond t a (g ∷ s.without n a)) (cond u b (h ∷ without (has_name n) b))
    at true true q ih = e.3
    at true false q ih = absurd (clash refl q)
    at false true q ih = absurd (clash refl (sym q))
    at false false q ih = (e.0, e.1, e.2, ih)

same_added : (n : Name) (v : ℕ) (o : Option ℕ) (a : List Allocation) (b : List Holding)
    → is_some o ≡ true → Same a b → Same (added n v o a) (record { name = n; start = or_zero o; length = v } ∷ b)
same_added n v none a b e g = absurd (clash e refl)
same_added n v (some x) a b e g = (refl, refl, refl, g)

-- ---- the placing
-- a free run from a multiple of 32 may be used
free_usable : (a : List Allocation) (b : List Holding) (x i : ℕ) → Same a b → free_from a x (i * 32) ≡ true → usable b x (i * 32) ≡ true
unfolding free_from usable
free_usable a b x i e f =
    let top : i * 32 + x ≤ 512 = leb-true (i * 32 + x) 512 (and_l (leb (i * 32 + x) 512) (every (is_free a) (i * 32) x) f) in
    let all = and_r (leb (i * 32 + x) 512) (every (is_free a) (i * 32) x) f in
    and-join (eqb (i * 32 % 32) 0) (every (λ c. ltb c 512 && not (held b c)) (i * 32) x) (eq-eqb (i * 32 % 32) 0 (omega arith))
    (every-all (λ c. ltb c 512 && not (held b c)) (i * 32) x
    (λ c p q. and-join (ltb c 512) (not (held b c)) (lt-ltb c 512 (omega (arith, top, q))) (sym (same_free a b c e) ∙ every-at (is_free a) (i * 32) x c all p q)))

-- and a start that may be used for some columns is a free run
usable_free_run : (a : List Allocation) (b : List Holding) (x start : ℕ) → Same a b → 0 < x → usable b x start ≡ true → free_from a x start ≡ true
unfolding free_from
usable_free_run a b zero start e p u = absurd (omega (arith, p))
usable_free_run a b (suc x) start e p u =
    let end = usable_at b (suc x) start (start + x) u (omega arith) (omega arith) in
    let top : start + x < 512 = ltb-true (start + x) 512 (and_l (ltb (start + x) 512) (not (held b (start + x))) end) in
    and-join (leb (start + suc x) 512) (every (is_free a) start (suc x)) (le-leb (start + suc x) 512 (omega (arith, top)))
    (every-all (is_free a) start (suc x) (λ c q r. same_free a b c e ∙ and_r (ltb c 512) (not (held b c)) (usable_at b (suc x) start c u q r)))

aligned : (b : List Holding) (x start : ℕ) → usable b x start ≡ true → start ≡ start / 32 * 32
unfolding usable
aligned b x start u = omega (arith, eqb-true (start % 32) 0 (and_l (eqb (start % 32) 0) (every (λ c. ltb c 512 && not (held b c)) start x) u))

-- the lowest start may be used
pub lowest_may : (a : List Allocation) (b : List Holding) (x : ℕ) → Same a b → is_some (lowest a x) ≡ true → may_use b x (lowest a x) ≡ true
unfolding lowest may_use slot
lowest_may a b x e = at (bool (ltb (slot a x) 16))
  where
    hit : (t : Bool) → ltb (least (λ i. free_from a x (i * 32)) 16) 16 ≡ t → is_some (cond t (some (least (λ i. free_from a x (i * 32)) 16 * 32)) none) ≡ true
        → may_use b x (cond t (some (least (λ i. free_from a x (i * 32)) 16 * 32)) none) ≡ true
    hit true f g = free_usable a b x (least (λ i. free_from a x (i * 32)) 16) e (least_hit (λ i. free_from a x (i * 32)) 16 (ltb-true (least (λ i. free_from a x (i * 32)) 16) 16 f))
    hit false f g = absurd (clash g refl)

    at : (ltb (slot a x) 16 ≡ true) ⊎ (ltb (slot a x) 16 ≡ false) → is_some (lowest a x) ≡ true → may_use b x (lowest a x) ≡ true
    at z g = hit (ltb (least (λ i. free_from a x (i * 32)) 16) 16) refl g

-- and none below it
pub lowest-least : (a : List Allocation) (b : List Holding) (x start : ℕ) → Same a b → 0 < x → is_some (lowest a x) ≡ true → usable b x start ≡ true
    → (v : ℕ) × ((lowest a x ≡ some v) × (v ≤ start))
unfolding lowest slot
lowest-least a b x start e p g u = at (ltb (least (λ i. free_from a x (i * 32)) 16) 16) refl g
  where
    below : start / 32 < least (λ i. free_from a x (i * 32)) 16 → ⊥
    below h = clash (subst (λ j. free_from a x j ≡ true) (aligned b x start u) (usable_free_run a b x start e p u)) (least-below (λ i. free_from a x (i * 32)) 16 (start / 32) h)

    at : (t : Bool) → ltb (least (λ i. free_from a x (i * 32)) 16) 16 ≡ t → is_some (cond t (some (least (λ i. free_from a x (i * 32)) 16 * 32)) none) ≡ true
        → (v : ℕ) × ((cond t (some (least (λ i. free_from a x (i * 32)) 16 * 32)) none ≡ some v) × (v ≤ start))
    at true f g = (least (λ i. free_from a x (i * 32)) 16 * 32, (refl, omega (arith, below, aligned b x start u)))
    at false f g = absurd (clash g refl)

-- ---- the list of starts
start_seam : (l : List ℕ) (x : ℕ) (rest : List ℕ) → start_at ((l ++ (x ∷ [])) ++ rest) (length l) ≡ some x
unfolding start_at
start_seam [] x rest = refl
start_seam (y ∷ l) x rest = start_seam l x rest

module _ (line : ℕ → Line) where
  -- the starts up to a line are the first of all
  grows : (n k : ℕ) → k ≤ n → (rest : List ℕ) × (starts_by ours line n ≡ starts_by ours line k ++ rest)
  unfolding starts_by
  grows zero k h = let z : 0 ≡ k = omega (arith, h) in ([], subst (λ j. [] ≡ starts_by ours line j ++ []) z refl)
  grows (suc n) k h = at (leb k n) refl (grows n k)
    where
      at : (t : Bool) → leb k n ≡ t → (k ≤ n → (rest : List ℕ) × (starts_by ours line n ≡ starts_by ours line k ++ rest)) → (rest : List ℕ) × (starts_by ours line (suc n) ≡ starts_by ours line k ++ rest)
      at true e ih =
          let r = ih (leb-true k n e) in
          (r.0 ++ given lowest (state_by ours line n) (line n), rw r.1 (append_assoc (starts_by ours line k) r.0 (given lowest (state_by ours line n) (line n))))
      at false e ih =
          let z : suc n ≡ k = omega (arith, h, leb-false k n e) in
          ([], subst (λ j. starts_by ours line (suc n) ≡ starts_by ours line j ++ []) z (sym (append-nil (starts_by ours line (suc n)))))

-- the start that a list has for a request is the one that the placing gives
abbrev Given : List ℕ → ℕ → State → Statement → Type 0
Given starts q st t = (r : Ask) → request_of t ≡ some r → start_at starts q ≡ lowest st.live r.columns

given-start : (starts l rest : List ℕ) (o : Option ℕ) → is_some o ≡ true → starts ≡ (l ++ start_list o) ++ rest → start_at starts (length l) ≡ o
given-start starts l rest none e f = absurd (clash e refl)
given-start starts l rest (some x) e f = ap (λ z. start_at z (length l)) f ∙ start_seam l x rest

given_by : (starts l rest : List ℕ) (st : State) (held w : ℕ) (t : Statement) → Accepted lowest st held w t
    → starts ≡ (l ++ given lowest st (statement w t)) ++ rest → Given starts (length l) st t
unfolding given
given_by starts l rest st held w t a e r f =
    given-start starts l rest (lowest st.live r.columns) (request-kept lowest st held w t a r f).1
    (e ∙ ap (λ q. (l ++ of q (λ x. start_list (lowest st.live x.columns)) []) ++ rest) f)

-- ---- one line of our run
own_free : (starts : List ℕ) (st : State) (r : Run) (held w : ℕ) (t : Statement) → Accepted lowest st held w t → Same st.live r.live → Given starts r.requests st t
    → free_for r.live (act_of t) (start_at starts r.requests) ≡ true
unfolding free_for
own_free starts st r held w t a e g = at (request_of t) refl
  where
    at : (q : Option Ask) → request_of t ≡ q → of q (λ x. may_use r.live x.columns (start_at starts r.requests)) true ≡ true
    at none f = refl
    at (some x) f =
        ap (λ o. may_use r.live x.columns o) (g x f)
        ∙ lowest_may st.live r.live x.columns e (request-kept lowest st held w t a x f).1

module _ (starts : List ℕ) (st : State) (r : Run) (held w : ℕ) (t : Statement) (a : Accepted lowest st held w t) (m : Agree st r) (e : Same st.live r.live) (g : Given starts r.requests st t) where
  -- after an act the allocations are the same, and each start that it was given is one request
  abbrev Owned : Act → Type 0
  Owned x =
      act_of t ≡ x
      → Same (effect lowest st w x).live (done starts r w x).live × ((done starts r w x).requests ≡ r.requests + length (of (request_in x) (λ y. start_list (lowest st.live y.columns)) []))

  owns_new : (n : Name) (v : ℕ) → Owned (act.requests n v)
  unfolding done effect
  owns_new n v f =
      let q : Ask = record { name = n; columns = v } in
      let k = (request-kept lowest st held w t a q (ap request_in f)).1 in (
        subst (λ o. Same (added n v (lowest st.live v) st.live) (record { name = n; start = or_zero o; length = v } ∷ r.live)) (sym (g q (ap request_in f)))
            (same_added n v (lowest st.live v) st.live r.live k e),
        omega (arith, one-start (lowest st.live v) ∙ ap bit k),
      )

  owns_less : (n : Name) (v : ℕ) → Owned (act.releases n v)
  unfolding done effect
  owns_less n v f = (
    subst (λ l. Same (s.without n st.live) l) (sym (dealloc-both st r n v (releases-kept lowest st held w t a n v f) m).1) (same_without n st.live r.live e),
    omega arith,
  )

  own_done : Same (effect lowest st w (act_of t)).live (done starts r w (act_of t)).live × ((done starts r w (act_of t)).requests ≡ r.requests + length (given lowest st (statement w t)))
  unfolding done effect given
  own_done = let z : r.requests ≡ r.requests + 0 = omega arith in each_act Owned (act_of t) (search (owns_new, owns_less)) refl

-- what holds of our run in each phase
abbrev Own : Phase → State → Run → ℕ → Type 0
Own going st r q = Same st.live r.live × (r.requests ≡ q)
Own (stopped_at l) st r q = ⊥
Own exited st r q = Same st.live r.live × (r.requests ≡ q)
Own ended st r q = Same st.live r.live × (r.requests ≡ q)

own_phase : (p : Phase) (st : State) (r : Run) (q : ℕ) → ((l : ℕ) → p ≡ stopped_at l → ⊥) → Same st.live r.live → r.requests ≡ q → Own p st r q
own_phase going st r q n e f = (e, f)
own_phase (stopped_at l) st r q n e f = n l refl
own_phase exited st r q n e f = (e, f)
own_phase ended st r q n e f = (e, f)

own_same : (p : Phase) (st : State) (r : Run) (q : ℕ) → Own p st r q → Same st.live r.live × (r.requests ≡ q)
own_same going st r q o = o
own_same (stopped_at l) st r q o = absurd o
own_same exited st r q o = o
own_same ended st r q o = o

-- what one line more of our run is
abbrev OwnStep : (starts l rest : List ℕ) → State → Run → ℕ → Line → Type 0
OwnStep starts l rest st r number x =
    able starts r (act_in x) ≡ free_for r.live (act_in x) (start_at starts r.requests) → starts ≡ (l ++ given lowest st x) ++ rest
    → Own (go r.phase starts r number (turn_of x)).phase (line_effect lowest st x) (go r.phase starts r number (turn_of x)) (length (l ++ given lowest st x))

own_step : (starts l rest : List ℕ) (st : State) (r : Run) (held number : ℕ) (x : Line)
    → AllKept (line_rules lowest st held x) → r.phase ≡ going → Agree st r → Same st.live r.live → r.requests ≡ length l → OwnStep starts l rest st r number x
own_step starts l rest st r held number x h q m e f = accepted_line lowest st held x h (OwnStep starts l rest st r number) at
  where
    at : (w : ℕ) (t : Statement) → w < 4 → Accepted lowest st held w t → OwnStep starts l rest st r number (statement w t)
    at w t p a b g =
        let u : Given starts r.requests st t = subst (λ j. Given starts j st t) (sym f) (given_by starts l rest st held w t a g) in
        let o = own_done starts st r held w t a m e u in
        go_by starts r number (turn_of (statement w t)) q (λ z. Own z.phase (effect lowest st w (act_of t)) z (length (l ++ given lowest st (statement w t))))
        (λ d. own_phase (done starts r w (act_of t)).phase (effect lowest st w (act_of t)) (done starts r w (act_of t)) (length (l ++ given lowest st (statement w t)))
        (λ j. done-goes starts r w (act_of t) j q) o.0 (o.1 ∙ omega (arith, f, length-append l (given lowest st (statement w t)))))
        (λ d. absurd (clash (b ∙ own_free starts st r held w t a e u) d))

legal-least : (x : ℕ) → legal x ≡ true → 32 ≤ x
legal-least x e = leb-true 32 x (each (leb 32 x ∷ leb x 512 ∷ eqb (ones x) 1 ∷ []) e).0

-- the request of a line, by the columns that it asks for
request-of : (t : Statement) (v : ℕ) → Requests (act_of t) v → (r : Ask) × ((request_of t ≡ some r) × (r.columns ≡ v))
request-of t v e = at (request_of t) refl e
  where
    at : (q : Option Ask) → request_of t ≡ q → of q (λ r. some r.columns) none ≡ some v → (r : Ask) × ((request_of t ≡ some r) × (r.columns ≡ v))
    at none f e = absurd (none-ne-some v e)
    at (some r) f e = (r, (f, some-injective r.columns v e))

-- a request that is accepted asks for some columns, and the placing has a start for it
asked_line : (st : State) (held : ℕ) (x : Line) (v : ℕ) → AllKept (line_rules lowest st held x) → Requests (act_in x) v → (0 < v) × (is_some (lowest st.live v) ≡ true)
asked_line st held x v h =
    accepted_line lowest st held x h (λ x. Requests (act_in x) v → (0 < v) × (is_some (lowest st.live v) ≡ true))
    (λ w t p a e.
    let q = request-of t v e in
    let k = request-kept lowest st held w t a q.0 q.1.0 in
    subst (λ y. (0 < y) × (is_some (lowest st.live y) ≡ true)) q.1.1 (omega (arith, legal-least q.0.columns k.0), k.1))

given_line : (starts l rest : List ℕ) (st : State) (held : ℕ) (x : Line) (v : ℕ) → AllKept (line_rules lowest st held x) → Requests (act_in x) v
    → starts ≡ (l ++ given lowest st x) ++ rest → start_at starts (length l) ≡ lowest st.live v
given_line starts l rest st held x v h =
    accepted_line lowest st held x h (λ x. Requests (act_in x) v → starts ≡ (l ++ given lowest st x) ++ rest → start_at starts (length l) ≡ lowest st.live v)
    (λ w t p a e g. let q = request-of t v e in given_by starts l rest st held w t a g q.0 q.1.0 ∙ ap (λ y. lowest st.live y) q.1.1)

-- ---- our run of a passed sheet
module _ (sheet : Sheet) (c : Clear ours sheet) where
  abbrev list : List ℕ
  list = starts_of sheet

  abbrev state : ℕ → State
  state k = state_by ours sheet.line k

  abbrev our : ℕ → Run
  our k = after list (turns_of sheet) k

  abbrev up_to : ℕ → List ℕ
  up_to k = starts_by ours sheet.line k

  kept : (k : ℕ) → k < sheet.count → AllKept (rules_by ours sheet.line k)
  kept k h = zero-kept ours sheet.line k (c.zeros k h)

  parts : (k : ℕ) → k < sheet.count → (rest : List ℕ) × (list ≡ (up_to k ++ given lowest (state k) (sheet.line k)) ++ rest)
  unfolding starts_by
  parts k h = grows sheet.line sheet.count (suc k) h

  -- no line follows an exit
  left : (k : ℕ) → k < sheet.count → (our k).phase ≡ exited → ⊥
  left k h q =
      let f : Follows exited (state k) (our k) = subst (λ p. Follows p (state k) (our k)) q (beside ours sheet c list k (omega (arith, h))) in
      no_more lowest (state k) (held_after sheet.line k) (sheet.line k) (kept k h) f.0

  own : (k : ℕ) → k ≤ sheet.count → Own (our k).phase (state k) (our k) (length (up_to k))
  unfolding after state_by starts_by
  own zero h = (tt, refl)
  own (suc k) h = at (phase (our k).phase) (own k (omega (arith, h)))
    where
      at : Is (our k).phase → Own (our k).phase (state k) (our k) (length (up_to k))
          → Own (go (our k).phase list (our k) (k + 2) (turns_of sheet k)).phase (line_effect lowest (state k) (sheet.line k)) (go (our k).phase list (our k) (k + 2) (turns_of sheet k)) (length (up_to k ++ given lowest (state k) (sheet.line k)))
      at (goes q) o =
          let e = own_same (our k).phase (state k) (our k) (length (up_to k)) o in
          let p = parts k (omega (arith, h)) in
          own_step list (up_to k) p.0 (state k) (our k) (held_after sheet.line k) (k + 2) (sheet.line k) (kept k (omega (arith, h))) q (agrees ours sheet c list k (omega (arith, h)) q)
          e.0 e.1 (able-at ours sheet c list k ((omega (arith, h)), q)) p.1
      at (stopped l q) o = absurd (subst (λ p. Own p (state k) (our k) (length (up_to k))) q o)
      at (out q) o = absurd (left k (omega (arith, h)) q)
      at (over q) o = absurd (subst (λ p. Follows p (state k) (our k)) q (beside ours sheet c list k (omega (arith, h))))

  same_at : (k : ℕ) → k ≤ sheet.count → Same (state k).live (our k).live × ((our k).requests ≡ length (up_to k))
  same_at k h = own_same (our k).phase (state k) (our k) (length (up_to k)) (own k h)

  -- the start of each request is the one that the placing gives
  start_is : (k x : ℕ) → Asks sheet list k x → start_at list (our k).requests ≡ lowest (state k).live x
  start_is k x a =
      let p = parts k a.0.0 in
      subst (λ j. start_at list j ≡ lowest (state k).live x) (sym (same_at k (omega (arith, a.0.0))).1)
      (given_line list (up_to k) p.0 (state k) (held_after sheet.line k) (sheet.line k) x (kept k a.0.0) a.1 p.1)

  meets : (k x : ℕ) → Asks sheet list k x → may_use (our k).live x (start_at list (our k).requests) ≡ true
  meets k x a =
      ap (λ o. may_use (our k).live x o) (start_is k x a)
      ∙ lowest_may (state k).live (our k).live x (same_at k (omega (arith, a.0.0))).0 (asked_line (state k) (held_after sheet.line k) (sheet.line k) x (kept k a.0.0) a.1).1

  least_start : (k x start : ℕ) → Asks sheet list k x → usable (our k).live x start ≡ true → (v : ℕ) × ((start_at list (our k).requests ≡ some v) × (v ≤ start))
  least_start k x start a u =
      let q = asked_line (state k) (held_after sheet.line k) (sheet.line k) x (kept k a.0.0) a.1 in
      let l = lowest-least (state k).live (our k).live x start (same_at k (omega (arith, a.0.0))).0 q.0 q.1 u in
      (l.0, (start_is k x a ∙ l.1.0, l.1.1))

  held_is : (k : ℕ) → k ≤ sheet.count → held_columns (our k).live ≡ held_after sheet.line k
  held_is k h =
      let d = sound list (turns_of sheet) k in
      counted (our k).live d.low d.apart
      ∙ sym (total_alike (state k).live (our k).live (same_alike (state k).live (our k).live (same_at k h).0))
      ∙ sym (held-total ours sheet.line k (λ j p. kept j (omega (arith, h, p))))

  peak_is : (k : ℕ) → k ≤ sheet.count → peak_of list (turns_of sheet) k ≡ peak_up_to sheet.line k
  unfolding peak_of peak_up_to
  peak_is zero h = refl
  peak_is (suc k) h = rw (peak_is k (omega (arith, h)), held_is (suc k) h)

  written : (old : List ℕ) → (answer_by ours sheet (length old)).reason ≡ 0 → places_after sheet old ≡ list ++ drop (length list) old
  unfolding places_after
  written old e =
      ap (λ b. cond b (sets old 0 list) old) (eq-eqb (answer_by ours sheet (length old)).reason 0 e)
      ∙ sets-eq list old 0 (omega (arith, (figures_exact ours sheet (length old)).roomy e))
      ∙ ap (λ k. list ++ drop k old) (let z : 0 + length list ≡ length list = omega arith in z)

  -- the run comes to every line: it stops nowhere, and what follows an exit breaks a rule
  reached : (k : ℕ) → k < sheet.count → Reached sheet list k
  reached k h = (h, at (phase (our k).phase))
    where
      at : Is (our k).phase → (our k).phase ≡ going
      at (goes q) = q
      at (stopped l q) = absurd (subst (λ p. Own p (state k) (our k) (length (up_to k))) q (own k (omega (arith, h))))
      at (out q) = absurd (left k h q)
      at (over q) = absurd (subst (λ p. Follows p (state k) (our k)) q (beside ours sheet c list k (omega (arith, h))))

  pub our_starts : Placed sheet list
  our_starts =
      record {
        meets = meets;
        reached = reached;
        exits = (any_starts ours sheet c list).otherwise (λ k f. clash (meets k f.columns f.asks) f.unmet);
        lowest = least_start;
        all = sym (same_at sheet.count (omega arith)).1;
        written = written;
        peak = λ room. (passed_figures ours sheet room c).2 ∙ sym (peak_is sheet.count (omega arith));
      }
