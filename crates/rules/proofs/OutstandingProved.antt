-- The marks that the rules keep are the loads and stores which the lines leave outstanding. A mark is set by one line and taken out by another, whatever
-- comes between; so is a live allocation: one law for both says which line set what is there. Assumes nothing.
use Prim.Native.Nat.{ℕ, zero, suc, ◌<◌, ◌≤◌}
use mathlib.Core.Path.{◌≡◌, refl, sym, ap, ◌∙◌, subst}
use mathlib.Core.Bool.{Bool, true, false, not, ◌&&◌, ◌||◌, cond, and-false}
use mathlib.Core.List.{List, [], ◌∷◌}
use mathlib.Core.Option.{Option, none, some}
use mathlib.Core.Logic.{◌⊎◌, inl, inr}
use native.Mathlib.Omega.{arith}
use lib.Dec.{ltb, eqb}
use borrow.Author.Tests.{not-true, not-false, ltb-true, ltb-false, eqb-true, eq-eqb}
use Rattle.laws.specs.Tests.{is_some}
use Rattle.laws.proofs.BoolLaws.{bool, never, clash, and_l, and_r, and-join, or_cases, or_left, or_right}
use Rattle.tokens.specs.declared.Name.{Name}
use Rattle.tokens.specs.Names.{same_name}
use Rattle.tokens.proofs.Names.{same_true, same_name_lem}
use Rattle.statement.specs.declared.Transfer.{Transfer}
use Rattle.statement.specs.declared.Access.{Access}
use Rattle.statement.specs.declared.Statement.{Statement}
use Rattle.statement.specs.Views as act
use Rattle.statement.specs.Views.{Act, Ask, Turn, act_of, request_in, release_in, release_of, for, of, same_transfer}
use Rattle.statement.proofs.Each.{same_transfer_lem, transfer_same, each_act}
use Rattle.rules.specs.State.{State, Allocation, Placer, Mark, is_live, without, is_by, is_marked, is_busy, after_wait, after_release}
use Rattle.rules.specs.Sheet.{Line, turn_of, act_in, Placing, line_effect, effect, added, Sheet, held_after, state_by, rules_by, stop_by}
use Rattle.rules.specs.Rows.{kept as all-kept, whole, asked}
use Rattle.rules.specs.Reasons.{waited}
use Rattle.rules.specs.Claims.{AllKept, Unique, Orderly, accepted_lines}
use Rattle.rules.specs.Outstanding.{Outstanding, MarksAt, MarksExact}
use Rattle.rules.proofs.RuleLaws.{Accepted, accepted_line, accesses-kept, request-kept}
use Rattle.rules.proofs.OrderlyProved.{orderly}
use Rattle.rules.proofs.RulesProved.{zero-kept, stop_before}

-- a test that cannot be true
pub not_is : (b : Bool) → (b ≡ true → ⊥) → b ≡ false
not_is true f = absurd (f refl)
not_is false f = refl

-- ---- what is set and taken out line by line
-- a line before k set it, and none since took it out
pub record Since (sets ends : ℕ → Bool) (k : ℕ) : Type 0 where
  pub line : ℕ
  pub before : line < k
  pub set : sets line ≡ true
  pub lasts : (j : ℕ) → line < j → j < k → ends j ≡ false

module _ (sets ends here : ℕ → Bool) (n : ℕ) (none : here 0 ≡ false) (each : (k : ℕ) → k < n → here (suc k) ≡ sets k || (not (ends k) && here k)) where
  later : (k : ℕ) → Since sets ends k → ends k ≡ false → Since sets ends (suc k)
  later k s e = record { line = s.line; before = omega (arith, s.before); set = s.set; lasts = λ j p q. at j p (bool (ltb j k)) q }
    where
      at : (j : ℕ) → s.line < j → (ltb j k ≡ true) ⊎ (ltb j k ≡ false) → j < suc k → ends j ≡ false
      at j p (inl t) q = s.lasts j p (ltb-true j k t)
      at j p (inr t) q = let z : k ≡ j = omega (arith, q, ltb-false j k t) in subst (λ i. ends i ≡ false) z e

  pub to_since : (k : ℕ) → k ≤ n → here k ≡ true → Since sets ends k
  to_since zero h e = absurd (clash e none)
  to_since (suc k) h e = at (or_cases (sets k) (not (ends k) && here k) (sym (each k (omega (arith, h))) ∙ e)) (to_since k (omega (arith, h)))
    where
      at : (sets k ≡ true) ⊎ (not (ends k) && here k ≡ true) → (here k ≡ true → Since sets ends k) → Since sets ends (suc k)
      at (inl s) ih = record { line = k; before = omega arith; set = s; lasts = λ j p q. absurd (omega (arith, p, q)) }
      at (inr s) ih = later k (ih (and_r (not (ends k)) (here k) s)) (not-true (ends k) (and_l (not (ends k)) (here k) s))

  pub from_since : (k : ℕ) → k ≤ n → Since sets ends k → here k ≡ true
  from_since zero h s = absurd (omega (arith, s.before))
  from_since (suc k) h s = each k (omega (arith, h)) ∙ at (bool (ltb s.line k)) (from_since k (omega (arith, h)))
    where
      at : (ltb s.line k ≡ true) ⊎ (ltb s.line k ≡ false) → (Since sets ends k → here k ≡ true) → sets k || (not (ends k) && here k) ≡ true
      at (inl t) ih =
          let p : s.line < k = ltb-true s.line k t in
          or_right (sets k) (not (ends k) && here k)
          (and-join (not (ends k)) (here k) (ap not (s.lasts k p (omega arith)))
          (ih (record { line = s.line; before = p; set = s.set; lasts = λ j a b. s.lasts j a (omega (arith, b)) })))
      at (inr t) ih =
          let z : s.line ≡ k = omega (arith, s.before, ltb-false s.line k t) in
          or_left (sets k) (not (ends k) && here k) (subst (λ i. sets i ≡ true) z s.set)

-- ---- which acts do it
-- an alloc of a name, and a dealloc of it
abbrev pub asks : Act → Name → Bool
asks a n = of (request_in a) (λ r. same_name r.name n) false

abbrev pub gives : Act → Name → Bool
gives a n = of (release_in a) (λ r. same_name r.name n) false

-- by warp v: a transfer x by w on a name; a wait for it, or a dealloc of the name
abbrev pub starts : Act → (v : ℕ) → Name → (w : ℕ) → Transfer → Bool
starts (act.binds m width c) v n w x = false
starts (act.requests m c) v n w x = false
starts (act.releases m c) v n w x = false
starts act.relinquishes v n w x = false
starts (act.accesses y a) v n w x = same_name a.address.base n && (eqb v w && same_transfer y x)
starts (act.waits y) v n w x = false
starts (act.multiplies m) v n w x = false
starts act.exits v n w x = false
starts act.nothing v n w x = false

abbrev pub stops : Act → (v : ℕ) → Name → (w : ℕ) → Transfer → Bool
stops (act.binds m width c) v n w x = false
stops (act.requests m c) v n w x = false
stops (act.releases m c) v n w x = same_name m n
stops act.relinquishes v n w x = false
stops (act.accesses y a) v n w x = false
stops (act.waits y) v n w x = eqb v w && same_transfer y x
stops (act.multiplies m) v n w x = false
stops act.exits v n w x = false
stops act.nothing v n w x = false

asks_is : (a : Act) (n : Name) → asks a n ≡ true → (c : ℕ) × (a ≡ act.requests n c)
asks_is a n = each_act (λ a. asks a n ≡ true → (c : ℕ) × (a ≡ act.requests n c)) a (search (never, own))
  where
    own : (m : Name) (c : ℕ) → same_name m n ≡ true → (c' : ℕ) × (act.requests m c ≡ act.requests n c')
    own m c e = (c, ap (λ k. act.requests k c) (same_true m n e))

is_asks : (a : Act) (n : Name) (c : ℕ) → a ≡ act.requests n c → asks a n ≡ true
is_asks a n c e = ap (λ a. asks a n) e ∙ same_name_lem n n refl

gives_is : (a : Act) (n : Name) → gives a n ≡ true → (c : ℕ) × (a ≡ act.releases n c)
gives_is a n = each_act (λ a. gives a n ≡ true → (c : ℕ) × (a ≡ act.releases n c)) a (search (never, own))
  where
    own : (m : Name) (c : ℕ) → same_name m n ≡ true → (c' : ℕ) × (act.releases m c ≡ act.releases n c')
    own m c e = (c, ap (λ k. act.releases k c) (same_true m n e))

is_gives : (a : Act) (n : Name) (c : ℕ) → a ≡ act.releases n c → gives a n ≡ true
is_gives a n c e = ap (λ a. gives a n) e ∙ same_name_lem n n refl

module _ (v : ℕ) (n : Name) (w : ℕ) (x : Transfer) where
  abbrev Starts : Act → Type 0
  Starts a = (c : Access) × (a ≡ act.accesses x c) × (c.address.base ≡ n) × (v ≡ w)

  starts_is : (a : Act) → starts a v n w x ≡ true → Starts a
  starts_is a = each_act (λ a. starts a v n w x ≡ true → Starts a) a (search (never, own))
    where
      own : (y : Transfer) (c : Access) → same_name c.address.base n && (eqb v w && same_transfer y x) ≡ true → Starts (act.accesses y c)
      own y c e =
          let f = and_r (same_name c.address.base n) (eqb v w && same_transfer y x) e in
          (c, ap (λ z. act.accesses z c) (same_transfer_lem y x (and_r (eqb v w) (same_transfer y x) f)), same_true c.address.base n (and_l (same_name c.address.base n) (eqb v w && same_transfer y x) e), eqb-true v w (and_l (eqb v w) (same_transfer y x) f))

  is-starts : (a : Act) → Starts a → starts a v n w x ≡ true
  is-starts a s =
      ap (λ a. starts a v n w x) s.1
      ∙ and-join (same_name s.0.address.base n) (eqb v w && same_transfer x x) (same_name_lem s.0.address.base n s.2)
      (and-join (eqb v w) (same_transfer x x) (eq-eqb v w s.3) (transfer_same x x refl))

  abbrev Stops : Act → Type 0
  Stops a = ((a ≡ act.waits x) × (v ≡ w)) ⊎ ((c : ℕ) × (a ≡ act.releases n c))

  stops-is : (a : Act) → stops a v n w x ≡ true → Stops a
  stops-is a = each_act (λ a. stops a v n w x ≡ true → Stops a) a (search (never, waits, releases))
    where
      waits : (y : Transfer) → eqb v w && same_transfer y x ≡ true → Stops (act.waits y)
      waits y e = inl (ap act.waits (same_transfer_lem y x (and_r (eqb v w) (same_transfer y x) e)), eqb-true v w (and_l (eqb v w) (same_transfer y x) e))

      releases : (m : Name) (c : ℕ) → same_name m n ≡ true → Stops (act.releases m c)
      releases m c e = inr (c, ap (λ k. act.releases k c) (same_true m n e))

  is-stops : (a : Act) → Stops a → stops a v n w x ≡ true
  is-stops a (inl s) = ap (λ a. stops a v n w x) s.0 ∙ and-join (eqb v w) (same_transfer x x) (eq-eqb v w s.1) (transfer_same x x refl)
  is-stops a (inr s) = ap (λ a. stops a v n w x) s.1 ∙ same_name_lem n n refl

-- ---- what an act does to the marks
-- what passes a test is taken out, and the test is passed by p where it is to be
drops : (t e p q : Bool) → (t ≡ true → p ≡ true → e ≡ true) → (e ≡ true → p ≡ true → t ≡ true) → cond t (not e && q) (p || (not e && q)) ≡ not e && (p || q)
drops true true p q f g = refl
drops true false true q f g = never (f refl refl)
drops true false false q f g = refl
drops false true true q f g = never (g refl refl)
drops false true false q f g = refl
drops false false p q f g = refl

pub by_is : (v : ℕ) (y : Transfer) (m : Mark) → is_by v y m ≡ true → (m.warp ≡ v) × (m.transfer ≡ y)
unfolding is_by
by_is v y m e = (eqb-true m.warp v (and_l (eqb m.warp v) (same_transfer m.transfer y) e), same_transfer_lem m.transfer y (and_r (eqb m.warp v) (same_transfer m.transfer y) e))

pub is_by_lem : (v : ℕ) (y : Transfer) (m : Mark) → m.warp ≡ v → m.transfer ≡ y → is_by v y m ≡ true
unfolding is_by
is_by_lem v y m p q = and-join (eqb m.warp v) (same_transfer m.transfer y) (eq-eqb m.warp v p) (transfer_same m.transfer y q)

module _ (n : Name) (w : ℕ) (x : Transfer) where
  -- of a list without those that pass a test: those of another kind are left
  filtered : (test : Mark → Bool) (e : Bool) (rest : List Mark → List Mark)
      → rest [] ≡ [] → ((m : Mark) (l : List Mark) → rest (m ∷ l) ≡ cond (test m) (rest l) (m ∷ rest l))
      → ((m : Mark) → test m ≡ true → same_name m.name n && is_by w x m ≡ true → e ≡ true)
      → ((m : Mark) → e ≡ true → same_name m.name n && is_by w x m ≡ true → test m ≡ true)
      → (l : List Mark) → is_marked n w x (rest l) ≡ not e && is_marked n w x l
  unfolding is_marked
  filtered test e rest z r f g [] = ap (is_marked n w x) z ∙ sym (and-false (not e))
  filtered test e rest z r f g (m ∷ l) =
      ap (is_marked n w x) (r m l)
      ∙ by (test m)
      ∙ ap (λ b. cond (test m) b ((same_name m.name n && is_by w x m) || b)) (filtered test e rest z r f g l)
      ∙ drops (test m) e (same_name m.name n && is_by w x m) (is_marked n w x l) (f m) (g m)
    where
      by : (t : Bool) → is_marked n w x (cond t (rest l) (m ∷ rest l)) ≡ cond t (is_marked n w x (rest l)) ((same_name m.name n && is_by w x m) || is_marked n w x (rest l))
      by true = refl
      by false = refl

  marked_wait : (v : ℕ) (y : Transfer) (l : List Mark) → is_marked n w x (after_wait v y l) ≡ not (eqb v w && same_transfer y x) && is_marked n w x l
  unfolding after_wait
  marked_wait v y = filtered (is_by v y) (eqb v w && same_transfer y x) (after_wait v y) refl (λ m l. refl) there back
    where
      there : (m : Mark) → is_by v y m ≡ true → same_name m.name n && is_by w x m ≡ true → eqb v w && same_transfer y x ≡ true
      there m a b =
          let p = by_is v y m a in
          let q = by_is w x m (and_r (same_name m.name n) (is_by w x m) b) in
          and-join (eqb v w) (same_transfer y x) (eq-eqb v w (sym p.0 ∙ q.0)) (transfer_same y x (sym p.1 ∙ q.1))

      back : (m : Mark) → eqb v w && same_transfer y x ≡ true → same_name m.name n && is_by w x m ≡ true → is_by v y m ≡ true
      back m a b =
          let q = by_is w x m (and_r (same_name m.name n) (is_by w x m) b) in
          is_by_lem v y m (q.0 ∙ sym (eqb-true v w (and_l (eqb v w) (same_transfer y x) a))) (q.1 ∙ sym (same_transfer_lem y x (and_r (eqb v w) (same_transfer y x) a)))

  marked_release : (m : Name) (l : List Mark) → is_marked n w x (after_release m l) ≡ not (same_name m n) && is_marked n w x l
  unfolding after_release
  marked_release m = filtered (λ o. same_name o.name m) (same_name m n) (after_release m) refl (λ o l. refl) there back
    where
      there : (o : Mark) → same_name o.name m ≡ true → same_name o.name n && is_by w x o ≡ true → same_name m n ≡ true
      there o a b = same_name_lem m n (sym (same_true o.name m a) ∙ same_true o.name n (and_l (same_name o.name n) (is_by w x o) b))

      back : (o : Mark) → same_name m n ≡ true → same_name o.name n && is_by w x o ≡ true → same_name o.name m ≡ true
      back o a b = same_name_lem o.name m (same_true o.name n (and_l (same_name o.name n) (is_by w x o) b) ∙ sym (same_true m n a))

  pub marked_next : (place : Placer) (s : State) (v : ℕ) (a : Act)
      → is_marked n w x (effect place s v a).outstanding ≡ starts a v n w x || (not (stops a v n w x) && is_marked n w x s.outstanding)
  unfolding effect is_marked is_by
  marked_next place s v a = each_act (λ a. is_marked n w x (effect place s v a).outstanding ≡ starts a v n w x || (not (stops a v n w x) && is_marked n w x s.outstanding)) a (search (marked_wait, marked_release))

-- ---- what an accepted line does to the live allocations
module _ (n : Name) where
  live_less : (m : Name) (l : List Allocation) → Unique l → is_live n (without m l) ≡ not (same_name m n) && is_live n l
  unfolding is_live without
  live_less m [] u = sym (and-false (not (same_name m n)))
  live_less m (a ∷ l) u =
      by (same_name a.name m) refl
      ∙ ap (λ b. cond (same_name a.name m) (not (same_name m n) && is_live n l) (same_name a.name n || b)) (live_less m l u.1)
      ∙ drops (same_name a.name m) (same_name m n) (same_name a.name n) (is_live n l)
      (λ t p. same_name_lem m n (sym (same_true a.name m t) ∙ same_true a.name n p))
      (λ e p. same_name_lem a.name m (same_true a.name n p ∙ sym (same_true m n e)))
    where
      -- what is taken out is not there a second time
      gone : same_name a.name m ≡ true → (b : Bool) → same_name m n ≡ b → is_live n l ≡ not b && is_live n l
      gone t true e = subst (λ k. is_live k l ≡ false) (same_true a.name m t ∙ same_true m n e) u.0
      gone t false e = refl

      by : (t : Bool) → same_name a.name m ≡ t
          → is_live n (cond t l (a ∷ without m l)) ≡ cond t (not (same_name m n) && is_live n l) (same_name a.name n || is_live n (without m l))
      by true t = gone t (same_name m n) refl
      by false t = refl

  module _ (place : Placer) (s : State) (held v : ℕ) (t : Statement) (a : Accepted place s held v t) (o : Orderly s) where
    abbrev Next : Act → Type 0
    Next x = act_of t ≡ x → is_live n (effect place s v x).live ≡ asks x n || (not (gives x n) && is_live n s.live)

    added_next : (m : Name) (c : ℕ) → Next (act.requests m c)
    unfolding effect is_live
    added_next m c e = at (place s.live c) (request-kept place s held v t a (record { name = m; columns = c }) (ap request_in e)).1
      where
        at : (p : Option ℕ) → is_some p ≡ true → is_live n (added m c p s.live) ≡ same_name m n || is_live n s.live
        at none e = never e
        at (some i) e = refl

    released-next : (m : Name) (c : ℕ) → Next (act.releases m c)
    unfolding effect
    released-next m c e = live_less m s.live o.once

    live_next : is_live n (effect place s v (act_of t)).live ≡ asks (act_of t) n || (not (gives (act_of t) n) && is_live n s.live)
    unfolding effect
    live_next = each_act Next (act_of t) (search (added_next, released-next)) refl

-- ---- any mark on a name
busy_marked : (n : Name) (l : List Mark) → is_busy n l ≡ true → (w : ℕ) × ((x : Transfer) × (is_marked n w x l ≡ true))
unfolding is_busy is_marked is_by
busy_marked n [] e = never e
busy_marked n (m ∷ l) e = at (or_cases (same_name m.name n) (is_busy n l) e) (busy_marked n l)
  where
    at : (same_name m.name n ≡ true) ⊎ (is_busy n l ≡ true) → (is_busy n l ≡ true → (w : ℕ) × ((x : Transfer) × (is_marked n w x l ≡ true)))
        → (w : ℕ) × ((x : Transfer) × ((same_name m.name n && (eqb m.warp w && same_transfer m.transfer x)) || is_marked n w x l ≡ true))
    at (inl p) ih = (m.warp, (m.transfer, rw (p, eq-eqb m.warp m.warp refl, transfer_same m.transfer m.transfer refl)))
    at (inr p) ih =
        let r = ih p in
        (r.0, (r.1.0, or_right (same_name m.name n && (eqb m.warp r.0 && same_transfer m.transfer r.1.0)) (is_marked n r.0 r.1.0 l) r.1.1))

pub marked_busy : (n : Name) (w : ℕ) (x : Transfer) (l : List Mark) → is_marked n w x l ≡ true → is_busy n l ≡ true
unfolding is_busy is_marked
marked_busy n w x [] e = e
marked_busy n w x (m ∷ l) e = at (or_cases (same_name m.name n && is_by w x m) (is_marked n w x l) e) (marked_busy n w x l)
  where
    at : (same_name m.name n && is_by w x m ≡ true) ⊎ (is_marked n w x l ≡ true) → (is_marked n w x l ≡ true → is_busy n l ≡ true) → same_name m.name n || is_busy n l ≡ true
    at (inl p) ih = or_left (same_name m.name n) (is_busy n l) (and_l (same_name m.name n) (is_by w x m) p)
    at (inr p) ih = or_right (same_name m.name n) (is_busy n l) (ih p)

pub not-marked : (n : Name) (w : ℕ) (x : Transfer) (l : List Mark) → is_busy n l ≡ false → is_marked n w x l ≡ false
not-marked n w x l e = not_is (is_marked n w x l) (λ m. clash (marked_busy n w x l m) e)

-- ---- lines
-- an access is no dealloc
apart : (a : Act) (x : Transfer) (c : Access) (n : Name) (k : ℕ) → a ≡ act.accesses x c → a ≡ act.releases n k → ⊥
apart a x c n k p q = clash (is_gives a n k q) (ap (λ a. gives a n) p)

-- something holds of the places before a place, of it, and of those behind it
around : (P : ℕ → Type 0) (line j : ℕ) → (j < line → P j) → P line → (line < j → P j) → P j
around P line j f g h = at (bool (ltb j line)) (bool (ltb line j))
  where
    at : (ltb j line ≡ true) ⊎ (ltb j line ≡ false) → (ltb line j ≡ true) ⊎ (ltb line j ≡ false) → P j
    at (inl p) q = f (ltb-true j line p)
    at (inr p) (inl q) = h (ltb-true line j q)
    at (inr p) (inr q) = let z : line ≡ j = omega (arith, ltb-false j line p, ltb-false line j q) in subst P z g

-- ---- what is set by loads and stores and taken out by their waits and by deallocs
module _ (turns : ℕ → Turn) (size : ℕ) (n : Name) where
  abbrev Released : ℕ → Type 0
  Released j = (c : ℕ) × ((turns j).act ≡ act.releases n c)

  -- a live allocation, by its lines
  module _ (live : ℕ → Bool) (dead : live 0 ≡ false) (lives : (k : ℕ) → k < size → live (suc k) ≡ asks (turns k).act n || (not (gives (turns k).act n) && live k)) where
    pub live_lines : (w : ℕ) (x : Transfer) (k : ℕ) → k ≤ size → Outstanding turns k n w x → live k ≡ true
    live_lines w x k h o = from_since (λ j. asks (turns j).act n) (λ j. gives (turns j).act n) live size dead lives k h (record {
      line = o.alloc;
      before = omega (arith, o.since, o.before);
      set = is_asks (turns o.alloc).act n o.columns o.allocated;
      lasts = λ j p q. not_is (gives (turns j).act n) (λ e. let r = gives_is (turns j).act n e in o.unreleased j p q r.0 r.1);
    })

  module _ (w : ℕ) (x : Transfer) (here : ℕ → Bool) where
    abbrev begins : ℕ → Bool
    begins j = starts (turns j).act (turns j).warp n w x

    abbrev ends : ℕ → Bool
    ends j = stops (turns j).act (turns j).warp n w x

    module _ (clean : here 0 ≡ false) (goes : (k : ℕ) → k < size → here (suc k) ≡ begins k || (not (ends k) && here k)) where
      -- what is outstanding is there
      pub from_lines : (k : ℕ) → k ≤ size → Outstanding turns k n w x → here k ≡ true
      from_lines k h o = from_since begins ends here size clean goes k h (record {
        line = o.line;
        before = o.before;
        set = is-starts (turns o.line).warp n w x (turns o.line).act (o.access, o.accessed, o.its_name, o.its_warp);
        lasts = λ j p q. not_is (ends j) (λ e. ended j p q (stops-is (turns j).warp n w x (turns j).act e));
      })
        where
          ended : (j : ℕ) → o.line < j → j < k → Stops (turns j).warp n w x (turns j).act → ⊥
          ended j p q (inl z) = o.unwaited j p q z.0 z.1
          ended j p q (inr z) = o.unreleased j (omega (arith, p, o.since)) q z.0 z.1

      -- and what is there is outstanding, if each load and store is on a live allocation
      pub to_lines : (live : ℕ → Bool) → live 0 ≡ false → ((k : ℕ) → k < size → live (suc k) ≡ asks (turns k).act n || (not (gives (turns k).act n) && live k))
          → ((k : ℕ) → k < size → begins k ≡ true → live k ≡ true) → (k : ℕ) → k ≤ size → here k ≡ true → Outstanding turns k n w x
      to_lines live dead lives named k h e =
          let s = to_since begins ends here size clean goes k h e in
          let b : s.line < size = omega (arith, h, s.before) in
          let i = starts_is (turns s.line).warp n w x (turns s.line).act s.set in
          let a = to_since (λ j. asks (turns j).act n) (λ j. gives (turns j).act n) live size dead lives s.line (omega (arith, b)) (named s.line b s.set) in
          let r = asks_is (turns a.line).act n a.set in
          record {
            alloc = a.line;
            columns = r.0;
            allocated = r.1;
            unreleased = λ j p q c f. around (λ j. Released j → ⊥) s.line j
                (λ g z. clash (is_gives (turns j).act n z.0 z.1) (a.lasts j p g))
                (λ z. apart (turns s.line).act x i.0 n z.0 i.1 z.1)
                (λ g z. clash (is-stops (turns j).warp n w x (turns j).act (inr z)) (s.lasts j g q)) (c, f);
            line = s.line;
            since = a.before;
            before = s.before;
            access = i.0;
            accessed = i.1;
            its_name = i.2;
            its_warp = i.3;
            unwaited = λ j p q f g. clash (is-stops (turns j).warp n w x (turns j).act (inl (f, g))) (s.lasts j p q);
          }

-- ---- THE CLAIM
module _ (placing : Placing) (line : ℕ → Line) (size : ℕ) (kept : (k : ℕ) → k < size → AllKept (rules_by placing line k)) where
  abbrev at : ℕ → State
  at k = state_by placing line k

  abbrev turns : ℕ → Turn
  turns j = turn_of (line j)

  pub lives : (n : Name) (k : ℕ) → k < size → is_live n (at (suc k)).live ≡ asks (turns k).act n || (not (gives (turns k).act n) && is_live n (at k).live)
  unfolding state_by
  lives n k h = accepted_line (placing k) (at k) (held_after line k) (line k) (kept k h)
      (λ x. is_live n (line_effect (placing k) (at k) x).live ≡ asks (act_in x) n || (not (gives (act_in x) n) && is_live n (at k).live))
      (λ w t p a. live_next n (placing k) (at k) (held_after line k) w t a (orderly placing line k (λ j q. kept j (omega (arith, h, q)))))

  -- an access that is accepted is on a live allocation
  pub named : (n : Name) (w : ℕ) (x : Transfer) (k : ℕ) → k < size → starts (turns k).act (turns k).warp n w x ≡ true → is_live n (at k).live ≡ true
  named n w x k h = accepted_line (placing k) (at k) (held_after line k) (line k) (kept k h)
      (λ y. starts (act_in y) (turn_of y).warp n w x ≡ true → is_live n (at k).live ≡ true)
      (λ v t p a e. let i = starts_is v n w x (act_of t) e in subst (λ m. is_live m (at k).live ≡ true) i.2 (accesses-kept (placing k) (at k) (held_after line k) v t a x i.0 i.1).0)

  marks : (n : Name) (w : ℕ) (x : Transfer) (k : ℕ) → k < size
      → is_marked n w x (at (suc k)).outstanding ≡ starts (turns k).act (turns k).warp n w x || (not (stops (turns k).act (turns k).warp n w x) && is_marked n w x (at k).outstanding)
  unfolding state_by
  marks n w x k h = marked_next n w x (placing k) (at k) (turns k).warp (turns k).act

  none_live : (n : Name) → is_live n (at 0).live ≡ false
  unfolding state_by is_live
  none_live n = refl

  none-marked : (n : Name) (w : ℕ) (x : Transfer) → is_marked n w x (at 0).outstanding ≡ false
  unfolding state_by is_marked
  none-marked n w x = refl

  waited-is : (s : State) (t : Statement) (n : Name) (c : ℕ) → act_of t ≡ act.releases n c → all-kept (waited s t) ≡ not (is_busy n s.outstanding)
  unfolding waited
  waited-is s t n c e = ap (λ x. all-kept (asked (for (release_in x) (λ r. whole (not (is_busy r.name s.outstanding))) ∷ []))) e

  waited_other : (s : State) (t : Statement) → release_of t ≡ none → all-kept (waited s t) ≡ true
  unfolding waited
  waited_other s t e = ap (λ o. all-kept (asked (for o (λ (r : Ask). whole (not (is_busy r.name s.outstanding))) ∷ []))) e

  pub marks_at : (k : ℕ) → k ≤ size → MarksAt placing line k
  marks_at k h = record {
    each = λ n w x. (to n w x, from n w x);
    dealloc = λ t n c q. ((λ e. found n (not-false (is_busy n (at k).outstanding) (sym (waited-is (at k) t n c q) ∙ e))), (λ o. waited-is (at k) t n c q ∙ ap not (marked_busy n o.0 o.1.0 (at k).outstanding (from n o.0 o.1.0 o.1.1))));
    others = λ t e. waited_other (at k) t e;
    live = λ n w x. live_lines turns size n (λ j. is_live n (at j).live) (none_live n) (lives n) w x k h;
  }
    where
      to : (n : Name) (w : ℕ) (x : Transfer) → is_marked n w x (at k).outstanding ≡ true → Outstanding turns k n w x
      to n w x = to_lines turns size n w x (λ j. is_marked n w x (at j).outstanding) (none-marked n w x) (marks n w x) (λ j. is_live n (at j).live) (none_live n) (lives n) (named n w x) k h

      from : (n : Name) (w : ℕ) (x : Transfer) → Outstanding turns k n w x → is_marked n w x (at k).outstanding ≡ true
      from n w x = from_lines turns size n w x (λ j. is_marked n w x (at j).outstanding) (none-marked n w x) (marks n w x) k h

      found : (n : Name) → is_busy n (at k).outstanding ≡ true → (w : ℕ) × ((x : Transfer) × Outstanding turns k n w x)
      found n e = let m = busy_marked n (at k).outstanding e in (m.0, (m.1.0, to n m.0 m.1.0 m.1.1))

-- after each accepted line of a sheet
pub marks_exact : (placing : Placing) (sheet : Sheet) (room : ℕ) → MarksExact placing sheet room
marks_exact placing sheet room = record { after = λ k h. marks_at placing sheet.line k (λ j p. accepted j (omega (arith, p, h)) (bool sheet.header)) k (omega arith) }
  where
    accepted : (j : ℕ) → j < accepted_lines placing sheet room → (sheet.header ≡ true) ⊎ (sheet.header ≡ false) → AllKept (rules_by placing sheet.line j)
    accepted j h (inl e) =
        let q : accepted_lines placing sheet room ≡ stop_by placing sheet.line sheet.count = ap (λ b. cond b (stop_by placing sheet.line sheet.count) 0) e in
        zero-kept placing sheet.line j (stop_before placing sheet.line sheet.count j (omega (arith, h, q)))
    accepted j h (inr e) =
        let q : accepted_lines placing sheet room ≡ 0 = ap (λ b. cond b (stop_by placing sheet.line sheet.count) 0) e in
        absurd (omega (arith, h, q))
