-- Demand 3 under any list of starts: a passed sheet's run stops at a request whose start may not be used and nowhere else, or reaches its exit with
-- nothing held. It follows the rules line by line until then. Assumes nothing.
use Prim.Native.Nat.{ℕ, zero, suc, ◌+◌, ◌≤◌, ◌<◌}
use mathlib.Core.Path.{◌≡◌, refl, sym, ap, ◌∙◌, subst}
use mathlib.Core.Bool.{Bool, true, false, ◌&&◌, cond}
use mathlib.Core.List.{List, [], ◌∷◌}
use mathlib.Core.Option.{Option, none, some, some-injective, none-ne-some}
use mathlib.Core.Logic.{◌⊎◌, inl, inr}
use native.Mathlib.Omega.{arith}
use lib.Dec.{leb}
use borrow.Author.Tests.{leb-true, leb-false, le-leb, lt-ltb, eqb-true}
use Rattle.tokens.specs.declared.Name.{Name}
use Rattle.tokens.specs.Names.{same_name}
use Rattle.statement.specs.declared.Transfer.{Transfer}
use Rattle.statement.specs.Views as act
use Rattle.statement.specs.Views.{Act, Turn, Ask, act_of, request_in, release_in, exit_in, of}
use Rattle.rules.specs.State.{is_busy}
use Rattle.rules.specs.Sheet.{Sheet, Placing, act_in, held_after, state_by, rules_by}
use Rattle.rules.specs.Claims.{AllKept}
use Rattle.rules.proofs.RuleLaws.{accepted_line, waited-kept}
use Rattle.rules.proofs.OutstandingProved.{not-marked}
use Rattle.laws.specs.Lists.{Among}
use Rattle.laws.proofs.BoolLaws.{and_l, and_r, and_split, or_cases, bool, clash}
use Rattle.tokens.proofs.Names.{same_true}
use Rattle.statement.proofs.Each.{each_act, exit-only}
use Rattle.rules.proofs.Figures.{held-total}
use Rattle.rules.proofs.RulesProved.{Clear, zero-kept}
use Rattle.run.specs.Run.{Holding, Region, Run, Phase, going, stopped_at, exited, ended, within, held_columns, usable, start_at, may_use, has, lies, all_lie, booked_by, known, able, done, in_phase, go, after, finish, outcome}
use Rattle.run.specs.Demand3.{turns_of, Inside, AllInside, Requests, Releases, Reached, Asks, Fails, Outcome, Willing, Fallen, Whichever}
use Rattle.run.proofs.Sound.{sound, sums}
use Rattle.run.proofs.Agree.{Agree, Follows, follows, free_for, able_line}

-- ---- phases
number : Phase → ℕ
number going = 0
number (stopped_at l) = 1
number exited = 2
number ended = 3

pub going-stopped : {p : Phase} (l : ℕ) → p ≡ going → p ≡ stopped_at l → ⊥
unfolding number
going-stopped {p} l a b = omega (arith, ap number (sym a ∙ b))

pub exited-stopped : {p : Phase} (l : ℕ) → p ≡ exited → p ≡ stopped_at l → ⊥
unfolding number
exited-stopped {p} l a b = omega (arith, ap number (sym a ∙ b))

pub going-exited : {p : Phase} → p ≡ going → p ≡ exited → ⊥
unfolding number
going-exited {p} a b = omega (arith, ap number (sym a ∙ b))

line_of : Phase → ℕ
line_of going = 0
line_of (stopped_at l) = l
line_of exited = 0
line_of ended = 0

same_line : {p : Phase} (l m : ℕ) → p ≡ stopped_at l → p ≡ stopped_at m → l ≡ m
unfolding line_of
same_line {p} l m a b = ap line_of (sym a ∙ b)

pub data Is (p : Phase) : Type 0 where
  goes : p ≡ going → Is p
  stopped : (l : ℕ) → p ≡ stopped_at l → Is p
  out : p ≡ exited → Is p
  over : p ≡ ended → Is p

pub phase : (p : Phase) → Is p
phase going = goes refl
phase (stopped_at l) = stopped l refl
phase exited = out refl
phase ended = over refl

finish-stopped : (p : Phase) (l : ℕ) → finish p ≡ stopped_at l → p ≡ stopped_at l
unfolding finish number
finish-stopped going l e = absurd (omega (arith, ap number e))
finish-stopped (stopped_at m) l e = e
finish-stopped exited l e = absurd (omega (arith, ap number e))
finish-stopped ended l e = absurd (omega (arith, ap number e))

finish-exited : (p : Phase) → finish p ≡ exited → p ≡ exited
unfolding finish number
finish-exited going e = absurd (omega (arith, ap number e))
finish-exited (stopped_at m) e = absurd (omega (arith, ap number e))
finish-exited exited e = refl
finish-exited ended e = absurd (omega (arith, ap number e))

-- ---- one line
-- an act that is done leaves the run going, but for an exit
done_phase : (starts : List ℕ) (r : Run) (w : ℕ) (t : Act) → r.phase ≡ going → (done starts r w t).phase ≡ cond (exit_in t) exited going
unfolding done
done_phase starts r w t q = each_act (λ t. (done starts r w t).phase ≡ cond (exit_in t) exited going) t search

-- it does not stop it
pub done-goes : (starts : List ℕ) (r : Run) (w : ℕ) (t : Act) (l : ℕ) → r.phase ≡ going → (done starts r w t).phase ≡ stopped_at l → ⊥
done-goes starts r w t l q e = at (exit_in t) (sym (done_phase starts r w t q) ∙ e)
  where
    at : (b : Bool) → cond b exited going ≡ stopped_at l → ⊥
    at true f = exited-stopped l refl f
    at false f = going-stopped l refl f

module _ (starts : List ℕ) (r : Run) (line : ℕ) (x : Turn) (q : r.phase ≡ going) where
  by_able : go r.phase starts r line x ≡ cond (able starts r x.act) (done starts r x.warp x.act) (in_phase (stopped_at line) r)
  unfolding go
  by_able = ap (λ p. go p starts r line x) q

  -- it is done, or the run stops
  pub go_by : (P : Run → Type 0) → (able starts r x.act ≡ true → P (done starts r x.warp x.act)) → (able starts r x.act ≡ false → P (in_phase (stopped_at line) r))
      → P (go r.phase starts r line x)
  go_by P f g = subst P (sym by_able) (at (able starts r x.act) refl)
    where
      at : (t : Bool) → able starts r x.act ≡ t → P (cond t (done starts r x.warp x.act) (in_phase (stopped_at line) r))
      at true e = f e
      at false e = g e

  stop_unable : (l : ℕ) → (go r.phase starts r line x).phase ≡ stopped_at l → (able starts r x.act ≡ false) × (l ≡ line)
  stop_unable l =
      go_by (λ z. z.phase ≡ stopped_at l → (able starts r x.act ≡ false) × (l ≡ line))
      (λ e d. absurd (done-goes starts r x.warp x.act l q d))
      (λ e d. (e, same_line l line d refl))

  unable_stop : able starts r x.act ≡ false → (go r.phase starts r line x).phase ≡ stopped_at line
  unable_stop e = go_by (λ z. z.phase ≡ stopped_at line) (λ f. absurd (clash f e)) (λ f. refl)

-- ---- requests
requests_same : (t : Act) (x y : ℕ) → Requests t x → Requests t y → x ≡ y
requests_same t x y a b = some-injective x y (sym a ∙ b)

pub free_is : (l : List Holding) (t : Act) (o : Option ℕ) (x : ℕ) → Requests t x → free_for l t o ≡ may_use l x o
unfolding free_for
free_is l t o x a = at (request_in t) a
  where
    at : (q : Option Ask) → of q (λ r. some r.columns) none ≡ some x → of q (λ r. may_use l r.columns o) true ≡ may_use l x o
    at none e = absurd (none-ne-some x e)
    at (some r) e = ap (λ y. may_use l y o) (some-injective r.columns x e)

free_asks : (l : List Holding) (t : Act) (o : Option ℕ) → free_for l t o ≡ false → (x : ℕ) × (Requests t x × (may_use l x o ≡ false))
unfolding free_for
free_asks l t o e = at (request_in t) e
  where
    at : (q : Option Ask) → of q (λ r. may_use l r.columns o) true ≡ false → (x : ℕ) × ((of q (λ r. some r.columns) none ≡ some x) × (may_use l x o ≡ false))
    at none e = absurd (clash refl e)
    at (some r) e = (r.columns, (refl, e))

-- ---- releases
releases-is : (t : Act) (n : Name) → Releases t n → (c : ℕ) × (t ≡ act.releases n c)
releases-is t n = each_act (λ t. Releases t n → (c : ℕ) × (t ≡ act.releases n c)) t (search (none_such, own))
  where
    none_such : {A : Type 0} → ◌≡◌ {A = Option Name} none (some n) → A
    none_such e = absurd (none-ne-some n e)

    own : (m : Name) (c : ℕ) → ◌≡◌ {A = Option Name} (some m) (some n) → (d : ℕ) × (act.releases m c ≡ act.releases n d)
    own m c e = (c, ap (λ k. act.releases k c) (some-injective m n e))

-- ---- accesses
found : (p : Holding → Bool) (l : List Holding) → has p l ≡ true → (h : Holding) × Among h l × (p h ≡ true)
unfolding has
found p [] e = absurd (clash e refl)
found p (h ∷ l) e = at (or_cases (p h) (has p l) e) (found p l)
  where
    at : (p h ≡ true) ⊎ (has p l ≡ true) → (has p l ≡ true → (g : Holding) × Among g l × (p g ≡ true)) → (g : Holding) × Among g (h ∷ l) × (p g ≡ true)
    at (inl e) ih = (h, inl refl, e)
    at (inr e) ih = let r = ih e in (r.0, inr r.1, r.2)

inside : (a : Region) (l : List Holding) → has (lies a) l ≡ true → Inside a l
unfolding lies within
inside a l e =
    let f = found (lies a) l e in
    let h : Holding = f.0 in
    let x = same_name h.name a.name in
    let y = leb (a.lane + a.lanes) 128 in
    let z = leb (h.start + a.column + a.columns) (h.start + h.length) in
    let t = and_r x (y && z) f.2 in
    let q : h.start + a.column + a.columns ≤ h.start + h.length = leb-true (h.start + a.column + a.columns) (h.start + h.length) (and_r y z t) in
    record {
      holding = h;
      live = f.1;
      its_name = same_true h.name a.name (and_l x (y && z) f.2);
      lanes = leb-true (a.lane + a.lanes) 128 (and_l y z t);
      each = λ d p. rw (le-leb h.start (h.start + a.column + d) (omega arith), lt-ltb (h.start + a.column + d) (h.start + h.length) (omega (arith, p, q)));
    }

all-inside : (xs : List Region) (l : List Holding) → all_lie xs l ≡ true → AllInside xs l
unfolding all_lie
all-inside [] l e = tt
all-inside (a ∷ xs) l e = (inside a l (and_l (has (lies a) l) (all_lie xs l) e), all-inside xs l (and_r (has (lies a) l) (all_lie xs l) e))

-- what an act that can be done books lies in the holdings, and its number is known
able_lie : (starts : List ℕ) (r : Run) (t : Act) → able starts r t ≡ true → known r.notes t && all_lie (booked_by r.notes t) r.live ≡ true
unfolding able booked_by known all_lie
able_lie starts r t = each_act (λ t. able starts r t ≡ true → known r.notes t && all_lie (booked_by r.notes t) r.live ≡ true) t search

able-inside : (starts : List ℕ) (r : Run) (t : Act) → able starts r t ≡ true → (known r.notes t ≡ true) × AllInside (booked_by r.notes t) r.live
able-inside starts r t e =
    let p = and_split (known r.notes t) (all_lie (booked_by r.notes t) r.live) (able_lie starts r t e) in
    (p.0, all-inside (booked_by r.notes t) r.live p.1)

-- ---- the exit
exit-empty : (starts : List ℕ) (r : Run) (w : ℕ) (t : Act) → r.phase ≡ going → able starts r t ≡ true → (done starts r w t).phase ≡ exited → held_columns (done starts r w t).live ≡ 0
unfolding able done booked_by known all_lie
exit-empty starts r w t q e f = at (exit_in t) refl (sym (done_phase starts r w t q) ∙ f)
  where
    at : (b : Bool) → exit_in t ≡ b → cond b exited going ≡ exited → held_columns (done starts r w t).live ≡ 0
    at true g h = subst (λ x. able starts r x ≡ true → held_columns (done starts r w x).live ≡ 0) (sym (exit-only t g)) (eqb-true (held_columns r.live) 0) e
    at false g h = absurd (going-exited refl h)

-- ---- many lines
module _ (starts : List ℕ) (turns : ℕ → Turn) where
  abbrev now : ℕ → Run
  now k = after starts turns k

  next : (k : ℕ) → now (suc k) ≡ go (now k).phase starts (now k) (k + 2) (turns k)
  unfolding after
  next k = refl

  stays_stopped : (k l : ℕ) → (now k).phase ≡ stopped_at l → now (suc k) ≡ now k
  unfolding after go
  stays_stopped k l e = ap (λ p. go p starts (now k) (k + 2) (turns k)) e

  stays_exited : (k : ℕ) → (now k).phase ≡ exited → now (suc k) ≡ now k
  unfolding after go
  stays_exited k e = ap (λ p. go p starts (now k) (k + 2) (turns k)) e

  stays_over : (k : ℕ) → (now k).phase ≡ ended → now (suc k) ≡ now k
  unfolding after go
  stays_over k e = ap (λ p. go p starts (now k) (k + 2) (turns k)) e

  later_stopped : (k m l : ℕ) → (now k).phase ≡ stopped_at l → k ≤ m → (now m).phase ≡ stopped_at l
  later_stopped k zero l e h = let z : k ≡ 0 = omega (arith, h) in subst (λ j. (now j).phase ≡ stopped_at l) z e
  later_stopped k (suc m) l e h = at (bool (leb k m)) (later_stopped k m l e)
    where
      at : (leb k m ≡ true) ⊎ (leb k m ≡ false) → (k ≤ m → (now m).phase ≡ stopped_at l) → (now (suc m)).phase ≡ stopped_at l
      at (inl f) ih = let p = ih (leb-true k m f) in ap (λ (z : Run). z.phase) (stays_stopped m l p) ∙ p
      at (inr f) ih = let z : k ≡ suc m = omega (arith, h, leb-false k m f) in subst (λ j. (now j).phase ≡ stopped_at l) z e

  -- where it stopped
  record Stop (l n : ℕ) : Type 0 where
    turn : ℕ
    before : turn < n
    reached : (now turn).phase ≡ going
    unable : able starts (now turn) (turns turn).act ≡ false
    line : l ≡ turn + 2

  first_going : (now 0).phase ≡ going
  unfolding after
  first_going = refl

  stop-of : (l m : ℕ) → (now m).phase ≡ stopped_at l → Stop l m
  stop-of l zero e = absurd (going-stopped l first_going e)
  stop-of l (suc m) e = at (phase (now m).phase) (stop-of l m)
    where
      moved : now (suc m) ≡ now m → (now m).phase ≡ stopped_at l
      moved p = ap (λ (z : Run). z.phase) (sym p) ∙ e

      at : Is (now m).phase → ((now m).phase ≡ stopped_at l → Stop l m) → Stop l (suc m)
      at (goes q) ih =
          let u = stop_unable starts (now m) (m + 2) (turns m) q l (ap (λ (z : Run). z.phase) (sym (next m)) ∙ e) in
          record { turn = m; before = omega arith; reached = q; unable = u.0; line = u.1 }
      at (stopped j q) ih =
          let s = ih (moved (stays_stopped m j q)) in
          record { turn = s.turn; before = omega (arith, s.before); reached = s.reached; unable = s.unable; line = s.line }
      at (out q) ih = absurd (exited-stopped l q (moved (stays_exited m q)))
      at (over q) ih =
          let s = ih (moved (stays_over m q)) in
          record { turn = s.turn; before = omega (arith, s.before); reached = s.reached; unable = s.unable; line = s.line }

  -- at the exit nothing is held
  exited-empty : (m : ℕ) → (now m).phase ≡ exited → held_columns (now m).live ≡ 0
  exited-empty zero e = absurd (going-exited first_going e)
  exited-empty (suc m) e = at (phase (now m).phase) (exited-empty m)
    where
      same : now (suc m) ≡ now m → ((now m).phase ≡ exited → held_columns (now m).live ≡ 0) → held_columns (now (suc m)).live ≡ 0
      same p ih = ap (λ (z : Run). held_columns z.live) p ∙ ih (ap (λ (z : Run). z.phase) (sym p) ∙ e)

      at : Is (now m).phase → ((now m).phase ≡ exited → held_columns (now m).live ≡ 0) → held_columns (now (suc m)).live ≡ 0
      at (goes q) ih =
          subst (λ (z : Run). z.phase ≡ exited → held_columns z.live ≡ 0) (sym (next m))
          (go_by starts (now m) (m + 2) (turns m) q (λ z. z.phase ≡ exited → held_columns z.live ≡ 0)
          (λ f d. exit-empty starts (now m) (turns m).warp (turns m).act q f d)
          (λ f d. absurd (exited-stopped (m + 2) d refl))) e
      at (stopped j q) ih = same (stays_stopped m j q) ih
      at (out q) ih = same (stays_exited m q) ih
      at (over q) ih = same (stays_over m q) ih

-- ---- a passed sheet
module _ (placing : Placing) (sheet : Sheet) (c : Clear placing sheet) (starts : List ℕ) where
  abbrev our : ℕ → Run
  our k = after starts (turns_of sheet) k

  kept : (k : ℕ) → k < sheet.count → AllKept (rules_by placing sheet.line k)
  kept k h = zero-kept placing sheet.line k (c.zeros k h)

  pub beside : (k : ℕ) → k ≤ sheet.count → Follows (our k).phase (state_by placing sheet.line k) (our k)
  beside k h = follows starts placing sheet.line sheet.count kept k h

  pub agrees : (k : ℕ) → k ≤ sheet.count → (our k).phase ≡ going → Agree (state_by placing sheet.line k) (our k)
  agrees k h q = subst (λ p. Follows p (state_by placing sheet.line k) (our k)) q (beside k h)

  -- at a line that is reached
  pub able-at : (k : ℕ) → Reached sheet starts k
      → able starts (our k) (turns_of sheet k).act ≡ free_for (our k).live (turns_of sheet k).act (start_at starts (our k).requests)
  able-at k h =
      able_line starts (placing k) (state_by placing sheet.line k) (our k) (held_after sheet.line k) (sheet.line k)
      (held-total placing sheet.line k (λ j p. kept j (omega (arith, h.0, p)))) (kept k h.0)
      (agrees k (omega (arith, h.0)) h.1) (sound starts (turns_of sheet) k)

  fails_stop : (k : ℕ) → Fails sheet starts k → (our (suc k)).phase ≡ stopped_at (k + 2)
  fails_stop k f =
      let h : Reached sheet starts k = f.asks.0 in
      ap (λ (z : Run). z.phase) (next starts (turns_of sheet) k)
      ∙ unable_stop starts (our k) (k + 2) (turns_of sheet k) h.1
      (able-at k h ∙ free_is (our k).live (turns_of sheet k).act (start_at starts (our k).requests) f.columns f.asks.1 ∙ f.unmet)

  stop_fails : (l : ℕ) → (our sheet.count).phase ≡ stopped_at l → (k : ℕ) × (Fails sheet starts k × (l ≡ k + 2))
  stop_fails l e =
      let s = stop-of starts (turns_of sheet) l sheet.count e in
      let h : Reached sheet starts s.turn = (s.before, s.reached) in
      let a = free_asks (our s.turn).live (turns_of sheet s.turn).act (start_at starts (our s.turn).requests) (sym (able-at s.turn h) ∙ s.unable) in
      (s.turn, (record { columns = a.0; asks = (h, a.1.0); unmet = a.1.1 }, s.line))

  abbrev last : Run
  last = our sheet.count

  ends : Is last.phase → (last.phase ≡ exited) ⊎ ((l : ℕ) × (last.phase ≡ stopped_at l))
  ends (goes q) = absurd (clash c.exited (agrees sheet.count (omega arith) q).open')
  ends (stopped l q) = inr (l, q)
  ends (out q) = inl q
  ends (over q) = absurd (subst (λ p. Follows p (state_by placing sheet.line sheet.count) last) q (beside sheet.count (omega arith)))

  to_exit : last.phase ≡ exited → Outcome sheet starts exited
  unfolding outcome finish
  to_exit e = ap finish e

  to_stop : (l : ℕ) → last.phase ≡ stopped_at l → Outcome sheet starts (stopped_at l)
  unfolding outcome finish
  to_stop l e = ap finish e

  from_exit : Outcome sheet starts exited → last.phase ≡ exited
  unfolding outcome
  from_exit e = finish-exited last.phase e

  from_stop : (l : ℕ) → Outcome sheet starts (stopped_at l) → last.phase ≡ stopped_at l
  unfolding outcome
  from_stop l e = finish-stopped last.phase l e

  -- ---- loads and stores
  unmarked : (k : ℕ) → k < sheet.count → (n : Name) → Releases (turns_of sheet k).act n → is_busy n (state_by placing sheet.line k).outstanding ≡ false
  unmarked k h n =
      accepted_line (placing k) (state_by placing sheet.line k) (held_after sheet.line k) (sheet.line k) (kept k h)
      (λ x. Releases (act_in x) n → is_busy n (state_by placing sheet.line k).outstanding ≡ false)
      (λ w t p a e. let r = releases-is (act_of t) n e in waited-kept (placing k) (state_by placing sheet.line k) (held_after sheet.line k) w t a n r.0 r.1)

  waited : (k : ℕ) → Reached sheet starts k → (n : Name) → Releases (turns_of sheet k).act n → (w : ℕ) (x : Transfer) → (our k).pending n w x ≡ false
  waited k h n e w x =
      (agrees k (omega (arith, h.0)) h.1).noted n w x
      ∙ not-marked n w x (state_by placing sheet.line k).outstanding (unmarked k h.0 n e)

  pub any_starts : Whichever sheet starts
  any_starts =
      record {
        stops = λ k f. to_stop (k + 2) (later_stopped starts (turns_of sheet) (suc k) sheet.count (k + 2) (fails_stop k f) f.asks.0.0);
        only = λ l e. stop_fails l (from_stop l e);
        otherwise = λ n. otherwise n (ends (phase last.phase));
        full = λ w k x s a e. full w k x s a e (bool (usable (our k).live x s));
        apart = λ k. (sound starts (turns_of sheet) k).apart;
        inside = λ k h n. fallen k h n (bool (able starts (our k) (turns_of sheet k).act));
        counted = λ k. sums starts (turns_of sheet) k;
        waited = waited;
        nothing = λ e. exited-empty starts (turns_of sheet) sheet.count (from_exit e);
      }
    where
      otherwise : ((k : ℕ) → Fails sheet starts k → ⊥) → (last.phase ≡ exited) ⊎ ((l : ℕ) × (last.phase ≡ stopped_at l)) → Outcome sheet starts exited
      otherwise n (inl e) = to_exit e
      otherwise n (inr e) = let f = stop_fails e.0 e.1 in absurd (n f.0 f.1.0)

      full : Willing sheet starts → (k x s : ℕ) → Asks sheet starts k x → Outcome sheet starts (stopped_at (k + 2))
          → (usable (our k).live x s ≡ true) ⊎ (usable (our k).live x s ≡ false) → usable (our k).live x s ≡ false
      full w k x s a e (inl u) =
          let f = stop_fails (k + 2) (from_stop (k + 2) e) in
          let same : f.0 ≡ k = omega (arith, f.1.1) in
          let g : Fails sheet starts k = subst (λ j. Fails sheet starts j) same f.1.0 in
          let eq : g.columns ≡ x = requests_same (turns_of sheet k).act g.columns x g.asks.1 a.1 in
          absurd (clash (w k x s a u) (subst (λ y. may_use (our k).live y (start_at starts (our k).requests) ≡ false) eq g.unmet))
      full w k x s a e (inr u) = u

      fallen : (k : ℕ) → Reached sheet starts k → ((our (suc k)).phase ≡ stopped_at (k + 2) → ⊥)
          → (able starts (our k) (turns_of sheet k).act ≡ true) ⊎ (able starts (our k) (turns_of sheet k).act ≡ false) → Fallen sheet starts k
      fallen k h n (inl e) = let i = able-inside starts (our k) (turns_of sheet k).act e in record { number = i.0; inside = i.1 }
      fallen k h n (inr e) = absurd (n (ap (λ (z : Run). z.phase) (next starts (turns_of sheet) k) ∙ unable_stop starts (our k) (k + 2) (turns_of sheet k) h.1 e))
