-- The answer names the first broken rule of the first line that breaks one. The lines' own reasons decide where the sheet stops; then each claim is
-- read off. Assumes nothing.
use Prim.Native.Nat.{ℕ, zero, suc, ◌+◌, ◌≤◌, ◌<◌}
use mathlib.Core.Path.{◌≡◌, refl, sym, ap, ◌∙◌, subst}
use mathlib.Core.Bool.{Bool, true, false, not, ◌||◌, cond}
use mathlib.Core.List.{List, [], ◌∷◌, ◌++◌}
use mathlib.Core.Logic.{◌⊎◌, inl, inr}
use native.Mathlib.Omega.{arith}
use lib.Dec.{leb, ltb, eqb}
use lib.ListN.{length}
use borrow.Author.Tests.{not-true, not-false, eqb-true, eqb-false, ltb-true, ltb-false, leb-true, leb-false, lt-ltb, le-ltb, eq-eqb, ne_eqb}
use Rattle.laws.specs.Rules.{rule, first_broken}
use Rattle.statement.specs.declared.Position.{Position}
use Rattle.statement.specs.declared.Position.TheVariants.{Start}
use Rattle.statement.specs.Views.{Act, exit_in}
use Rattle.rules.specs.Rows.{at_start, whole, Row, row, rules_of, first_position}
use Rattle.rules.specs.Counting.{least}
use Rattle.rules.specs.State.{State, Placer}
use Rattle.rules.specs.Sheet.{Line, turn_of, act_in, Sheet, Placing, line_rules, line_effect, effect, state_by, starts_by, rules_by, reason_by, position_by, stop_by, held_after, peak_up_to, answer, closing, answer_at, answer_by}
use Rattle.rules.specs.Claims.{AllKept, exits, Passing, Passed, end_rows, own_rows, rows_at, rules_at, Refused, RulesExact}
use Rattle.rules.specs.declared.Answer.{Answer}
use Rattle.laws.proofs.BoolLaws.{bool, clash}
use Rattle.statement.proofs.Each.{each_act}
use Rattle.rules.proofs.CountingLaws.{least-le, least_hit, least-below}
use Rattle.rules.proofs.RuleLaws.{lacks, accepted_line, kept-none, none_kept, never, first_is, is_first, rules-both, position_kept, position_broken, lacks_both, in_turn_kept, in_turn_broken, line_numbered}

-- ---- lines and exit
-- an act ends the sheet, or leaves it as it was
exited-next : (place : Placer) (s : State) (w : ℕ) (x : Act) → (effect place s w x).exited ≡ exit_in x || s.exited
unfolding effect
exited-next place s w x = each_act (λ x. (effect place s w x).exited ≡ exit_in x || s.exited) x search

pub exit-ends : (place : Placer) (s : State) (x : Line) → exits x ≡ true → (line_effect place s x).exited ≡ true
exit-ends place s x e = exited-next place s (turn_of x).warp (act_in x) ∙ ap (λ b. b || s.exited) e

pub other_stays : (place : Placer) (s : State) (x : Line) → exits x ≡ false → (line_effect place s x).exited ≡ s.exited
other_stays place s x e = exited-next place s (turn_of x).warp (act_in x) ∙ ap (λ b. b || s.exited) e

-- after exit every line breaks a rule
pub no_more : (place : Placer) (s : State) (held : ℕ) (x : Line) → AllKept (line_rules place s held x) → s.exited ≡ true → ⊥
no_more place s held x h e = accepted_line place s held x h (λ x. ⊥) (λ w t p a. clash e a.open')

-- ---- the lines' own reasons
module _ (placing : Placing) (line : ℕ → Line) where
  abbrev reason : ℕ → ℕ
  reason k = reason_by placing line k

  pub zero-kept : (k : ℕ) → reason k ≡ 0 → AllKept (rules_by placing line k)
  unfolding reason_by
  zero-kept k e = none_kept (rules_by placing line k) (line_numbered (placing k) (state_by placing line k) (held_after line k) (line k)).0 e

  pub kept-zero : (k : ℕ) → AllKept (rules_by placing line k) → reason k ≡ 0
  unfolding reason_by
  kept-zero k h = kept-none (rules_by placing line k) h

  -- 16 is of no line
  reason_other : (k : ℕ) → reason k ≡ 16 → ⊥
  unfolding reason_by
  reason_other k e = never 16 (rules_by placing line k) (line_numbered (placing k) (state_by placing line k) (held_after line k) (line k)).1 (omega arith) e

  -- the line where the sheet stops is refused, and none before it
  pub stop_le : (n : ℕ) → stop_by placing line n ≤ n
  unfolding stop_by
  stop_le n = least-le (λ k. not (eqb (reason_by placing line k) 0)) n

  pub stop_hit : (n : ℕ) → stop_by placing line n < n → 0 < reason (stop_by placing line n)
  unfolding stop_by
  stop_hit n h =
      let k = least (λ k. not (eqb (reason_by placing line k) 0)) n in
      omega (arith, eqb-false (reason k) 0 (not-true (eqb (reason k) 0) (least_hit (λ k. not (eqb (reason_by placing line k) 0)) n h)))

  pub stop_before : (n j : ℕ) → j < stop_by placing line n → reason j ≡ 0
  unfolding stop_by
  stop_before n j h = eqb-true (reason j) 0 (not-false (eqb (reason j) 0) (least-below (λ k. not (eqb (reason_by placing line k) 0)) n j h))

  -- it stops at the end exactly where no line is refused
  pub stop_none : (n : ℕ) → ((k : ℕ) → k < n → reason k ≡ 0) → stop_by placing line n ≡ n
  stop_none n h = at (bool (ltb (stop_by placing line n) n))
    where
      at : (ltb (stop_by placing line n) n ≡ true) ⊎ (ltb (stop_by placing line n) n ≡ false) → stop_by placing line n ≡ n
      at (inl e) =
          let l = ltb-true (stop_by placing line n) n e in
          absurd (omega (arith, stop_hit n l, h (stop_by placing line n) l))
      at (inr e) = omega (arith, stop_le n, ltb-false (stop_by placing line n) n e)

  -- ---- exit
  state_next : (k : ℕ) → state_by placing line (suc k) ≡ line_effect (placing k) (state_by placing line k) (line k)
  unfolding state_by
  state_next k = refl

  state_first : (state_by placing line 0).exited ≡ false
  unfolding state_by
  state_first = refl

  pub exits-after : (k : ℕ) → exits (line k) ≡ true → (state_by placing line (suc k)).exited ≡ true
  exits-after k e = ap (λ (s : State). s.exited) (state_next k) ∙ exit-ends (placing k) (state_by placing line k) (line k) e

  -- of lines that keep the rules, exit is the last
  pub exit_last : (m : ℕ) → ((k : ℕ) → k < suc m → AllKept (rules_by placing line k)) → (state_by placing line (suc m)).exited ≡ true → exits (line m) ≡ true
  exit_last m h e = at (bool (exits (line m)))
    where
      at : (exits (line m) ≡ true) ⊎ (exits (line m) ≡ false) → exits (line m) ≡ true
      at (inl z) = z
      at (inr z) = absurd (no_more (placing m) (state_by placing line m) (held_after line m) (line m) (h m (omega arith)) (sym (other_stays (placing m) (state_by placing line m) (line m) z) ∙ sym (ap (λ (s : State). s.exited) (state_next m)) ∙ e))

  pub exit_sole : (m k : ℕ) → ((j : ℕ) → j < suc m → AllKept (rules_by placing line j)) → k < m → exits (line k) ≡ false
  exit_sole m k h p = at (bool (exits (line k)))
    where
      at : (exits (line k) ≡ true) ⊎ (exits (line k) ≡ false) → exits (line k) ≡ false
      at (inl z) = absurd (no_more (placing (suc k)) (state_by placing line (suc k)) (held_after line (suc k)) (line (suc k)) (h (suc k) (omega arith)) (exits-after k z))
      at (inr z) = z

-- what a sheet without a refused line is, in the words of the definitions
pub record Clear (placing : Placing) (sheet : Sheet) : Type 0 where
  pub header : sheet.header ≡ true
  pub zeros : (k : ℕ) → k < sheet.count → reason_by placing sheet.line k ≡ 0
  pub exited : (state_by placing sheet.line sheet.count).exited ≡ true

pub clear_passed : (placing : Placing) (sheet : Sheet) → Clear placing sheet → Passed placing sheet
clear_passed placing sheet c = by sheet.count refl
  where
    kept : (k : ℕ) → k < sheet.count → AllKept (rules_by placing sheet.line k)
    kept k h = zero-kept placing sheet.line k (c.zeros k h)

    by : (n : ℕ) → sheet.count ≡ n → Passed placing sheet
    by zero e = absurd (clash (subst (λ n. (state_by placing sheet.line n).exited ≡ true) e c.exited) (state_first placing sheet.line))
    by (suc m) e =
        let all : (k : ℕ) → k < suc m → AllKept (rules_by placing sheet.line k) = λ k h. kept k (omega (arith, e)) in
        record {
          header = c.header;
          kept = kept;
          last = m;
          is_last = sym e;
          ends = exit_last placing sheet.line m all (subst (λ n. (state_by placing sheet.line n).exited ≡ true) e c.exited);
          sole = λ k h. exit_sole placing sheet.line m k all h;
        }

pub passed_clear : (placing : Placing) (sheet : Sheet) → Passed placing sheet → Clear placing sheet
passed_clear placing sheet p =
    record {
      header = p.header;
      zeros = λ k h. kept-zero placing sheet.line k (p.kept k h);
      exited = subst (λ n. (state_by placing sheet.line n).exited ≡ true) p.is_last (exits-after placing sheet.line p.last p.ends);
    }

-- ---- the answer, by cases
module _ (placing : Placing) (sheet : Sheet) (room : ℕ) where
  abbrev lines : ℕ → Line
  lines = sheet.line

  abbrev size : ℕ
  size = sheet.count

  abbrev stop : ℕ
  stop = stop_by placing lines size

  abbrev given : Answer
  given = answer_by placing sheet room

  abbrev starts : ℕ
  starts = length (starts_by placing lines size)

  -- the column of the last line's start
  abbrev first_byte : ℕ
  first_byte = sheet.column size Start

  abbrev closes : Bool → Bool → Answer
  closes exited full = cond exited (cond full (answer 16 (size + 1) first_byte 0 (peak_up_to lines size)) (answer 0 (size + 1) 0 0 (peak_up_to lines size))) (answer 15 (size + 1) first_byte (held_after lines size) (peak_up_to lines size))

  pub bad_header : sheet.header ≡ false → given ≡ answer 2 1 (sheet.column 0 Start) 0 0
  unfolding answer_by
  bad_header e = ap (λ h. cond h (answer_at placing sheet room stop) (answer 2 1 (sheet.column 0 Start) 0 0)) e

  good-header : sheet.header ≡ true → given ≡ answer_at placing sheet room stop
  unfolding answer_by
  good-header e = ap (λ h. cond h (answer_at placing sheet room stop) (answer 2 1 (sheet.column 0 Start) 0 0)) e

  pub at_stop : sheet.header ≡ true → stop < size → given ≡ answer (reason_by placing lines stop) (stop + 2) (sheet.column (suc stop) (position_by placing lines stop)) (held_after lines stop) (peak_up_to lines stop)
  unfolding answer_at
  at_stop e h = good-header e ∙ rw (lt-ltb stop size h)

  pub at-end : sheet.header ≡ true → stop ≡ size → given ≡ closes (state_by placing lines size).exited (ltb room starts)
  unfolding answer_at closing
  at-end e h = good-header e ∙ rw (le-ltb stop size (omega (arith, h)))

  -- ---- passed
  closes_passing : (exited full : Bool) → Passing (closes exited full).reason → exited ≡ true
  closes_passing true full p = refl
  closes_passing false full (inl e) = absurd (omega (arith, e))
  closes_passing false full (inr e) = absurd (omega (arith, e))

  passing_closes : (exited full : Bool) → exited ≡ true → Passing (closes exited full).reason
  passing_closes true true e = inr refl
  passing_closes true false e = inl refl
  passing_closes false full e = absurd (clash e refl)

  no_stop : stop < size → (r : ℕ) → Passing r → r ≡ reason_by placing lines stop → ⊥
  no_stop h r (inl e) q = omega (arith, e, q, stop_hit placing lines size h)
  no_stop h r (inr e) q = reason_other placing lines stop (sym q ∙ e)

  no_header : (r : ℕ) → Passing r → r ≡ 2 → ⊥
  no_header r (inl e) q = omega (arith, e, q)
  no_header r (inr e) q = omega (arith, e, q)

  pub passing_clear : Passing given.reason → Clear placing sheet
  passing_clear p = by (bool sheet.header)
    where
      running : sheet.header ≡ true → (ltb stop size ≡ true) ⊎ (ltb stop size ≡ false) → Clear placing sheet
      running h (inl e) = absurd (no_stop (ltb-true stop size e) given.reason p (ap (λ (a : Answer). a.reason) (at_stop h (ltb-true stop size e))))
      running h (inr e) =
          let q : stop ≡ size = omega (arith, stop_le placing lines size, ltb-false stop size e) in
          record {
            header = h;
            zeros = λ k i. stop_before placing lines size k (omega (arith, q, i));
            exited = closes_passing (state_by placing lines size).exited (ltb room starts) (subst (λ (a : Answer). Passing a.reason) (at-end h q) p);
          }

      by : (sheet.header ≡ true) ⊎ (sheet.header ≡ false) → Clear placing sheet
      by (inl h) = running h (bool (ltb stop size))
      by (inr h) = absurd (no_header given.reason p (ap (λ (a : Answer). a.reason) (bad_header h)))

  pub clear_passing : Clear placing sheet → Passing given.reason
  clear_passing c =
      subst (λ (a : Answer). Passing a.reason) (sym (at-end c.header (stop_none placing lines size c.zeros)))
      (passing_closes (state_by placing lines size).exited (ltb room starts) c.exited)

  -- ---- where the sheet is refused
  -- the first broken rule under l, or 0
  abbrev first : ℕ → ℕ
  first l = first_broken (rules_at placing sheet room l)

  abbrev own_first : ℕ → ℕ
  own_first l = first_broken (rules_of (own_rows placing sheet room l))

  -- where it is broken
  abbrev where' : ℕ → Position
  where' l = first_position (rows_at placing sheet room l)

  abbrev last_rows : ℕ → List Row
  last_rows l = cond (eqb l size) (end_rows placing sheet room) []

  both : (l : ℕ) → rules_at placing sheet room l ≡ rules_of (own_rows placing sheet room l) ++ rules_of (last_rows l)
  both l = rules-both (own_rows placing sheet room l) (last_rows l)

  own_above : (l : ℕ) → lacks 0 (rules_of (own_rows placing sheet room l)) ≡ true
  own_above zero = refl
  own_above (suc k) = (line_numbered (placing k) (state_by placing lines k) (held_after lines k) (lines k)).0

  own_zero : (l : ℕ) → sheet.header ≡ true → ((k : ℕ) → k < l → reason_by placing lines k ≡ 0) → own_first l ≡ 0
  unfolding reason_by
  own_zero zero h z = ap (λ b. cond b 0 2) h
  own_zero (suc k) h z = z k (omega arith)

  where_same : position_by placing lines stop ≡ first_position (own_rows placing sheet room (suc stop))
  unfolding position_by
  where_same = refl

  own_same : reason_by placing lines stop ≡ own_first (suc stop)
  unfolding reason_by
  own_same = refl

  first_own : (l : ℕ) → 0 < own_first l → first l ≡ own_first l
  first_own l h = ap first_broken (both l) ∙ in_turn_broken (rules_of (own_rows placing sheet room l)) (rules_of (last_rows l)) (own_above l) h

  first_then : (l : ℕ) → own_first l ≡ 0 → first l ≡ first_broken (rules_of (last_rows l))
  first_then l h = ap first_broken (both l) ∙ in_turn_kept (rules_of (own_rows placing sheet room l)) (rules_of (last_rows l)) (own_above l) h

  first_middle : (l : ℕ) → l < size → own_first l ≡ 0 → first l ≡ 0
  first_middle l p h = first_then l h ∙ ap (λ b. first_broken (rules_of (cond b (end_rows placing sheet room) []))) (ne_eqb l size (omega (arith, p)))

  first_end : own_first size ≡ 0 → first size ≡ first_broken (rules_of (end_rows placing sheet room))
  first_end h = first_then size h ∙ ap (λ b. first_broken (rules_of (cond b (end_rows placing sheet room) []))) (eq-eqb size size refl)

  -- the sheet is refused under l, or nowhere
  record Stops : Type 0 where
    l : ℕ
    there : l ≤ size
    earlier : (j : ℕ) → j < l → first j ≡ 0
    here : given.reason ≡ first l
    broken : 0 < first l
    line : given.line ≡ suc l
    column : given.column ≡ sheet.column l (where' l)

  record Goes : Type 0 where
    none : (l : ℕ) → l ≤ size → first l ≡ 0
    reason : given.reason ≡ 0
    line : given.line ≡ suc size
    column : given.column ≡ 0

  full_leb : (n : ℕ) → ltb room n ≡ not (leb n room)
  full_leb n = by (bool (leb n room))
    where
      by : (leb n room ≡ true) ⊎ (leb n room ≡ false) → ltb room n ≡ not (leb n room)
      by (inl e) = rw (e, le-ltb room n (leb-true n room e))
      by (inr e) = rw (e, lt-ltb room n (leb-false n room e))

  -- the end's reason is that of the rules of the end
  closes_first : (exited fits : Bool) → ((closes exited (not fits)).reason ≡ first_broken (rule 15 exited ∷ rule 16 fits ∷ [])) × ((closes exited (not fits)).line ≡ suc size)
  closes_first true true = (refl, omega arith)
  closes_first true false = (refl, omega arith)
  closes_first false fits = (refl, omega arith)

  -- its column is 0 on a pass, else that of the line's start, where each of them points
  closes_column : (exited fits : Bool) → (closes exited (not fits)).column ≡ cond (eqb (closes exited (not fits)).reason 0) 0 first_byte
  closes_column true true = refl
  closes_column true false = refl
  closes_column false fits = refl

  end_where : (exited fits : Bool) → first_position (row 15 at_start (whole exited) ∷ row 16 at_start (whole fits) ∷ []) ≡ Start
  end_where true true = refl
  end_where true false = refl
  end_where false fits = refl

  -- where a line's own rules are broken, it is there; else, under the last line, it is its start
  where_own : (l : ℕ) → 0 < own_first l → where' l ≡ first_position (own_rows placing sheet room l)
  where_own l h = position_broken (own_rows placing sheet room l) (last_rows l) h

  where_end : own_first size ≡ 0 → where' size ≡ Start
  where_end h =
      position_kept (own_rows placing sheet room size) (last_rows size) (own_above size) h
      ∙ ap (λ b. first_position (cond b (end_rows placing sheet room) [])) (eq-eqb size size refl)
      ∙ end_where (state_by placing lines size).exited (leb starts room)

  told : Goes ⊎ Stops
  told = by (bool sheet.header)
    where
      ending : sheet.header ≡ true → stop ≡ size → Goes ⊎ Stops
      ending h q = last (bool (eqb (first size) 0))
        where
          zeros : (l : ℕ) → l ≤ size → own_first l ≡ 0
          zeros l p = own_zero l h (λ k i. stop_before placing lines size k (omega (arith, q, i, p)))

          is : (given.reason ≡ first size) × (given.line ≡ suc size) × (given.column ≡ cond (eqb given.reason 0) 0 first_byte)
          is =
              let f = closes_first (state_by placing lines size).exited (leb starts room) in
              let g : given ≡ closes (state_by placing lines size).exited (not (leb starts room)) = at-end h q ∙ ap (λ b. closes (state_by placing lines size).exited b) (full_leb starts) in
              (ap (λ (a : Answer). a.reason) g ∙ f.0 ∙ sym (first_end (zeros size (omega arith))), ap (λ (a : Answer). a.line) g ∙ f.1, subst (λ (a : Answer). a.column ≡ cond (eqb a.reason 0) 0 first_byte) (sym g) (closes_column (state_by placing lines size).exited (leb starts room)))

          middle : (l : ℕ) → l < size → first l ≡ 0
          middle l p = first_middle l p (zeros l (omega (arith, p)))

          none : first size ≡ 0 → (l : ℕ) → l ≤ size → first l ≡ 0
          none e l p = each (bool (ltb l size))
            where
              each : (ltb l size ≡ true) ⊎ (ltb l size ≡ false) → first l ≡ 0
              each (inl i) = middle l (ltb-true l size i)
              each (inr i) = subst (λ n. first n ≡ 0) (let z : size ≡ l = omega (arith, p, ltb-false l size i) in z) e

          last : (eqb (first size) 0 ≡ true) ⊎ (eqb (first size) 0 ≡ false) → Goes ⊎ Stops
          last (inl e) = let z = eqb-true (first size) 0 e in inl (record { none = none z; reason = is.0 ∙ z; line = is.1; column = is.2 ∙ rw (eq-eqb given.reason 0 (is.0 ∙ z)) })
          last (inr e) = inr (record { l = size; there = omega arith; earlier = middle; here = is.0; broken = omega (arith, eqb-false (first size) 0 e); line = is.1; column = is.2 ∙ rw (ne_eqb given.reason 0 (λ z. eqb-false (first size) 0 e (sym is.0 ∙ z)), where_end (zeros size (omega arith))) })

      stopping : sheet.header ≡ true → stop < size → Stops
      stopping h q =
          let a = at_stop h q in
          let p = stop_hit placing lines size q in
          let f = first_own (suc stop) (own_is p) in
          record {
            l = suc stop;
            there = omega (arith, q);
            earlier = λ j i. first_middle j (omega (arith, q, i)) (own_zero j h (λ k u. stop_before placing lines size k (omega (arith, i, u))));
            here = ap (λ (z : Answer). z.reason) a ∙ own_same ∙ sym f;
            broken = subst (λ n. 0 < n) (sym f) (own_is p);
            line = ap (λ (z : Answer). z.line) a ∙ omega arith;
            column = ap (λ (z : Answer). z.column) a ∙ ap (sheet.column (suc stop)) (where_same ∙ sym (where_own (suc stop) (own_is p)));
          }
        where
          own_is : 0 < reason_by placing lines stop → 0 < own_first (suc stop)
          own_is p = subst (λ n. 0 < n) own_same p

      running : sheet.header ≡ true → (ltb stop size ≡ true) ⊎ (ltb stop size ≡ false) → Goes ⊎ Stops
      running h (inl e) = inr (stopping h (ltb-true stop size e))
      running h (inr e) = ending h (omega (arith, stop_le placing lines size, ltb-false stop size e))

      headless : sheet.header ≡ false → Stops
      headless h =
          let a = bad_header h in
          let o : own_first 0 ≡ 2 = ap (λ b. cond b 0 2) h in
          let f = first_own 0 (omega (arith, o)) in
          record {
            l = 0;
            there = omega arith;
            earlier = λ j i. absurd (omega (arith, i));
            here = ap (λ (z : Answer). z.reason) a ∙ sym (f ∙ o);
            broken = omega (arith, f, o);
            line = ap (λ (z : Answer). z.line) a;
            column = ap (λ (z : Answer). z.column) a ∙ ap (sheet.column 0) (sym (where_own 0 (omega (arith, o)) ∙ ap (λ b. cond b Start Start) h));
          }

      by : (sheet.header ≡ true) ⊎ (sheet.header ≡ false) → Goes ⊎ Stops
      by (inl h) = running h (bool (ltb stop size))
      by (inr h) = inr (headless h)

  -- ---- the claims
  at_above : (l : ℕ) → lacks 0 (rules_at placing sheet room l) ≡ true
  at_above l = ap (lacks 0) (both l) ∙ lacks_both 0 (rules_of (own_rows placing sheet room l)) (rules_of (last_rows l)) (own_above l) (end (eqb l size))
    where
      end : (b : Bool) → lacks 0 (rules_of (cond b (end_rows placing sheet room) [])) ≡ true
      end true = refl
      end false = refl

  all-kept : (l : ℕ) → first l ≡ 0 → AllKept (rules_at placing sheet room l)
  all-kept l e = none_kept (rules_at placing sheet room l) (at_above l) e

  -- a refusal is the one that the answer tells
  told_refused : (number l column : ℕ) → 0 < number → Goes ⊎ Stops → given.reason ≡ number → given.line ≡ suc l → given.column ≡ column
      → Refused placing sheet room number l column
  told_refused number l column p (inl g) e f c = absurd (omega (arith, g.reason, e))
  told_refused number l column p (inr s) e f c =
      let same : s.l ≡ l = omega (arith, s.line, f) in
      subst (λ j. Refused placing sheet room number j column) same
      (record {
        there = s.there;
        earlier = λ j i. all-kept j (s.earlier j i);
        position = where' s.l;
        here = first_is number (rows_at placing sheet room s.l) (sym s.here ∙ e) p;
        stands = sym s.column ∙ c;
      })

  refused_told : (number l column : ℕ) → 0 < number → Refused placing sheet room number l column → Goes ⊎ Stops
      → (given.reason ≡ number) × (given.line ≡ suc l) × (given.column ≡ column)
  refused_told number l column p r (inl g) = absurd (omega (arith, g.none l r.there, (is_first number r.position (rows_at placing sheet room l) r.here).0))
  refused_told number l column p r (inr s) =
      let same : s.l ≡ l = omega (arith, not-lt, not_gt) in
      let f = is_first number r.position (rows_at placing sheet room l) r.here in (
        s.here ∙ ap first same ∙ f.0,
        s.line ∙ ap suc same,
        s.column ∙ ap (λ j. sheet.column j (where' j)) same ∙ ap (sheet.column l) f.1 ∙ r.stands,
      )
    where
      not-lt : s.l < l → ⊥
      not-lt i = omega (arith, s.broken, kept-none (rules_at placing sheet room s.l) (r.earlier s.l i))

      not_gt : l < s.l → ⊥
      not_gt i = omega (arith, s.earlier l i, (is_first number r.position (rows_at placing sheet room l) r.here).0)

  none-broken : Goes ⊎ Stops → given.reason ≡ 0 → (l : ℕ) → l ≤ size → AllKept (rules_at placing sheet room l)
  none-broken (inl g) e l p = all-kept l (g.none l p)
  none-broken (inr s) e l p = absurd (omega (arith, s.here, s.broken, e))

  none_told : Goes ⊎ Stops → ((l : ℕ) → l ≤ size → AllKept (rules_at placing sheet room l)) → given.reason ≡ 0
  none_told (inl g) h = g.reason
  none_told (inr s) h = absurd (omega (arith, s.broken, kept-none (rules_at placing sheet room s.l) (h s.l s.there)))

  last_line : Goes ⊎ Stops → given.reason ≡ 0 → (given.line ≡ suc size) × (given.column ≡ 0)
  last_line (inl g) e = (g.line, g.column)
  last_line (inr s) e = absurd (omega (arith, s.here, s.broken, e))

  -- under any placing, for every sheet and every number of places lent
  pub rules_exact : RulesExact placing sheet room
  rules_exact =
      record {
        refuses = λ number l column p. ((λ e. told_refused number l column p told e.0 e.1 e.2), (λ r. refused_told number l column p r told));
        passes = (none-broken told, none_told told);
        last = last_line told;
        passed = ((λ p. clear_passed placing sheet (passing_clear p)), (λ p. clear_passing (passed_clear placing sheet p)));
      }

  -- ---- the figures of a passed sheet
  closes_figures : (exited full : Bool) → exited ≡ true → ((closes exited full).line ≡ suc size) × ((closes exited full).held ≡ 0) × ((closes exited full).peak ≡ peak_up_to lines size)
  closes_figures true true e = (omega arith, refl, refl)
  closes_figures true false e = (omega arith, refl, refl)
  closes_figures false full e = absurd (clash e refl)

  -- the last line, nothing held, and the most held after any line
  pub passed_figures : Clear placing sheet → (given.line ≡ suc size) × (given.held ≡ 0) × (given.peak ≡ peak_up_to lines size)
  passed_figures c =
      subst (λ (a : Answer). (a.line ≡ suc size) × (a.held ≡ 0) × (a.peak ≡ peak_up_to lines size))
      (sym (at-end c.header (stop_none placing lines size c.zeros)))
      (closes_figures (state_by placing lines size).exited (ltb room starts) c.exited)
