-- Held and peak of any answer are what the live allocations come to: over the accepted lines the sums and the allocations agree, and an accepted
-- exit leaves none. Assumes nothing.
use Prim.Native.Nat.{ℕ, zero, suc, ◌+◌, ◌≤◌, ◌<◌, max}
use mathlib.Core.Path.{◌≡◌, refl, sym, ap, ◌∙◌, subst}
use mathlib.Core.Bool.{true, false, cond}
use mathlib.Core.Logic.{◌⊎◌, inl, inr}
use native.Mathlib.Omega.{arith}
use lib.Dec.{leb, ltb}
use lib.ListN.{length}
use borrow.Author.Tests.{ltb-true, ltb-false, leb-true, leb-false}
use Rattle.statement.specs.Views.{act_of}
use Rattle.statement.specs.declared.Position.TheVariants.{Start}
use Rattle.rules.specs.declared.Answer.{Answer}
use Rattle.rules.specs.State.{State, Placer, total}
use Rattle.rules.specs.Sheet.{Line, Sheet, Placing, line_rules, line_effect, effect, state_by, starts_by, reason_by, stop_by, sum, held_after, peak_up_to, answer, answer_by}
use Rattle.rules.specs.Claims.{AllKept, exits, accepted_lines, live_after, MostLive, FiguresExact}
use Rattle.laws.proofs.BoolLaws.{bool}
use Rattle.statement.proofs.Each.{exit-only}
use Rattle.rules.proofs.RuleLaws.{accepted_line, exits-kept}
use Rattle.rules.proofs.Figures.{held-total}
use Rattle.rules.proofs.RulesProved.{zero-kept, stop_le, stop_hit, stop_before, stop_none, Clear, clear_passed, passing_clear, bad_header, at_stop, at-end}

-- an accepted exit leaves nothing live
exit_clears : (place : Placer) (s : State) (held : ℕ) (x : Line) → held ≡ total s.live → AllKept (line_rules place s held x) → exits x ≡ true → total (line_effect place s x).live ≡ 0
unfolding effect
exit_clears place s held x q h =
    accepted_line place s held x h (λ x. exits x ≡ true → total (line_effect place s x).live ≡ 0)
    (λ w t p a e. subst (λ y. total (effect place s w y).live ≡ 0) (sym (exit-only (act_of t) e)) (sym q ∙ exits-kept place s held w t a e))

-- ---- the peak
held_first : (line : ℕ → Line) → held_after line 0 ≡ 0
unfolding held_after sum
held_first line = refl

peak_most : (line : ℕ → Line) (n k : ℕ) → k ≤ n → held_after line k ≤ peak_up_to line n
unfolding peak_up_to
peak_most line zero k h = let z : k ≡ 0 = omega (arith, h) in subst (λ j. held_after line j ≤ 0) (sym z) (omega (arith, held_first line))
peak_most line (suc n) k h = at (bool (leb k n)) (peak_most line n k)
  where
    at : (leb k n ≡ true) ⊎ (leb k n ≡ false) → (k ≤ n → held_after line k ≤ peak_up_to line n) → held_after line k ≤ max (peak_up_to line n) (held_after line (suc n))
    at (inl e) ih = omega (arith, ih (leb-true k n e))
    at (inr e) ih =
        let z : k ≡ suc n = omega (arith, h, leb-false k n e) in
        subst (λ j. held_after line j ≤ max (peak_up_to line n) (held_after line (suc n))) (sym z) (omega arith)

peak_once : (line : ℕ → Line) (n : ℕ) → (k : ℕ) × ((k ≤ n) × (held_after line k ≡ peak_up_to line n))
unfolding peak_up_to
peak_once line zero = (0, (omega arith, held_first line))
peak_once line (suc n) = at (bool (leb (held_after line (suc n)) (peak_up_to line n))) (peak_once line n)
  where
    at : (leb (held_after line (suc n)) (peak_up_to line n) ≡ true) ⊎ (leb (held_after line (suc n)) (peak_up_to line n) ≡ false)
        → (k : ℕ) × ((k ≤ n) × (held_after line k ≡ peak_up_to line n))
        → (k : ℕ) × ((k ≤ suc n) × (held_after line k ≡ max (peak_up_to line n) (held_after line (suc n))))
    at (inl e) ih = (ih.0, (omega (arith, ih.1.0), omega (arith, ih.1.1, leb-true (held_after line (suc n)) (peak_up_to line n) e)))
    at (inr e) ih = (suc n, (omega arith, omega (arith, leb-false (held_after line (suc n)) (peak_up_to line n) e)))

-- ---- the answer
module _ (placing : Placing) (sheet : Sheet) (room : ℕ) where
  abbrev lines : ℕ → Line
  lines = sheet.line

  abbrev size : ℕ
  size = sheet.count

  abbrev stop : ℕ
  stop = stop_by placing lines size

  abbrev given : Answer
  given = answer_by placing sheet room

  abbrev live : ℕ → ℕ
  live k = live_after placing sheet room k

  -- over the accepted lines the sums are what is live
  live_held : (n k : ℕ) → n ≤ stop → k ≤ n → held_after lines k ≡ live k
  live_held n k p h = held-total placing lines k (λ j q. zero-kept placing lines j (stop_before placing lines size j (omega (arith, p, h, q))))

  -- a passed sheet has nothing live at its end
  clear_nothing : Clear placing sheet → live size ≡ 0
  unfolding state_by
  clear_nothing c =
      let p = clear_passed placing sheet c in
      subst (λ n. live n ≡ 0) p.is_last
      (exit_clears (placing p.last) (state_by placing lines p.last) (held_after lines p.last) (lines p.last)
      (held-total placing lines p.last (λ k i. p.kept k (omega (arith, p.is_last, i))))
      (p.kept p.last (omega (arith, p.is_last))) p.ends)

  -- the figures after n accepted lines
  record Stands (n : ℕ) : Type 0 where
    few : n ≤ stop
    held : given.held ≡ live n
    peak : given.peak ≡ peak_up_to lines n
    roomy : given.reason ≡ 0 → length (starts_by placing lines size) ≤ room

  ending : sheet.header ≡ true → stop ≡ size → Stands size
  ending h q = at (bool (state_by placing lines size).exited) (bool (ltb room (length (starts_by placing lines size))))
    where
      clear : (state_by placing lines size).exited ≡ true → Clear placing sheet
      clear e = record { header = h; zeros = λ k i. stop_before placing lines size k (omega (arith, q, i)); exited = e }

      at : ((state_by placing lines size).exited ≡ true) ⊎ ((state_by placing lines size).exited ≡ false)
          → (ltb room (length (starts_by placing lines size)) ≡ true) ⊎ (ltb room (length (starts_by placing lines size)) ≡ false) → Stands size
      at (inl e) (inl f) =
          let g : given ≡ answer 16 (size + 1) (sheet.column size Start) 0 (peak_up_to lines size) = at-end placing sheet room h q ∙ rw (e, f) in
          record {
            few = omega (arith, q);
            held = ap (λ (a : Answer). a.held) g ∙ sym (clear_nothing (clear e));
            peak = ap (λ (a : Answer). a.peak) g;
            roomy = λ z. absurd (omega (arith, z, ap (λ (a : Answer). a.reason) g));
          }
      at (inl e) (inr f) =
          let g : given ≡ answer 0 (size + 1) 0 0 (peak_up_to lines size) = at-end placing sheet room h q ∙ rw (e, f) in
          record {
            few = omega (arith, q);
            held = ap (λ (a : Answer). a.held) g ∙ sym (clear_nothing (clear e));
            peak = ap (λ (a : Answer). a.peak) g;
            roomy = λ z. ltb-false room (length (starts_by placing lines size)) f;
          }
      at (inr e) f =
          let g : given ≡ answer 15 (size + 1) (sheet.column size Start) (held_after lines size) (peak_up_to lines size) = at-end placing sheet room h q ∙ rw e in
          record {
            few = omega (arith, q);
            held = ap (λ (a : Answer). a.held) g ∙ live_held size size (omega (arith, q)) (omega arith);
            peak = ap (λ (a : Answer). a.peak) g;
            roomy = λ z. absurd (omega (arith, z, ap (λ (a : Answer). a.reason) g));
          }

  stopping : sheet.header ≡ true → stop < size → 0 < reason_by placing lines stop → Stands stop
  stopping h q p =
      let g = at_stop placing sheet room h q in
      record {
        few = omega arith;
        held = ap (λ (a : Answer). a.held) g ∙ live_held stop stop (omega arith) (omega arith);
        peak = ap (λ (a : Answer). a.peak) g;
        roomy = λ z. absurd (omega (arith, z, p, ap (λ (a : Answer). a.reason) g));
      }

  headless : sheet.header ≡ false → Stands 0
  unfolding state_by total peak_up_to
  headless h =
      let g = bad_header placing sheet room h in
      record {
        few = omega arith;
        held = ap (λ (a : Answer). a.held) g;
        peak = ap (λ (a : Answer). a.peak) g;
        roomy = λ z. absurd (omega (arith, z, ap (λ (a : Answer). a.reason) g));
      }

  stands : Stands (accepted_lines placing sheet room)
  stands = by (bool sheet.header)
    where
      running : sheet.header ≡ true → (ltb stop size ≡ true) ⊎ (ltb stop size ≡ false) → Stands stop
      running h (inl e) = let q = ltb-true stop size e in stopping h q (stop_hit placing lines size q)
      running h (inr e) = let q : stop ≡ size = omega (arith, stop_le placing lines size, ltb-false stop size e) in subst Stands (sym q) (ending h q)

      by : (sheet.header ≡ true) ⊎ (sheet.header ≡ false) → Stands (accepted_lines placing sheet room)
      by (inl h) = subst Stands (sym (ap (λ b. cond b stop 0) h)) (running h (bool (ltb stop size)))
      by (inr h) = subst Stands (sym (ap (λ b. cond b stop 0) h)) (headless h)

  all_accepted : Clear placing sheet → accepted_lines placing sheet room ≡ size
  all_accepted c = ap (λ b. cond b stop 0) c.header ∙ stop_none placing lines size c.zeros

  -- the peak after some accepted lines is the most that was live
  most_live : (n : ℕ) → n ≤ stop → MostLive placing sheet room n (peak_up_to lines n)
  most_live n p =
      let o = peak_once lines n in
      record {
        most = λ k h. omega (arith, live_held n k p h, peak_most lines n k h);
        once = (o.0, (o.1.0, sym (live_held n o.0 p o.1.0) ∙ o.1.1));
      }

  -- under any placing, for every sheet and every number of places lent
  pub figures_exact : FiguresExact placing sheet room
  figures_exact =
      let n = accepted_lines placing sheet room in
      record {
        held_each = λ k h. live_held n k stands.few h;
        peak_each = λ k h. most_live k (omega (arith, h, stands.few));
        held = stands.held;
        nothing = λ p. let c = passing_clear placing sheet room p in subst (λ m. live m ≡ 0) (sym (all_accepted c)) (clear_nothing c);
        peak = subst (λ v. MostLive placing sheet room n v) (sym stands.peak) (most_live n stands.few);
        roomy = stands.roomy;
      }
