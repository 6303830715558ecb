-- The whole answer: reason 1, then line 1, then what the loop over the lines gives. Assumes nothing.
use Prim.Native.Nat.{ℕ, ◌+◌, ◌≤◌}
use mathlib.Core.Path.{◌≡◌, refl, sym, ap, ◌∙◌, subst}
use mathlib.Core.Bool.{Bool, true, false, cond}
use mathlib.Core.List.{List, ◌++◌}
use mathlib.Core.Logic.{inl, inr}
use native.Mathlib.Omega.{arith}
use lib.Dec.{ltb, eqb}
use lib.ListN.{length, take, drop}
use lib.Seq.{sets, sets-eq, take-append_seam}
use borrow.Author.Tests.{eq-eqb, ne_eqb, eqb-true, eqb-false, ltb-false}
use Rattle.laws.proofs.BoolLaws.{or_neither}
use Rattle.lines.specs.Sheet.{line_count, headed, oversize}
use Rattle.rules.specs.declared.Answer.{Answer}
use Rattle.rules.specs.Sheet.{ours, answer, answer_of, starts_of, places_after}
use Rattle.rules.specs.Claims.{Passing}
use Rattle.rules.proofs.RulesProved.{bad_header}
use Rattle.rules.proofs.FiguresProved.{figures_exact}
use Rattle.run.proofs.Demand3Proved.{demand3}
use Rattle.judge.proofs.Standing.{start_of}
use Rattle.judge.specs.Judged.{sheet_of, judged_of, start_count, starts_after, RunKept}
use Rattle.judge.specs.declared.Judged.{Judged}

-- what `judge` ensures
abbrev pub Whole : List ℕ → List ℕ → Judged → List ℕ → Type 0
Whole s old r new =
    (r.answer ≡ judged_of s (length old)) × ((r.starts ≡ start_count s (length old)) × ((new ≡ starts_after s old) × RunKept s r.answer new))

-- a sheet that is not too large has few lines
pub few_lines : (s : List ℕ) → oversize s ≡ false → line_count s ≤ 4096
unfolding oversize
few_lines s e = ltb-false 4096 (line_count s) (or_neither (ltb 65536 (length s)) (ltb 4096 (line_count s)) e).1

-- reason 1 passes no sheet
pub never_1 : (P : Type 0) → Passing 1 → P
never_1 P (inl e) = absurd (omega (arith, e))
never_1 P (inr e) = absurd (omega (arith, e))

-- the starts that an answer comes with
abbrev With : List ℕ → Answer → ℕ
With s x = cond (eqb x.reason 0) (length (starts_of (sheet_of s))) 0

module _ (s old : List ℕ) where
  counts : (r : Judged) → r.answer ≡ judged_of s (length old) → r.starts ≡ With s r.answer → r.starts ≡ start_count s (length old)
  unfolding start_count
  counts r e n = n ∙ ap (With s) e

  -- reason 1
  pub too_large : oversize s ≡ true → (r : Judged) → (r.answer ≡ answer 1 0 0 0 0) × (r.starts ≡ 0) → Whole s old r old
  unfolding judged_of starts_after
  too_large o r e =
      let q = e.0 ∙ sym (ap (λ (b : Bool). cond b (answer 1 0 0 0 0) (answer_of (sheet_of s) (length old))) o) in (
        q,
        (
          counts r q (e.1 ∙ sym (ap (With s) e.0)),
          (sym (ap (λ (b : Bool). cond b old (places_after (sheet_of s) old)) o), λ p. never_1 _ (subst (λ (x : Answer). Passing x.reason) e.0 p)),
        ),
      )

  -- any other answer of the rules
  module _ (o : oversize s ≡ false) (r : Judged) (e : r.answer ≡ answer_of (sheet_of s) (length old)) (n : r.starts ≡ With s r.answer) where
    answered : r.answer ≡ judged_of s (length old)
    unfolding judged_of
    answered = e ∙ sym (ap (λ (b : Bool). cond b (answer 1 0 0 0 0) (answer_of (sheet_of s) (length old))) o)

    -- the list is what the rules leave
    new_is : (new : List ℕ) → new ≡ starts_after s old → new ≡ places_after (sheet_of s) old
    unfolding starts_after
    new_is new f = f ∙ ap (λ (b : Bool). cond b old (places_after (sheet_of s) old)) o

    kept_run : (new : List ℕ) → new ≡ starts_after s old → RunKept s r.answer new
    kept_run new f p =
        let d = demand3 (sheet_of s) (length old) (subst (λ (x : Answer). Passing x.reason) e p) in
        record {
          demand = d;
          peak = ap (λ (x : Answer). x.peak) e ∙ d.placed.peak (length old);
          starts = λ z.
              let w = starts_of (sheet_of s) in
              ap (take (length w)) (new_is new f ∙ d.placed.written old (ap (λ (x : Answer). x.reason) (sym e) ∙ z))
              ∙ take-append_seam w (drop (length w) old);
        }

    whole : (new : List ℕ) → new ≡ starts_after s old → Whole s old r new
    whole new f = (answered, (counts r answered n, (f, kept_run new f)))

    after_by : (b : Bool) → eqb r.answer.reason 0 ≡ b → cond b (sets old 0 (starts_of (sheet_of s))) old ≡ starts_after s old
    unfolding starts_after places_after
    after_by b z =
        let q : eqb (answer_of (sheet_of s) (length old)).reason 0 ≡ b = ap (λ (x : Answer). eqb x.reason 0) (sym e) ∙ z in
        sym (ap (λ (c : Bool). cond c old (places_after (sheet_of s) old)) o ∙ ap (λ (c : Bool). cond c (sets old 0 (starts_of (sheet_of s))) old) q)

    -- refused: the list is as it was
    refused_whole : (r.answer.reason ≡ 0 → ⊥) → Whole s old r old
    refused_whole z = whole old (after_by false (ne_eqb r.answer.reason 0 z))

    -- passed: the starts stand over its first places, and there is room for them
    passed_room : r.answer.reason ≡ 0 → length (starts_of (sheet_of s)) ≤ length old
    passed_room z = (figures_exact ours (sheet_of s) (length old)).roomy (ap (λ (x : Answer). x.reason) (sym e) ∙ z)

    passed_whole : r.answer.reason ≡ 0 → (w new : List ℕ) → w ≡ starts_of (sheet_of s) → new ≡ sets old 0 w → Whole s old r new
    passed_whole z w new f g = whole new (g ∙ ap (sets old 0) f ∙ after_by true (eq-eqb r.answer.reason 0 z))

    -- as many places as there are starts are put: all starts on a pass, else none
    module _ (given : List ℕ) (g : r.answer.reason ≡ 0 → take r.starts given ≡ starts_of (sheet_of s)) where
      few_by : (b : Bool) → eqb r.answer.reason 0 ≡ b → r.starts ≤ length old
      few_by true z = omega (arith, n ∙ ap (λ (c : Bool). cond c (length (starts_of (sheet_of s))) 0) z, passed_room (eqb-true r.answer.reason 0 z))
      few_by false z = omega (arith, n ∙ ap (λ (c : Bool). cond c (length (starts_of (sheet_of s))) 0) z)

      pub few : r.starts ≤ length old
      few = few_by (eqb r.answer.reason 0) refl

      abbrev Put : ℕ → Type 0
      Put m = Whole s old r (take m given ++ drop m old)

      put_by : (b : Bool) → eqb r.answer.reason 0 ≡ b → Put r.starts
      put_by true z =
          let q = eqb-true r.answer.reason 0 z in
          let w = take r.starts given in
          let l : r.starts ≡ 0 + length w = omega (arith, n ∙ ap (λ (c : Bool). cond c (length (starts_of (sheet_of s))) 0) z, ap length (g q)) in
          let f : 0 + length w ≤ length old = omega (arith, few, l) in
          passed_whole q w _ (g q) (ap (λ (m : ℕ). w ++ drop m old) l ∙ sym (sets-eq w old 0 f))
      put_by false z =
          let m : r.starts ≡ 0 = n ∙ ap (λ (c : Bool). cond c (length (starts_of (sheet_of s))) 0) z in
          subst Put (sym m) (refused_whole (eqb-false r.answer.reason 0 z))

      pub put : Put r.starts
      put = put_by (eqb r.answer.reason 0) refl

  -- line 1 is wrong
  pub headless : oversize s ≡ false → headed s ≡ false → (r : Judged) → (r.answer ≡ answer 2 1 1 0 0) × (r.starts ≡ 0) → Whole s old r old
  headless o h r e =
      refused_whole o r (e.0 ∙ ap (λ (c : ℕ). answer 2 1 c 0 0) (sym (start_of s 0)) ∙ sym (bad_header ours (sheet_of s) (length old) h)) (e.1 ∙ sym (ap (With s) e.0))
      (λ z. omega (arith, ap (λ (x : Answer). x.reason) e.0, z))
