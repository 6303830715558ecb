-- What a statement's text is once it was composed: its canonical text exactly where the statement is such as reading gives. Assumes nothing.
use Rattle.std.proofs.Common.{◌≡◌, ℕ, ◌<◌, ◌≤◌, List, [], Bool, true, false, ◌&&◌, cond, leb, Some, None, Ok, Err, length, arith, refl, sym, ◌∙◌}
use Rattle.std.proofs.lemmas.List.Edits.{sets}
use borrow.Author.Tests.{le-leb, lt-leb}
use Rattle.tokens.specs.declared.Name.{Name}
use Rattle.statement.specs.declared.Statement.{Statement}
use Rattle.reasons.specs.declared.Reason.TheVariants.{Room}
use Rattle.statement.specs.Canonical.{text_of, given}
use Rattle.statement.proofs.Bound.{text_short}
use Rattle.pieces.proofs.Texts.{added_none, added_fits}
use Rattle.writer.specs.Outputs.{capacity, add_c, written_of, left_by}

module _ (t : Statement) (regs : List Name) where
  whole : given t regs ≡ true → add_c (text_of t regs) true (Some []) ≡ Some (text_of t regs)
  whole g = added_fits capacity (text_of t regs) [] (omega (arith, text_short t regs g))

  -- the text that was composed, if any
  pub composed : add_c (text_of t regs) (given t regs) (Some []) ≡ cond (given t regs) (Some (text_of t regs)) None
  composed = by (given t regs) refl
    where
      by : (b : Bool) → given t regs ≡ b → add_c (text_of t regs) b (Some []) ≡ cond b (Some (text_of t regs)) None
      by true g = whole g
      by false g = sym (added_none capacity (text_of t regs) (Some []))

  -- the text is there, so it is given
  is_given : (u : List ℕ) → Some u ≡ add_c (text_of t regs) (given t regs) (Some []) → (given t regs ≡ true) × (u ≡ text_of t regs)
  is_given u e = by (given t regs) refl (e ∙ composed)
    where
      by : (b : Bool) → given t regs ≡ b → Some u ≡ cond b (Some (text_of t regs)) None → (given t regs ≡ true) × (u ≡ text_of t regs)
      by true g k = (g, search k)
      by false g k = search k

  module _ (room : List ℕ) where
    -- no text
    pub not_given : None ≡ add_c (text_of t regs) (given t regs) (Some []) → (Err Room ≡ written_of (length room) t regs) × (room ≡ left_by room t regs)
    unfolding written_of left_by
    not_given e = by (given t regs) (e ∙ composed)
      where
        by : (b : Bool) → None ≡ cond b (Some (text_of t regs)) None → (Err Room ≡ cond (b && leb (length (text_of t regs)) (length room)) (Ok (length (text_of t regs))) (Err Room)) × (room ≡ cond (b && leb (length (text_of t regs)) (length room)) (sets room 0 (text_of t regs)) room)
        by true e = search e
        by false e = (refl, refl)

    module _ (u : List ℕ) (e : Some u ≡ add_c (text_of t regs) (given t regs) (Some [])) where
      pub no_room : length room < length u → (Err Room ≡ written_of (length room) t regs) × (room ≡ left_by room t regs)
      unfolding written_of left_by
      no_room h =
          let k = is_given u e in
          rw (k.0, ← k.1, lt-leb (length u) (length room) h) (refl, refl)

      pub all_written : length u ≤ length room → (r : List ℕ) → r ≡ sets room 0 u → (Ok (length u) ≡ written_of (length room) t regs) × (r ≡ left_by room t regs)
      unfolding written_of left_by
      all_written h r c =
          let k = is_given u e in
          rw (k.0, ← k.1, le-leb (length u) (length room) h) (refl, c)
