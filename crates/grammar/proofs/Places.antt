-- The place of reason 3 is that of the first token at which no statement can go on: an opcode's operands are read as a row of tokens is, and such a row stops there. Assumes nothing.
use Rattle.std.specs.Prelude.{Option, Some, None, Err}
use Prim.Native.Nat.{ℕ, ◌-◌}
use native.Mathlib.Omega.{arith}
use mathlib.Core.Path.{◌≡◌, refl, sym, ap, ◌∙◌}
use mathlib.Core.List.{List, ◌++◌, append_assoc}
use mathlib.Core.Bool.{Bool, true, false, true≢false}
use lib.ListN.{length, get_or, take, drop, length-append, take-append-drop}
use lib.Seq.{take-append_seam, drop-append_seam}
use Rattle.tokens.specs.Bytes.{letter, word_byte, opcode_byte, run_len, token_of}
use Rattle.tokens.specs.Cursors.{Rest, Took}
use Rattle.statement.specs.declared.Opcode.{Opcode}
use Rattle.statement.specs.declared.Misread.TheVariants.{NoForm}
use Rattle.statement.specs.Forms.{row, Whole, word, make}
use Rattle.statement.specs.Opcodes.{recognise}
use Rattle.statement.specs.Reading.{operands_c, start, opcode_len, whole_by, whole_c, read_of}
use Rattle.grammar.specs.Spells.{Spells}
use Rattle.grammar.specs.Claims.{Stops, Place}
use Rattle.statement.proofs.Words.{recognised, recognises}
use Rattle.grammar.proofs.Rows.{row_sound}
use Rattle.grammar.proofs.Exact.{whole-at, Met, spells_met, read_spells, stopped_three}
use Rattle.grammar.proofs.Readers.{row_plan, row_runs}
use Rattle.grammar.proofs.Stops.{Stand, bad, Row, reads, takes, Stop, stop, head_none, run_stops, same_head, heads, lights}
use Rattle.grammar.proofs.QuantityRow.{stand}
use Rattle.grammar.proofs.PlanTokens.{row_of, plan_row, row-good}

-- ---- the place
-- the tokens of the operands of o
abbrev token_row : Opcode → Row
token_row o = row_of (row_plan (row o))

-- the operands of o, from l on, are read as a row of tokens is
reads_as : (o : Opcode) (l : List ℕ) → stand (operands_c o (start l)).next ≡ reads (token_row o) l
unfolding operands_c
reads_as o l = ap stand (row_runs (row o) (start l)) ∙ plan_row (row_plan (row o)) (start l)

met_at : (o : Opcode) (l : List ℕ) → run_len opcode_byte l ≡ 0 → (w : Whole) → Spells w (word o ++ l) → Met w (operands_c o (start l))
met_at o l e w t = rw (whole-at o l e) at (spells_met w (word o ++ l) t)

-- a text whose operands the row takes is one of a statement
taken-spells : (o : Opcode) (l : List ℕ) → run_len opcode_byte l ≡ 0 → takes (token_row o) l ≡ true → (w : Whole) × Spells w (word o ++ l)
unfolding operands_c
taken-spells o l e h =
    let p = row_sound (row o) (start l) (ap (λ (x : Stand). x.ok) (reads_as o l) ∙ h) in
    (make o p.1, record { opcode = o; values = p.1; rest = l; parts = refl; ends = e; operands = p.2; made = refl })

-- and one whose operands it does not take is none
not_taken : (o : Opcode) (l : List ℕ) → run_len opcode_byte l ≡ 0 → takes (token_row o) l ≡ false → (w : Whole) → Spells w (word o ++ l) → ⊥
not_taken o l e h w t = true≢false (sym (ap (λ (r : Rest). r.ok) (met_at o l e w t).next) ∙ (ap (λ (x : Stand). x.ok) (reads_as o l) ∙ h))

-- text is front and l: the place of l
module _ (text front l : List ℕ) (parts : text ≡ front ++ l) where
  place_is : length text - length l ≡ length front
  place_is = omega (arith, length-append front l, ap length parts)

  place-take : take (length text - length l) text ≡ front
  place-take = rw (place_is, parts) (take-append_seam front l)

  pub place-drop : drop (length text - length l) text ≡ l
  place-drop = rw (place_is, parts) (drop-append_seam front l)

stops_at : (text : List ℕ) (o : Opcode) (l : List ℕ) → take (opcode_len text) text ≡ word o → Stop (token_row o) (drop (opcode_len text) text) l → Stops text (length text - length l) × (drop (length text - length l) text ≡ l)
unfolding opcode_byte letter word_byte
stops_at text o l e i =
    let front : List ℕ = word o ++ i.before in
    let parts : text ≡ front ++ l = sym (take-append-drop (opcode_len text) text) ∙ (rw (e, i.parts, append_assoc)) in
    let other : opcode_byte (get_or (i.before ++ l) 0 0) ≡ false = rw (← i.parts) (run_stops opcode_byte text refl) in
    let ends : run_len opcode_byte (i.before ++ i.more) ≡ 0 = head_none opcode_byte (i.before ++ i.more) (lights opcode_byte i.before i.more l (i.light opcode_byte refl refl) other) in
    let same : (t : List ℕ) → token_of t ≡ token_of l → run_len opcode_byte (i.before ++ t) ≡ 0 =
    λ t j. head_none opcode_byte (i.before ++ t) (rw (heads i.before t l (same_head t l j)) other) in
    let g = taken-spells o (i.before ++ i.more) ends i.goes in (
      record {
        inside = omega (arith, place_is text front l parts, length-append front l, ap length parts);
        reached = rw (place-drop text front l parts) i.reached;
        more = i.more;
        ends = head_none word_byte i.more (i.light word_byte refl refl);
        goes = (g.0, rw (place-take text front l parts, append_assoc) g.1);
        stuck = λ t j w x. not_taken o (i.before ++ t) (same t (rw (place-drop text front l parts) at j)) (i.stuck t (rw (place-drop text front l parts) at j)) w (rw (place-take text front l parts, append_assoc) at x);
      },
      place-drop text front l parts,
    )

later_place : (text : List ℕ) (o : Opcode) (l : List ℕ) → take (opcode_len text) text ≡ word o → stand (whole_c text).next ≡ bad l → Stops text (length text - length l) × (drop (length text - length l) text ≡ l)
unfolding whole_c
later_place text o l e k =
    let rest = drop (opcode_len text) text in
    let w : whole_c text ≡ operands_c o (start rest) = rw (e, recognised o) in
    let b : reads (token_row o) rest ≡ bad l = sym (reads_as o rest) ∙ (ap (λ (t : Took Whole). stand t.next) (sym w) ∙ k) in
    stops_at text o l e (stop (token_row o) rest l (row-good (row o)) b)

-- ---- reason 3
-- reading stopped, as nothing is spelled
unread : (text : List ℕ) → ((w : Whole) → Spells w text → ⊥) → (whole_c text).next.ok ≡ false
unread text none = go (whole_c text).next.ok refl
  where
    go : (b : Bool) → (whole_c text).next.ok ≡ b → b ≡ false
    go true e = let s = read_spells text e in absurd (none s.0 s.1)
    go false e = refl

-- and it stopped there
stopped : (text : List ℕ) (p : ℕ) → (whole_c text).next.ok ≡ false → read_of text ≡ Err (NoForm p) → p ≡ length text - length (whole_c text).next.rest
stopped text p e h = let z = sym h ∙ stopped_three text e in cc

no_opcode : (text : List ℕ) (found : Option Opcode) → recognise (take (opcode_len text) text) ≡ found → ((o : Opcode) → take (opcode_len text) text ≡ word o → ⊥) → (whole_by text (drop (opcode_len text) text) found).next.rest ≡ text
no_opcode text (Some o) e h = absurd (h o (recognises (take (opcode_len text) text) o e))
no_opcode text None e h = refl

first_place : (text : List ℕ) → ((o : Opcode) → take (opcode_len text) text ≡ word o → ⊥) → (whole_c text).next.rest ≡ text
unfolding whole_c
first_place text h = no_opcode text (recognise (take (opcode_len text) text)) refl h

pub places : (text : List ℕ) (p : ℕ) → ((w : Whole) → Spells w text → ⊥) → read_of text ≡ Err (NoForm p) → Place text p
places text p none h =
    let n = unread text none in
    let z = stopped text p n h in
    let l = (whole_c text).next.rest in
    record {
      first = λ k. z ∙ (rw (first_place text k) (omega arith));
      later = λ o e. rw z (later_place text o l e (ap (λ (c : Bool). record { rest = l; ok = c }) n)).0;
    }
