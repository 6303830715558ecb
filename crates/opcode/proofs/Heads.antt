-- The head by the candidate is the head by the table. A text that starts with the word of its candidate, where no opcode byte follows, has that opcode
-- at its head; any other has none, since an opcode at the head would be the candidate. Assumes nothing.
use Rattle.std.proofs.Common.{◌≡◌, ℕ, suc, ◌-◌, ◌≤◌, List, [], ◌∷◌, ◌++◌, Bool, true, false, not, cond, Option, Some, None, length, take, drop, length-append, refl, sym, ap, ◌∙◌, arith}
use lib.ListN.{take-append-drop}
use lib.Seq.{take-append_seam, drop-append_seam, drop_at}
use borrow.Author.Tests.{not-true}
use Rattle.laws.proofs.BoolLaws.{never}
use Rattle.tokens.specs.Bytes.{opcode_byte, run_len}
use Rattle.tokens.proofs.Runs.{run_ends, run_all}
use Rattle.statement.specs.declared.Opcode.{Opcode}
use Rattle.statement.specs.Forms.{word}
use Rattle.statement.specs.Opcodes.{recognise}
use Rattle.statement.specs.Reading.{opcode_len}
use Rattle.opcode.specs.Pieces.{without}
use Rattle.opcode.specs.Heads.{head_of}
use Rattle.opcode.specs.Candidates.{candidate_in, stops, head_before, head_in}
use Rattle.statement.proofs.Words.{recognised, recognises, clean}
use Rattle.opcode.proofs.Words.{leads}
use Rattle.opcode.proofs.Laws.{without_self, without_is}

-- ---- runs
stops_run : (l : List ℕ) → stops l ≡ true → run_len opcode_byte l ≡ 0
stops_run [] h = refl
stops_run (x ∷ l) h = rw (not-true (opcode_byte x) h)

run_stops : (l : List ℕ) → run_len opcode_byte l ≡ 0 → stops l ≡ true
run_stops [] h = refl
run_stops (x ∷ l) h = by (opcode_byte x) refl
  where
    by : (b : Bool) → opcode_byte x ≡ b → not (opcode_byte x) ≡ true
    by true e = absurd (let q : suc (run_len opcode_byte l) ≡ 0 = rw e at h in omega arith)
    by false e = rw e

-- ---- heads
-- a word, where no opcode byte follows, is the head
head_word : (o : Opcode) (r : List ℕ) → stops r ≡ true → record { found = Some o; rest = r } ≡ head_of (word o ++ r)
unfolding head_of
head_word o r h =
    let n : opcode_len (word o ++ r) ≡ length (word o) = run_all opcode_byte (word o) r (clean o) (stops_run r h) in
    rw (n, take-append_seam (word o) r, recognised o) (rw (n, drop-append_seam (word o) r))

module _ (s : List ℕ) where
  -- an opcode that the table has at the head is the candidate
  stands : (o : Opcode) → recognise (take (opcode_len s) s) ≡ Some o → (without (word (candidate_in s)) s ≡ Some (drop (opcode_len s) s)) × (stops (drop (opcode_len s) s) ≡ true)
  stands o e =
      let r = drop (opcode_len s) s in
      let p : s ≡ word o ++ r = sym (rw (recognises (take (opcode_len s) s) o e) at (take-append-drop (opcode_len s) s)) in
      let same : candidate_in s ≡ o = ap candidate_in p ∙ leads o r in
      (rw same (ap (without (word o)) p ∙ without_self (word o) r), run_stops r (run_ends opcode_byte s))

  -- the candidate's word is not there
  no_word : None ≡ without (word (candidate_in s)) s → record { found = None; rest = s } ≡ head_of s
  no_word e = by (recognise (take (opcode_len s) s)) refl
    where
      by : (f : Option Opcode) → recognise (take (opcode_len s) s) ≡ f → record { found = None; rest = s } ≡ head_of s
      by None g = unfold head_of in rw g
      by (Some o) g = search (e ∙ (stands o g).0)

  module _ (r : List ℕ) (e : Some r ≡ without (word (candidate_in s)) s) where
    text_is : s ≡ word (candidate_in s) ++ r
    text_is = without_is (word (candidate_in s)) s r (sym e)

    pub left_short : length r ≤ length s
    left_short = omega (arith, ap length text_is, length-append (word (candidate_in s)) r)

    -- the text from where its word ends
    pub left_is : drop (length s - length r) s ≡ r
    left_is =
        let w = word (candidate_in s) in
        let n : length w ≡ length s - length r = omega (arith, ap length text_is, length-append w r) in
        ap (drop (length s - length r)) text_is ∙ drop_at w r (length s - length r) n

    -- an opcode byte follows it
    more_follows : stops r ≡ false → record { found = None; rest = s } ≡ head_of s
    more_follows h = by (recognise (take (opcode_len s) s)) refl
      where
        by : (f : Option Opcode) → recognise (take (opcode_len s) s) ≡ f → record { found = None; rest = s } ≡ head_of s
        by None g = unfold head_of in rw g
        by (Some o) g =
            let k = stands o g in
            let same : Some r ≡ Some (drop (opcode_len s) s) = e ∙ k.0 in
            never (sym h ∙ ap stops (search same) ∙ k.1)

    -- none follows it
    head_at : stops r ≡ true → record { found = Some (candidate_in s); rest = r } ≡ head_of s
    head_at h = head_word (candidate_in s) r h ∙ ap head_of (sym text_is)

    -- the word is there
    word_there : head_before s (Some r) ≡ head_of s
    word_there = by (stops r) refl
      where
        by : (b : Bool) → stops r ≡ b → cond b (record { found = Some (candidate_in s); rest = r }) (record { found = None; rest = s }) ≡ head_of s
        by true h = head_at h
        by false h = more_follows h

  -- the head by the candidate is the head by the table
  pub candidate_head : head_in s ≡ head_of s
  unfolding head_in
  candidate_head = by (without (word (candidate_in s)) s) refl
    where
      by : (f : Option (List ℕ)) → f ≡ without (word (candidate_in s)) s → head_before s f ≡ head_of s
      by None e = no_word e
      by (Some r) e = word_there r e

  -- what a function finds of the candidate's word, and whether the opcode bytes stop after it, tells the head
  pub told : (f : Option (List ℕ)) → f ≡ without (word (candidate_in s)) s → head_before s f ≡ head_of s
  unfolding head_in
  told f e = ap (head_before s) e ∙ candidate_head

  pub told_by : (r : List ℕ) → Some r ≡ without (word (candidate_in s)) s → (b : Bool) → stops r ≡ b
      → cond b (record { found = Some (candidate_in s); rest = r }) (record { found = None; rest = s }) ≡ head_of s
  told_by r e b h = rw h at (told (Some r) e)
