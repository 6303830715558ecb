-- The tests of an mma are those of its rules: names by the ledger and the table, descriptors by their numbers. Assumes nothing.
use Rattle.std.proofs.Common.{◌≡◌, ℕ, ◌+◌, Bool, true, false, not, ◌&&◌, cond, eqb, leb, refl, sym, ap, ap₂, ◌∙◌, Option, Some, None, eqb-true}
use Rattle.std.specs.Prelude.{is_some}
use Rattle.laws.specs.Rules.{first_broken}
use Rattle.laws.proofs.BoolLaws.{and_right_false}
use Rattle.reasons.specs.declared.Reason.{Reason}
use Rattle.reasons.specs.Reasons.{number}
use Rattle.reasons.proofs.ReasonLaws.{nonzero}
use Rattle.instruction.specs.Descriptor.{InstructionRead, JudgedWord}
use Rattle.instruction.specs.Instruction as instruction
use Rattle.instruction.proofs.NumberLaws.{judged-reads, judged_lists}
use Rattle.statement.specs.declared.Mma.{Mma}
use Rattle.statement.specs.declared.Statement.TheVariants.{Multiply}
use Rattle.statement.specs.Canonical.{sparse}
use Rattle.rules.specs.State.{State, lowest, width_of, number_of}
use Rattle.rules.specs.Rows.{kept}
use Rattle.rules.specs.Reasons.{lane_of, column_of, mma_ends, mma_named, mma_reads, all_end, instruction_of, fields_of, open_rules}
use Rattle.rules.proofs.ByAct.{mma_order, mma_listed}
use Rattle.ledger.specs.declared.Span.{Span}
use Rattle.ledger.specs.Booking.{columns_in}
use Rattle.tokens.specs.declared.Name.{Name}
use Rattle.bindings.specs.declared.Bindings.{Bindings}
use Rattle.bindings.specs.declared.Value.{Value}
use Rattle.bindings.specs.declared.Value.TheVariants.{B32, B64}
use Rattle.bindings.specs.Table.{found, width_in, number_in}
use Rattle.bindings.specs.Shows as bindings
use Rattle.checks.specs.declared.Tested.{Tested}
use Rattle.checks.specs.Checks.{word_found, Operands}

-- the word that a table finds of a name is its number, where it has 32 bits
word_test : (v : Option Value) → is_some (word_found v) ≡ eqb (width_in v) 32
word_test (Some (B32 w)) = refl
word_test (Some (B64 w)) = refl
word_test None = refl

word_is : (v : Option Value) (w : ℕ) → word_found v ≡ Some w → w ≡ number_in v
word_is (Some (B32 x)) w e = cc
word_is (Some (B64 x)) w e = cc
word_is None w e = cc

module _ (t : Bindings) (s : State) (h : bindings.Shows t s.values) (n : Name) where
  pub word_width : is_some (word_found (found t n)) ≡ eqb (width_of n s.values) 32
  word_width = word_test (found t n) ∙ ap (λ (x : ℕ). eqb x 32) (h.width n)

  pub word_number : (w : ℕ) → word_found (found t n) ≡ Some w → w ≡ number_of n s.values
  word_number w e = word_is (found t n) w e ∙ h.number n

both : (a b c d : Bool) → a ≡ c → b ≡ d → a && b ≡ c && d
both a b c d p q = cc

other_way : (a b : Bool) → a ≡ not b → not a ≡ b
other_way a true e = ap not e
other_way a false e = ap not e

module _ (s : State) (held w : ℕ) (m : Mma) (d : Option Span) (a b e : Tested) (word : Option ℕ) (o : Operands m d a b e word s) where
  abbrev pub Answers : ℕ → Type 0
  Answers r = r ≡ first_broken (open_rules lowest s held w (Multiply m))

  -- the number of the first rule of listing that is broken
  abbrev listing_of : ℕ
  listing_of = first_broken (instruction.listing m.kind m.ws (sparse m.metadata) (fields_of s m))

  -- reason 6
  abbrev pub names : Bool
  names = (((is_some d && a.named) && b.named) && e.named) && is_some word

  named_is : names ≡ kept (mma_named s m)
  named_is =
      both _ _ _ _
      (both _ _ _ _
      (both _ _ _ _
      (both _ _ _ _ o.live (ap (λ (x : Tested). x.named) o.operand))
      (ap (λ (x : Tested). x.named) o.descriptor))
      (ap (λ (x : Tested). x.named) o.metadata))
      o.width

  pub mma_6 : names ≡ false → Answers 6
  mma_6 t =
      ap (λ (x : Bool). mma_order x (kept (mma_reads s m)) listing_of (kept (all_end s m))) (sym t ∙ named_is) ∙ sym (mma_listed lowest s held w m)

  pub unbound : word ≡ None → Answers 6
  unbound p = mma_6 (and_right_false _ _ (ap is_some p))

  -- reason 12: a 32-bit value is the word
  module _ (n : names ≡ true) (x : ℕ) (px : word ≡ Some x) (i : JudgedWord) (pi : i ≡ instruction.judged m.kind m.ws (sparse m.metadata) x) where
    decoded_is : instruction.decoded m.kind m.ws (sparse m.metadata) x ≡ instruction_of s m
    unfolding instruction_of
    decoded_is = ap (instruction.decoded m.kind m.ws (sparse m.metadata)) (o.number x px)

    reading_is : not (eqb i.reason 12) ≡ eqb (instruction_of s m).reason 0
    reading_is =
        other_way (eqb i.reason 12) (eqb (instruction_of s m).reason 0)
        (ap (λ (x : JudgedWord). eqb x.reason 12) pi
        ∙ judged-reads m.kind m.ws (sparse m.metadata) x
        ∙ ap (λ (x : InstructionRead). not (eqb x.reason 0)) decoded_is)

    abbrev descriptors : Bool
    descriptors = (a.reads && b.reads) && not (eqb i.reason 12)

    reads_is : descriptors ≡ kept (mma_reads s m)
    reads_is =
        both _ _ _ _
        (both _ _ _ _ (ap (λ (x : Tested). x.reads) o.operand) (ap (λ (x : Tested). x.reads) o.descriptor))
        reading_is

    after_6 : (x : ℕ) → x ≡ mma_order true descriptors listing_of (kept (all_end s m)) → Answers x
    after_6 x p =
        p
        ∙ ap (λ (y : Bool). mma_order y descriptors listing_of (kept (all_end s m))) (sym n ∙ named_is)
        ∙ ap (λ (y : Bool). mma_order (kept (mma_named s m)) y listing_of (kept (all_end s m))) reads_is
        ∙ sym (mma_listed lowest s held w m)

    pub mma_12 : a.reads && b.reads ≡ false → Answers 12
    mma_12 t = after_6 12 (rw t)

    module _ (r : a.reads && b.reads ≡ true) where
      unread : eqb i.reason 12 ≡ true → Answers 12
      unread t = after_6 12 (rw (r, t))

      -- the word has a reading, so its reason is that of its listing, whatever the numbers of those rules are
      module _ (t : eqb i.reason 12 ≡ false) where
        listing_is : i.reason ≡ listing_of
        listing_is =
            ap (λ (x : JudgedWord). x.reason) pi
            ∙ judged_lists m.kind m.ws (sparse m.metadata) x (ap (λ (x : InstructionRead). eqb x.reason 0) decoded_is ∙ sym reading_is ∙ ap not t)
            ∙ ap (λ (x : InstructionRead). first_broken (instruction.listing m.kind m.ws (sparse m.metadata) (instruction.fields x.descriptor))) decoded_is

        after_12 : (x : ℕ) → x ≡ mma_order true true i.reason (kept (all_end s m)) → Answers x
        after_12 x p = after_6 x (p ∙ rw (r, t, listing_is))

      -- a word that has no reading, or is not listed
      pub mma_listing : (r : Reason) → i.reason ≡ number r → Answers (number r)
      mma_listing r z = at (eqb (number r) 12) refl
        where
          at : (t : Bool) → eqb (number r) 12 ≡ t → Answers (number r)
          at true t = rw (eqb-true (number r) 12 t) (unread (rw (z, t)))
          at false t = after_12 (rw (z, t)) (number r) (rw (z, nonzero r))

      -- reason 14, or none
      module _ (z : i.reason ≡ 0) (within : Bool) (q : within ≡ eqb (lane_of m.d) 0 && leb (column_of m.d + i.n) (columns_in d)) where
        within_is : within ≡ mma_ends s m.d (instruction_of s m).descriptor.n
        within_is =
            q
            ∙ ap (λ (x : JudgedWord). eqb (lane_of m.d) 0 && leb (column_of m.d + x.n) (columns_in d)) pi
            ∙ ap (λ (x : InstructionRead). eqb (lane_of m.d) 0 && leb (column_of m.d + x.descriptor.n) (columns_in d)) decoded_is
            ∙ ap (λ (x : ℕ). eqb (lane_of m.d) 0 && leb (column_of m.d + (instruction_of s m).descriptor.n) x) o.size

        inside_is : (within && a.ends) && e.ends ≡ kept (all_end s m)
        inside_is = both _ _ _ _ (both _ _ _ _ within_is (ap (λ (x : Tested). x.ends) o.operand)) (ap (λ (x : Tested). x.ends) o.metadata)

        pub mma_end : (t : Bool) → (within && a.ends) && e.ends ≡ t → Answers (cond t 0 14)
        mma_end t p = after_12 (rw z) (cond t 0 14) (rw (z, ← inside_is, p))
