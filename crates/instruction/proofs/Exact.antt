-- Reading and writing instruction descriptors undo each other: the format meets the general laws (laws, proofs/FormatLaws.antt). Assumes nothing.
use Prim.Native.Nat.{ℕ, ◌<◌, ◌^◌}
use mathlib.Core.Path.{◌≡◌, refl, ap, sym, ◌∙◌, subst}
use mathlib.Core.Bool.{Bool, true}
use native.Mathlib.Omega.{arith}
use Rattle.laws.specs.Tests.{all}
use Rattle.laws.specs.Layout.{pack}
use Rattle.laws.proofs.FormatLaws.{Reading, Writing, reading, writing, read_word, word_read}
use Rattle.instruction.specs.Instruction.{layout, values, numbers, named, rules, keeps, found, made, no_descriptor, no_word, good, fields_read, decoded, encoded, encoded_numbers}
use Rattle.instruction.proofs.NumberLaws.{word-numbers, numbers_back}
use Rattle.instruction.specs.Claims.{InstructionExact}
use Rattle.instruction.specs.declared.Kind.{Kind}
use Rattle.instruction.specs.Descriptor.{Instruction, InstructionRead, FieldsRead, InstructionWord}
use Rattle.instruction.specs.declared.Fields.{Fields}
use Rattle.instruction.proofs.NamingLaws.{own, same, fields_at}

module _ (kind : Kind) (ws sp : Bool) where
  abbrev rule : Instruction → Bool
  rule d = all (rules kind ws sp d)

  -- an answer 0 to a read or a write is no refusal
  reads : (w : ℕ) (d : Instruction) → decoded kind ws sp w ≡ found d → Reading layout (named kind) rule w d
  unfolding decoded
  reads w d e =
      let r : (x : Instruction) × Reading layout (named kind) rule w x × (decoded kind ws sp w ≡ found x) =
      reading layout (named kind) rule found no_descriptor (λ a. a.reason ≡ 0) (λ z. omega arith) w (ap (λ (a : InstructionRead). a.reason) e) in
      subst (Reading layout (named kind) rule w) (ap (λ (a : InstructionRead). a.descriptor) (sym r.2 ∙ e)) r.1

  writes : (d : Instruction) → (encoded kind ws sp d).reason ≡ 0
      → Writing layout numbers rule d × (encoded kind ws sp d ≡ made (pack layout (numbers d)))
  unfolding encoded
  writes d e = writing layout numbers rule made no_word (λ a. a.reason ≡ 0) (λ z. omega arith) d e

  back : (d : Instruction) → (encoded kind ws sp d).reason ≡ 0 → decoded kind ws sp (encoded kind ws sp d).word ≡ found d
  unfolding decoded
  back d e =
      ap (λ (a : InstructionWord). decoded kind ws sp a.word) (writes d e).1
      ∙ read_word 32 layout numbers (named kind) rule refl (own kind ws sp) (λ w x. same kind (fields_at w) x) found no_descriptor d (writes d e).0

  word : (w : ℕ) (d : Instruction) → w < 2 ^ 32 → decoded kind ws sp w ≡ found d → encoded kind ws sp d ≡ made w
  unfolding encoded
  word w d b e =
      word_read 32 layout numbers (named kind) rule refl (own kind ws sp) (λ v x. same kind (fields_at v) x) made no_word w d b (reads w d e)

  sole : (v w : ℕ) (d : Instruction)
      → v < 2 ^ 32 → w < 2 ^ 32 → decoded kind ws sp v ≡ found d → decoded kind ws sp w ≡ found d → v ≡ w
  sole v w d a b p q = ap (λ (x : InstructionWord). x.word) (sym (word v d a p) ∙ word w d b q)

  -- the word of a descriptor is that of its numbers
  as_numbers : (d : Instruction) → (encoded kind ws sp d).reason ≡ 0 → encoded_numbers kind ws sp (numbers d) ≡ encoded kind ws sp d
  as_numbers d e =
      let k : Writing layout numbers rule d = (writes d e).0 in
      word-numbers kind ws sp (numbers d) true true true (sym k.range) (sym (ap (keeps kind ws sp) (own kind ws sp d k.keeps) ∙ k.keeps)) refl
      ∙ sym (writes d e).1

  -- a word that reads as some numbers is the word of those numbers
  fields_word : (w : ℕ) (f : Fields) → w < 2 ^ 32 → fields_read (decoded kind ws sp w) ≡ good f → encoded_numbers kind ws sp (values f) ≡ made w
  unfolding decoded
  fields_word w f b e =
      let r : (x : Instruction) × Reading layout (named kind) rule w x × (decoded kind ws sp w ≡ found x) =
      reading layout (named kind) rule found no_descriptor (λ a. a.reason ≡ 0) (λ z. omega arith) w (ap (λ (a : FieldsRead). a.reason) e) in
      let u : encoded kind ws sp r.0 ≡ made w = word w r.0 b r.2 in
      ap (λ (a : FieldsRead). encoded_numbers kind ws sp (values a.fields)) (sym e ∙ ap fields_read r.2)
      ∙ as_numbers r.0 (ap (λ (a : InstructionWord). a.reason) u)
      ∙ u

-- DEMAND 2 on instruction descriptors, under every opcode
pub instruction_exact : (kind : Kind) (ws sp : Bool) → InstructionExact kind ws sp
instruction_exact kind ws sp = record {
  back = back kind ws sp;
  word = word kind ws sp;
  sole = sole kind ws sp;
  as_numbers = as_numbers kind ws sp;
  fields_back = numbers_back kind ws sp;
  fields_word = fields_word kind ws sp;
}
