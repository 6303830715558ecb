-- Reading and writing shared memory descriptors undo each other: the format meets the general laws (laws, proofs/FormatLaws.antt). Assumes nothing.
use Prim.Native.Nat.{ℕ, ◌<◌, ◌^◌}
use mathlib.Core.Path.{◌≡◌, refl, ap, sym, ◌∙◌, subst}
use mathlib.Core.Bool.{Bool, true}
use mathlib.Core.Option.{some, some-injective}
use native.Mathlib.Omega.{arith}
use Rattle.laws.specs.Tests.{all}
use Rattle.laws.specs.Layout.{says, ranges, pack}
use Rattle.laws.proofs.FormatLaws.{Reading, Writing, reading, writing, read_word, word_read}
use Rattle.shared_memory.specs.Shared.{layout, numbers, named, rules, found, made, no_descriptor, no_word, SharedRead, SharedWord, decoded, encoded}
use Rattle.shared_memory.specs.Claims.{SharedExact}
use Rattle.shared_memory.specs.declared.Shared.{Shared}

abbrev rule : Shared → Bool
rule d = all (rules d)

-- the descriptor that six numbers name has them
same : (w : ℕ) (d : Shared) → all (ranges layout (says layout w)) ≡ true → named (says layout w) ≡ some d → numbers d ≡ says layout w
same w d h e = ap numbers (sym (some-injective _ d e))

back : (d : Shared) → (encoded d).reason ≡ 0 → decoded (encoded d).word ≡ found d
unfolding decoded encoded
back d e =
    let r : Writing layout numbers rule d × (encoded d ≡ made (pack layout (numbers d))) =
    writing layout numbers rule made no_word (λ a. a.reason ≡ 0) (λ z. omega arith) d e in
    ap (λ (a : SharedWord). decoded a.word) r.1
    ∙ read_word 64 layout numbers named rule refl (λ x h. refl) same found no_descriptor d r.0

word : (w : ℕ) (d : Shared) → w < 2 ^ 64 → decoded w ≡ found d → encoded d ≡ made w
unfolding decoded encoded
word w d b e =
    let r : (x : Shared) × Reading layout named rule w x × (decoded w ≡ found x) =
    reading layout named rule found no_descriptor (λ a. a.reason ≡ 0) (λ z. omega arith) w (ap (λ (a : SharedRead). a.reason) e) in
    let k : Reading layout named rule w d =
    subst (Reading layout named rule w) (ap (λ (a : SharedRead). a.descriptor) (sym r.2 ∙ e)) r.1 in
    word_read 64 layout numbers named rule refl (λ x h. refl) same made no_word w d b k

-- DEMAND 2 on shared memory descriptors
pub shared_exact : SharedExact
shared_exact = record {
  back = back;
  word = word;
  sole = λ v w d a b p q. ap (λ (x : SharedWord). x.word) (sym (word v d a p) ∙ word w d b q);
}
