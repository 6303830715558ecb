-- The rule of N agrees with its table: each row is computed for 64 numbers, and lifted to each of them. Assumes nothing.
use Prim.Native.Nat.{ℕ, ◌*◌, ◌/◌, ◌%◌, ◌^◌, ◌≤◌, ◌<◌}
use mathlib.Core.Path.{◌≡◌, refl, ap, subst}
use mathlib.Core.Bool.{Bool, true, false, ◌&&◌}
use mathlib.Core.List.{[], ◌∷◌, map}
use native.Mathlib.Omega.{arith}
use lib.Dec.{eqb, leb}
use borrow.Author.Tests.{eqb-true, leb-true, le-leb}
use Rattle.laws.specs.Tests.{all, among}
use Rattle.laws.specs.Layout.{ranges, pack}
use Rattle.laws.proofs.BoolLaws.{and_l, and_r, chosen}
use Rattle.laws.proofs.TestLaws.{each, all_of, agree_below, agree_below_lem}
use Rattle.instruction.specs.Instruction.{layout, fields, values, named, keeps, found, made, no_word, fields_read, decoded, encoded_numbers, n_listed, n_table, n_fits}
use Rattle.instruction.specs.Claims.{NExact}
use Rattle.instruction.specs.Descriptor.{Instruction, InstructionWord}
use Rattle.instruction.specs.declared.Kind.{Kind}
use Rattle.instruction.specs.declared.Fields.{Fields}
use Rattle.instruction.proofs.Exact.{instruction_exact}

-- ---- a row of the table is right: it agrees with the rule on every multiple of 8 below 512, and has no other number
abbrev agrees : Kind → Bool → Bool → Bool
agrees kind ws sp = agree_below 64 (λ k. n_listed kind ws sp (k * 8)) (λ k. among (k * 8) (n_table kind ws sp))

abbrev fits : Kind → Bool → Bool → Bool
fits kind ws sp = all (map n_fits (n_table kind ws sp))

computed : (ws sp : Bool) (kind : Kind) → (agrees kind ws sp && fits kind ws sp) ≡ true
computed false sp Kind.F16 = refl
computed false sp Kind.Tf32 = refl
computed false sp Kind.F8f6f4 = refl
computed false sp Kind.I8 = refl
computed true false kind = refl
computed true true kind = refl

listed : (kind : Kind) (ws sp : Bool) (n : ℕ) → n_fits n ≡ true → n_listed kind ws sp n ≡ among n (n_table kind ws sp)
listed kind ws sp n h =
    let e = each (leb 0 n ∷ leb n 504 ∷ eqb (n % 8) 0 ∷ []) h in
    let most : n ≤ 504 = leb-true n 504 e.1.0 in
    let eights : n % 8 ≡ 0 = eqb-true (n % 8) 0 e.1.1.0 in
    let whole : n / 8 * 8 ≡ n = omega (arith, eights) in
    let row : agrees kind ws sp ≡ true = and_l (agrees kind ws sp) (fits kind ws sp) (computed ws sp kind) in
    subst (λ x. n_listed kind ws sp x ≡ among x (n_table kind ws sp)) whole
    (agree_below_lem 64 (λ k. n_listed kind ws sp (k * 8)) (λ k. among (k * 8) (n_table kind ws sp)) row (n / 8) (omega (arith, most)))

table_fits : (kind : Kind) (ws sp : Bool) → fits kind ws sp ≡ true
table_fits kind ws sp = and_r (agrees kind ws sp) (fits kind ws sp) (computed ws sp kind)

-- ---- what a descriptor has room for: the tests of N come after those of ten other fields
fields_fit : (kind : Kind) (ws sp : Bool) (f : Fields) → (encoded_numbers kind ws sp (values f)).reason ≡ 0 → n_fits f.n ≡ true
unfolding encoded_numbers
fields_fit kind ws sp f h =
    let range = all (ranges layout (values f)) in
    let kept = keeps kind ws sp (named kind (values f)) in
    let both : range && kept ≡ true = chosen (λ (a : InstructionWord). a.reason ≡ 0) (range && kept) (made (pack layout (values f))) no_word (λ z. omega arith) h in
    let r = (each (ranges layout (values f)) (and_l range kept both)).1.1.1.1.1.1.1.1.1.1 in
    all_of (leb 0 f.n ∷ leb f.n 504 ∷ eqb (f.n % 8) 0 ∷ []) (le-leb 0 f.n (omega arith), (r.1.0, (r.0, tt)))

word_fits : (kind : Kind) (ws sp : Bool) (w : ℕ) (d : Instruction) → w < 2 ^ 32 → decoded kind ws sp w ≡ found d → n_fits d.n ≡ true
word_fits kind ws sp w d b e =
    fields_fit kind ws sp (fields d) (ap (λ (a : InstructionWord). a.reason) ((instruction_exact kind ws sp).fields_word w (fields d) b (ap fields_read e)))

-- THE RULE OF N AND ITS TABLE AGREE
pub n_exact : NExact
n_exact = record { listed = listed; table_fits = table_fits; fields_fit = fields_fit; word_fits = word_fits }
