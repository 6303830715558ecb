-- The rules on a descriptor's numbers, before its types are named: the code tests them so. Assumes nothing.
use Prim.Native.Nat.{ℕ, ◌<◌, ◌^◌}
use mathlib.Core.Path.{◌≡◌, refl, ap, ap₂, sym, ◌∙◌, subst}
use mathlib.Core.Bool.{Bool, true, false, ◌&&◌, not, cond}
use mathlib.Core.List.{List, [], ◌∷◌}
use mathlib.Core.Option
use mathlib.Core.Option.{Option, none, some}
use native.Mathlib.Omega.{arith}
use lib.Dec.{eqb}
use lib.ListN.{get_or}
use borrow.Author.Tests.{eqb-false}
use Rattle.laws.specs.Tests.{all, is_some}
use Rattle.laws.specs.Layout.{says, stands, ranges, pack}
use Rattle.laws.specs.Rules.{Rule, rule, first_broken}
use Rattle.laws.proofs.BoolLaws.{never, and_split, and-join, and_l, and_r}
use Rattle.laws.proofs.TestLaws.{find-passes}
use Rattle.laws.proofs.FormatLaws.{read_both, read_none}
use Rattle.laws.proofs.LayoutLaws.{packed, unpacked}
use Rattle.instruction.proofs.NamingLaws.{same}
use Rattle.instruction.specs.Instruction.{layout, fields, values, fields_in, good, fields_read, named3, named, rules, typed, flags, keeps, dtype_of, element_of, of_kind, code, elements, zero, found, made, no_descriptor, no_word, decoded, encoded_numbers, listing, judged}
use Rattle.instruction.specs.declared.Kind.{Kind}
use Rattle.instruction.specs.Descriptor.{Dtype, Element, Instruction, InstructionRead}
use Rattle.instruction.specs.declared.Fields.{Fields}

-- a type that is found is of the kind
found-of_kind : (kind : Kind) (c : ℕ) (t : Element) → element_of kind c ≡ some t → of_kind kind t ≡ true
found-of_kind kind c t e = (and_split (of_kind kind t) (eqb c (code t)) (find-passes (λ x. of_kind kind x && eqb c (code x)) elements t e)).0

by_options : (kind : Kind) (ws sp : Bool) (l : List ℕ) (x : Option Dtype) (y z : Option Element)
    → ((a : Element) → y ≡ some a → of_kind kind a ≡ true)
    → ((b : Element) → z ≡ some b → of_kind kind b ≡ true)
    → (all (is_some x ∷ is_some y ∷ is_some z ∷ []) && all (flags kind ws sp l)) ≡ keeps kind ws sp (named3 l x y z)
by_options kind ws sp l (some d) (some a) (some b) p q = rw (p a refl, q b refl)
by_options kind ws sp l (some d) (some a) none p q = refl
by_options kind ws sp l (some d) none z p q = refl
by_options kind ws sp l none y z p q = refl

-- the code's tests on numbers decide whether they name a descriptor that keeps the rules
pub admitted : (kind : Kind) (ws sp : Bool) (l : List ℕ) → (typed kind l && all (flags kind ws sp l)) ≡ keeps kind ws sp (named kind l)
admitted kind ws sp l =
    by_options kind ws sp l (dtype_of (get_or l 3 0)) (element_of kind (get_or l 4 0)) (element_of kind (get_or l 5 0))
    (found-of_kind kind (get_or l 4 0)) (found-of_kind kind (get_or l 5 0))

-- reading goes by the fixed parts and the tests on numbers
by_name : (kind : Kind) (ws sp : Bool) (w : ℕ) (x : Option Instruction) → named kind (says layout w) ≡ x
    → decoded kind ws sp w ≡ cond (all (stands layout w) && keeps kind ws sp x) (found (Option.get_or x zero)) no_descriptor
unfolding decoded
by_name kind ws sp w none e = read_none layout (named kind) (λ d. all (rules kind ws sp d)) found no_descriptor w e ∙ sym (refused_both (all (stands layout w)))
  where
    refused_both : (b : Bool) → cond (b && false) (found zero) no_descriptor ≡ no_descriptor
    refused_both true = refl
    refused_both false = refl
by_name kind ws sp w (some d) e = read_both layout (named kind) (λ d'. all (rules kind ws sp d')) found no_descriptor w d e

reading : (kind : Kind) (ws sp : Bool) (w : ℕ) (l : List ℕ) (t : Bool) → l ≡ says layout w → (all (stands layout w) && keeps kind ws sp (named kind l)) ≡ t
    → decoded kind ws sp w ≡ cond t (found (Option.get_or (named kind l) zero)) no_descriptor
reading kind ws sp w l t e h =
    by_name kind ws sp w (named kind l) (ap (named kind) (sym e)) ∙ ap (λ (b : Bool). cond b (found (Option.get_or (named kind l) zero)) no_descriptor) h

-- fields in range that are kept are those of the descriptor that they name
kept_same : (kind : Kind) (ws sp : Bool) (f : Fields) (x : Option Instruction)
    → all (ranges layout (values f)) ≡ true → named kind (values f) ≡ x → keeps kind ws sp x ≡ true → fields (Option.get_or x zero) ≡ f
kept_same kind ws sp f none h e k = never k
kept_same kind ws sp f (some d) h e k = ap fields_in (same kind f d h e)

-- the fields of a word that is read: they are in range, by themselves or since the word has 32 bits
read_kept : (kind : Kind) (ws sp : Bool) (w : ℕ) (f : Fields) → all (ranges layout (values f)) ≡ true → values f ≡ says layout w
    → (all (stands layout w) && keeps kind ws sp (named kind (values f))) ≡ true → fields_read (decoded kind ws sp w) ≡ good f
read_kept kind ws sp w f h e t =
    ap fields_read (reading kind ws sp w (values f) true e t)
    ∙ ap good (kept_same kind ws sp f (named kind (values f)) h refl (and_split (all (stands layout w)) (keeps kind ws sp (named kind (values f))) t).1)

-- by the code's two tests
read_fields : (kind : Kind) (ws sp : Bool) (w : ℕ) (f : Fields) (s k : Bool) → w < 2 ^ 32 → values f ≡ says layout w
    → s ≡ all (stands layout w) → k ≡ keeps kind ws sp (named kind (values f)) → s && k ≡ true → fields_read (decoded kind ws sp w) ≡ good f
read_fields kind ws sp w f s k b e p q t =
    let stand : all (stands layout w) ≡ true = sym p ∙ and_l s k t in
    let range : all (ranges layout (values f)) ≡ true =
    subst (λ (l : List ℕ). all (ranges layout l) ≡ true) (sym e) (unpacked 32 layout w refl b stand).0 in
    read_kept kind ws sp w f range e (and-join _ _ stand (sym q ∙ and_r s k t))

read_refused : (kind : Kind) (ws sp : Bool) (w : ℕ) (f : Fields) (s k : Bool) → values f ≡ says layout w
    → s ≡ all (stands layout w) → k ≡ keeps kind ws sp (named kind (values f)) → s && k ≡ false → decoded kind ws sp w ≡ no_descriptor
read_refused kind ws sp w f s k e p q t = reading kind ws sp w (values f) false e (ap₂ ◌&&◌ (sym p) (sym q) ∙ t)

-- what a word of 32 bits reads as, by the code's two tests
pub read : (kind : Kind) (ws sp : Bool) (w : ℕ) (f : Fields) (s k : Bool) → w < 2 ^ 32 → f ≡ fields_in (says layout w)
    → s ≡ all (stands layout w) → k ≡ keeps kind ws sp (named kind (values f))
    → cond (s && k) (good f) (fields_read no_descriptor) ≡ fields_read (decoded kind ws sp w)
read kind ws sp w f true true b e p q = sym (read_fields kind ws sp w f true true b (ap values e) p q refl)
read kind ws sp w f true false b e p q = sym (ap fields_read (read_refused kind ws sp w f true false (ap values e) p q refl))
read kind ws sp w f false k b e p q = sym (ap fields_read (read_refused kind ws sp w f false k (ap values e) p q refl))

-- a word that is not read has no descriptor
pub unread : (kind : Kind) (ws sp : Bool) (w : ℕ) → ((decoded kind ws sp w).reason ≡ 0 → ⊥) → decoded kind ws sp w ≡ no_descriptor
unread kind ws sp w n = by_test (all (stands layout w) && keeps kind ws sp (named kind (says layout w))) (by_name kind ws sp w (named kind (says layout w)) refl)
  where
    by_test : (t : Bool) → decoded kind ws sp w ≡ cond t (found (Option.get_or (named kind (says layout w)) zero)) no_descriptor → decoded kind ws sp w ≡ no_descriptor
    by_test true e = absurd (n (ap (λ (a : InstructionRead). a.reason) e))
    by_test false e = e

-- the word of numbers by the code's two tests
pub word-numbers : (kind : Kind) (ws sp : Bool) (l : List ℕ) (b k t : Bool)
    → b ≡ all (ranges layout l) → k ≡ keeps kind ws sp (named kind l) → b && k ≡ t → encoded_numbers kind ws sp l ≡ cond t (made (pack layout l)) no_word
unfolding encoded_numbers
word-numbers kind ws sp l b k t p q e = ap (λ (x : Bool). cond x (made (pack layout l)) no_word) (ap₂ ◌&&◌ (sym p) (sym q) ∙ e)

-- the word of some numbers reads as those numbers
word_back : (kind : Kind) (ws sp : Bool) (f : Fields) (b k : Bool)
    → all (ranges layout (values f)) ≡ b → keeps kind ws sp (named kind (values f)) ≡ k → (cond (b && k) (made (pack layout (values f))) no_word).reason ≡ 0
    → fields_read (decoded kind ws sp (cond (b && k) (made (pack layout (values f))) no_word).word) ≡ good f
word_back kind ws sp f true true h k e =
    let p : (all (stands layout (pack layout (values f))) ≡ true) × (says layout (pack layout (values f)) ≡ values f) = packed 32 layout (values f) refl h in
    read_kept kind ws sp (pack layout (values f)) f h (sym p.1) (simp (p.0, k))
word_back kind ws sp f true false h k e = absurd (omega arith)
word_back kind ws sp f false k h q e = absurd (omega arith)

pub numbers_back : (kind : Kind) (ws sp : Bool) (f : Fields)
    → (encoded_numbers kind ws sp (values f)).reason ≡ 0 → fields_read (decoded kind ws sp (encoded_numbers kind ws sp (values f)).word) ≡ good f
unfolding encoded_numbers
numbers_back kind ws sp f e = word_back kind ws sp f (all (ranges layout (values f))) (keeps kind ws sp (named kind (values f))) refl refl e

-- ---- what is judged goes by the reading
-- no rule has that number, nor is it 0
abbrev NoneIs : ℕ → List Rule → Type 0
NoneIs k [] = eqb 0 k ≡ false
NoneIs k (rule number kept ∷ rs) = (eqb number k ≡ false) × NoneIs k rs

none_is : (k : ℕ) (rs : List Rule) → NoneIs k rs → eqb (first_broken rs) k ≡ false
none_is k [] h = h
none_is k (rule number true ∷ rs) h = none_is k rs h.1
none_is k (rule number false ∷ rs) h = h.0

-- no listing rule has the number of a word with no reading: the reason 12 says that there is none
unlisted : (kind : Kind) (ws sp : Bool) (f : Fields) → eqb (first_broken (listing kind ws sp f)) 12 ≡ false
unlisted kind ws sp f = none_is 12 (listing kind ws sp f) (refl, (refl, (refl, refl)))

by_reading : (kind : Kind) (ws sp : Bool) (f : Fields) (x : ℕ) (t : Bool) → eqb x 0 ≡ t → (eqb x 0 ≡ false → x ≡ 12)
    → eqb (cond (eqb x 0) (first_broken (listing kind ws sp f)) x) 12 ≡ not (eqb x 0)
by_reading kind ws sp f x true e h = rw e (unlisted kind ws sp f)
by_reading kind ws sp f x false e h = rw (e, h e)

pub judged-reads : (kind : Kind) (ws sp : Bool) (w : ℕ) → eqb (judged kind ws sp w).reason 12 ≡ not (eqb (decoded kind ws sp w).reason 0)
judged-reads kind ws sp w =
    by_reading kind ws sp (fields (decoded kind ws sp w).descriptor) (decoded kind ws sp w).reason (eqb (decoded kind ws sp w).reason 0) refl
    (λ e. ap (λ (a : InstructionRead). a.reason) (unread kind ws sp w (eqb-false (decoded kind ws sp w).reason 0 e)))

-- and of a word that reads the reason is that of the listing
pub judged_lists : (kind : Kind) (ws sp : Bool) (w : ℕ) → eqb (decoded kind ws sp w).reason 0 ≡ true
    → (judged kind ws sp w).reason ≡ first_broken (listing kind ws sp (fields (decoded kind ws sp w).descriptor))
judged_lists kind ws sp w e =
    ap (λ (t : Bool). cond t (first_broken (listing kind ws sp (fields (decoded kind ws sp w).descriptor))) (decoded kind ws sp w).reason) e
