-- Reading and writing undo each other in every format whose layout tiles its word, whose descriptors that keep the rule are named by their own
-- numbers, and in which numbers in range are those of the descriptor that they name. Assumes nothing.
use Prim.Native.Nat.{ℕ, ◌^◌, ◌<◌}
use mathlib.Core.Path.{◌≡◌, refl, sym, ◌∙◌, subst}
use mathlib.Core.Bool.{Bool, true, ◌&&◌, cond}
use mathlib.Core.List.{List}
use mathlib.Core.Option.{Option, none, some}
use Rattle.laws.specs.Tests.{all}
use Rattle.laws.specs.Layout.{Part, says, stands, ranges, pack, tiles}
use Rattle.laws.specs.Format.{read_by, word_by}
use Rattle.laws.proofs.BoolLaws.{and_split, chosen, cond-and, cond_same}
use Rattle.laws.proofs.LayoutLaws.{packed, unpacked}

-- reading a word whose numbers name a descriptor, and writing, each make two tests: as one
pub read_both : {D R : Type 0} (layout : List Part) (named : List ℕ → Option D) (rule : D → Bool) (found : D → R) (refused : R) (w : ℕ) (d : D)
    → named (says layout w) ≡ some d → read_by layout named rule found refused w ≡ cond (all (stands layout w) && rule d) (found d) refused
read_both layout named rule found refused w d e = rw e (sym (cond-and (all (stands layout w)) (rule d) (found d) refused))

-- reading a word whose numbers name none
pub read_none : {D R : Type 0} (layout : List Part) (named : List ℕ → Option D) (rule : D → Bool) (found : D → R) (refused : R) (w : ℕ)
    → named (says layout w) ≡ none → read_by layout named rule found refused w ≡ refused
read_none layout named rule found refused w e = rw e (cond_same (all (stands layout w)) refused)

pub word-both : {D R : Type 0} (layout : List Part) (numbers : D → List ℕ) (rule : D → Bool) (made : ℕ → R) (refused : R) (d : D)
    → word_by layout numbers rule made refused d ≡ cond (all (ranges layout (numbers d)) && rule d) (made (pack layout (numbers d))) refused
word-both layout numbers rule made refused d = sym (cond-and (all (ranges layout (numbers d))) (rule d) (made (pack layout (numbers d))) refused)

-- a word that is read as a descriptor: its fixed parts stand, what it says names the descriptor, and that keeps the rule
pub record Reading {D : Type 0} (layout : List Part) (named : List ℕ → Option D) (rule : D → Bool) (w : ℕ) (d : D) : Type 0 where
  pub stand : all (stands layout w) ≡ true
  pub names : named (says layout w) ≡ some d
  pub keeps : rule d ≡ true

-- a descriptor that is written: its numbers are in range, and it keeps the rule
pub record Writing {D : Type 0} (layout : List Part) (numbers : D → List ℕ) (rule : D → Bool) (d : D) : Type 0 where
  pub range : all (ranges layout (numbers d)) ≡ true
  pub keeps : rule d ≡ true

-- An answer says that it found a descriptor: P holds of what is found, and not of the refusal.
module _
    {D R : Type 0}
    (layout : List Part)
    (named : List ℕ → Option D)
    (rule : D → Bool)
    (found : D → R)
    (refused : R)
    (P : R → Type 0)
    (no : P refused → ⊥)
  where
    named-reading : (w : ℕ) (x : Option D) → named (says layout w) ≡ x → P (read_by layout named rule found refused w)
        → (d : D) × Reading layout named rule w d × (read_by layout named rule found refused w ≡ found d)
    named-reading w none e p = absurd (no (subst P (read_none layout named rule found refused w e) p))
    named-reading w (some d) e p =
        let q : read_by layout named rule found refused w ≡ cond (all (stands layout w) && rule d) (found d) refused =
        read_both layout named rule found refused w d e in
        let t : (all (stands layout w) && rule d) ≡ true = chosen P (all (stands layout w) && rule d) (found d) refused no (subst P q p) in
        let s : (all (stands layout w) ≡ true) × (rule d ≡ true) = and_split (all (stands layout w)) (rule d) t in
        (d, record { stand = s.0; names = e; keeps = s.1 }, q ∙ rw t)

    pub reading : (w : ℕ) → P (read_by layout named rule found refused w)
        → (d : D) × Reading layout named rule w d × (read_by layout named rule found refused w ≡ found d)
    reading w p = named-reading w (named (says layout w)) refl p

module _
    {D R : Type 0}
    (layout : List Part)
    (numbers : D → List ℕ)
    (rule : D → Bool)
    (made : ℕ → R)
    (refused : R)
    (P : R → Type 0)
    (no : P refused → ⊥)
  where
    pub writing : (d : D) → P (word_by layout numbers rule made refused d)
        → Writing layout numbers rule d × (word_by layout numbers rule made refused d ≡ made (pack layout (numbers d)))
    writing d p =
        let q : word_by layout numbers rule made refused d ≡ cond (all (ranges layout (numbers d)) && rule d) (made (pack layout (numbers d))) refused =
        word-both layout numbers rule made refused d in
        let t : (all (ranges layout (numbers d)) && rule d) ≡ true =
        chosen P (all (ranges layout (numbers d)) && rule d) (made (pack layout (numbers d))) refused no (subst P q p) in
        let s : (all (ranges layout (numbers d)) ≡ true) × (rule d ≡ true) = and_split (all (ranges layout (numbers d))) (rule d) t in
        (record { range = s.0; keeps = s.1 }, q ∙ rw t)

module _
    {D : Type 0}
    (size : ℕ)
    (layout : List Part)
    (numbers : D → List ℕ)
    (named : List ℕ → Option D)
    (rule : D → Bool)
    (tiled : tiles 0 size layout ≡ true)
    (own : (d : D) → rule d ≡ true → named (numbers d) ≡ some d)
    (same : (w : ℕ) (d : D) → all (ranges layout (says layout w)) ≡ true → named (says layout w) ≡ some d → numbers d ≡ says layout w)
  where
    -- the word of a descriptor that is written reads as the descriptor
    pub read_word : {R : Type 0} (found : D → R) (refused : R) (d : D)
        → Writing layout numbers rule d → read_by layout named rule found refused (pack layout (numbers d)) ≡ found d
    read_word found refused d k =
        let p : (all (stands layout (pack layout (numbers d))) ≡ true) × (says layout (pack layout (numbers d)) ≡ numbers d) =
        packed size layout (numbers d) tiled k.range in
        rw (p.0, p.1, own d k.keeps, k.keeps)

    -- a word that reads as a descriptor is the descriptor's word
    pub word_read : {R : Type 0} (made : ℕ → R) (refused : R) (w : ℕ) (d : D)
        → w < 2 ^ size → Reading layout named rule w d → word_by layout numbers rule made refused d ≡ made w
    word_read made refused w d b k =
        let u : (all (ranges layout (says layout w)) ≡ true) × (pack layout (says layout w) ≡ w) = unpacked size layout w tiled b k.stand in
        let e : numbers d ≡ says layout w = same w d u.0 k.names in
        rw (e, u.0, k.keeps, u.1)
