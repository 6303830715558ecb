-- A format of words: a layout, the descriptors that lists of numbers name, and a rule on descriptors. Reading and writing undo each other in
-- every format (proofs/FormatLaws.antt). Assumes nothing.
use Rattle.std.specs.Prelude.{ℕ, Bool, cond, List}
use Rattle.std.proofs.Math.Option.{Option, none, some}
use Rattle.laws.specs.Layout.{Part, says, stands, ranges, pack}
use Rattle.laws.specs.Tests.{all}

-- what is found in a descriptor that is named and keeps the rule, else what is refused
abbrev pub kept : {D R : Type 0} → (D → Bool) → (D → R) → R → Option D → R
kept rule found refused none = refused
kept rule found refused (some d) = cond (rule d) (found d) refused

-- reading a word: its fixed parts stand, what it says names a descriptor, and that keeps the rule
abbrev pub read_by : {D R : Type 0} → List Part → (List ℕ → Option D) → (D → Bool) → (D → R) → R → ℕ → R
read_by layout named rule found refused word = cond (all (stands layout word)) (kept rule found refused (named (says layout word))) refused

-- the word of a descriptor: its numbers are in range, and it keeps the rule
abbrev pub word_by : {D R : Type 0} → List Part → (D → List ℕ) → (D → Bool) → (ℕ → R) → R → D → R
word_by layout numbers rule made refused d = cond (all (ranges layout (numbers d))) (cond (rule d) (made (pack layout (numbers d))) refused) refused
