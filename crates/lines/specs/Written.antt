-- A line as it is written, beside the tests that read it: both say the same (proofs/SheetTheorems.antt). Assumes nothing.
use Rattle.std.specs.Prelude.{ℕ, ◌≤◌, ◌≡◌, List, ◌∷◌, true, length}
use Rattle.tokens.specs.Text.{tab}
use Rattle.tokens.specs.Bytes.{all}
use Rattle.lines.specs.Sheet.{text_of, ended_of, warp_byte, warp_of, plain}

-- the first line is a mark, a tab and a statement's bytes, which an LF ends; the mark is one of a warp's
pub record Written (l : List ℕ) (warp : ℕ) (statement : List ℕ) : Type 0 where
  pub mark : ℕ
  pub line : text_of l ≡ mark ∷ (tab ∷ statement)
  pub marks : warp_byte mark ≡ true
  pub names : warp ≡ warp_of mark
  pub shown : all plain statement ≡ true
  pub ended : ended_of l ≡ true
  pub short : length (text_of l) ≤ 2048
