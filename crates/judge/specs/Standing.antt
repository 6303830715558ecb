-- Where the loop over the lines of a sheet stands. Assumes nothing.
use Rattle.std.specs.Prelude.{ℕ, List}
use Rattle.lines.specs.Sheet.{After}
use Rattle.steps.specs.declared.Books.{Books}
use Rattle.progress.specs.declared.Progress.{Progress}
use Rattle.progress.specs.Going.{Going}
use Rattle.judge.specs.Judged.{lines_of}

-- the loop's invariant: some lines after line 1 are done, all of them accepted, and the next one starts at the place
pub record Standing (s first given : List ℕ) (b : Books) (p : Progress) (at : ℕ) : Type 0 where
  pub done : ℕ
  pub going : Going (lines_of s) done first given b p
  pub here : After s p.line at
