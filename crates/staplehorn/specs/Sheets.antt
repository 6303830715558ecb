-- The answer for a sheet as six numbers, and back. Assumes nothing.
use Rattle.std.specs.Prelude.{ℕ, List, [], ◌∷◌, get_or}
use Rattle.rules.specs.declared.Answer.{Answer}
use Rattle.judge.specs.Judged.{judged_of, start_count}

-- reason, line, column, held, peak, and how many starts come with them
abbrev pub numbers : Answer → ℕ → List ℕ
numbers a starts = a.reason ∷ (a.line ∷ (a.column ∷ (a.held ∷ (a.peak ∷ (starts ∷ [])))))

-- those of a sheet and a list of so many places
abbrev pub answered : List ℕ → ℕ → List ℕ
answered s room = numbers (judged_of s room) (start_count s room)

-- the answer that the first five of them are
abbrev pub answer_in : List ℕ → Answer
answer_in l = record { reason = get_or l 0 0; line = get_or l 1 0; column = get_or l 2 0; held = get_or l 3 0; peak = get_or l 4 0 }
