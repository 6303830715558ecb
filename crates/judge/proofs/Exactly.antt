-- Bytes are passed exactly if they are not too large and are a passed sheet of the rules. Assumes nothing.
use Prim.Native.Nat.{ℕ}
use mathlib.Core.Path.{◌≡◌, refl, sym}
use mathlib.Core.Bool.{Bool, true, false, cond}
use mathlib.Core.List.{List}
use Rattle.laws.proofs.BoolLaws.{never}
use Rattle.lines.specs.Sheet.{oversize}
use Rattle.rules.specs.Sheet.{ours, answer, answer_of}
use Rattle.rules.specs.Claims.{Passing, Passed}
use Rattle.rules.proofs.RulesProved.{rules_exact}
use Rattle.judge.specs.Judged.{sheet_of, judged_of, PassedBytes}
use Rattle.judge.proofs.Whole.{never_1}

passes_by : (b : Bool) (s : List ℕ) (room : ℕ) → Passing (cond b (answer 1 0 0 0 0) (answer_of (sheet_of s) room)).reason → (b ≡ false) × Passed ours (sheet_of s)
passes_by true s room p = never_1 _ p
passes_by false s room p = (refl, (rules_exact ours (sheet_of s) room).passed.0 p)

passed-by : (b : Bool) (s : List ℕ) (room : ℕ) → b ≡ false → Passed ours (sheet_of s) → Passing (cond b (answer 1 0 0 0 0) (answer_of (sheet_of s) room)).reason
passed-by true s room e p = never (sym e)
passed-by false s room e p = (rules_exact ours (sheet_of s) room).passed.1 p

pub passes_exactly : (s : List ℕ) (room : ℕ) → (Passing (judged_of s room).reason → PassedBytes s) × (PassedBytes s → Passing (judged_of s room).reason)
unfolding judged_of
passes_exactly s room = ((λ p. passes_by (oversize s) s room p), (λ q. passed-by (oversize s) s room q.0 q.1))
