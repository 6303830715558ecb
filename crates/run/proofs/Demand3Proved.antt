-- Demand 3 holds of every passed sheet: under our placing by OurStarts, under any list of starts by AnyStarts. Assumes nothing.
use Prim.Native.Nat.{ℕ}
use Rattle.rules.specs.Sheet.{Sheet, ours, answer_of}
use Rattle.rules.specs.Claims.{Passing}
use Rattle.rules.proofs.RulesProved.{passing_clear}
use Rattle.run.specs.Demand3.{Demand3}
use Rattle.run.proofs.AnyStarts.{any_starts}
use Rattle.run.proofs.OurStarts.{our_starts}

-- for a sheet that the rules give 0 or 16, whatever room is lent
pub demand3 : (sheet : Sheet) (room : ℕ) → Passing (answer_of sheet room).reason → Demand3 sheet
demand3 sheet room p =
    let c = passing_clear ours sheet room p in
    record { placed = our_starts sheet c; whichever = λ starts. any_starts ours sheet c starts }
