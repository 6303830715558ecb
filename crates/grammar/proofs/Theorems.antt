-- The theorems, together: each is proved in the file that its line names. Assumes nothing.
use Prim.Native.Nat.{ℕ}
use mathlib.Core.Path.{◌≡◌, refl, ap, sym, ◌∙◌}
use mathlib.Core.List.{List, ◌++◌}
use mathlib.Core.Bool.{true}
use Rattle.tokens.specs.Names.{is_name, packed, name_bytes}
use Rattle.tokens.specs.Numbers.{low_digits, trimmed, decimal}
use Rattle.statement.specs.declared.Num.{Num}
use Rattle.statement.specs.declared.Num.TheVariants.{X1, X2, X4, X8, X16, X32, X64, X128}
use Rattle.tokens.specs.Text.{bytes}
use Rattle.statement.specs.Forms.{num_text}
use Rattle.statement.specs.Cells.{times}
use Rattle.grammar.specs.Claims.{Theorems}
use Rattle.grammar.proofs.Back.{name_back}
use Rattle.grammar.proofs.Exact.{exact, long}
use Rattle.grammar.proofs.Trip.{trip, writable, canonical}
use Rattle.grammar.proofs.Places.{places}
use Rattle.grammar.proofs.Overs.{overs}
use Rattle.grammar.proofs.OnePlace.{ones}
use Rattle.grammar.proofs.Operands.{operands}

names : (v w : List ℕ) → is_name v ≡ true → is_name w ≡ true → packed v ≡ packed w → v ≡ w
names v w p q e = sym (name_back v p) ∙ ap name_bytes e ∙ name_back w q

nums : (n : Num) → num_text n ≡ bytes ".x" ++ decimal (times n)
unfolding decimal trimmed low_digits
nums X1 = refl
nums X2 = refl
nums X4 = refl
nums X8 = refl
nums X16 = refl
nums X32 = refl
nums X64 = refl
nums X128 = refl

pub theorems : Theorems
theorems = record { exact = exact; trip = trip; writable = writable; canonical = canonical; three = places; long = long; four = overs; one = ones; operands = operands; names = names; nums = nums }
