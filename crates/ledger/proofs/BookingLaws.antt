-- What a booking answers, by what was judged of it: nothing is booked where a rule is broken. Assumes nothing.
use Prim.Native.Nat.{ℕ, ◌≤◌}
use mathlib.Core.Path.{◌≡◌}
use mathlib.Core.Bool.{true}
use Rattle.reasons.specs.declared.Reason.{Reason}
use Rattle.reasons.specs.Reasons.{number}
use Rattle.reasons.proofs.ReasonLaws.{nonzero}
use Rattle.request.specs.Request.{legal}
use Rattle.request.proofs.RequestLaws.{request_exact}
use Rattle.ledger.specs.declared.Ledger.{Ledger}
use Rattle.ledger.specs.Booking.{booked, unchanged}

-- a request that is legal
pub legal_range : (requested : ℕ) → legal requested ≡ true → (32 ≤ requested) × (requested ≤ 512)
legal_range n h = let p = (request_exact n).power h in (p.least, p.most)

-- a booking is made, or refused
module _ (l : Ledger) (next : Ledger) (start x : ℕ) where
  pub made : 0 ≡ x → record { next = next; reason = 0; start = start } ≡ booked l x start next
  made e = rw (← e)

  pub turned_down : (r : Reason) → number r ≡ x → unchanged l (number r) ≡ booked l x start next
  turned_down r e = rw (← e, nonzero r)
