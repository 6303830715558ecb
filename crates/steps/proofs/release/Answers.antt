-- `steps::release` meets its contract: the booking is the ledger's, unless something is outstanding (StepLaws.antt). Assumes nothing.
use Rattle.std.proofs.Common.{sym, ◌∙◌}
use Rattle.std.proofs.lemmas.Result.{err_from_is_err_and}
use Rattle.steps.proofs.StepLaws.{release_no, release_18, release_yes, release_stays}
use Rattle.steps.proofs.release.Goals as goal

pub returns-in_err-booked-clause-done : goal.returns-in_err-booked-clause-done
returns-in_err-booked-clause-done c held =
    let p = err_from_is_err_and c.from_residual.result c.from_residual.ensures.1 in
    rw (p.1, p.2) (release_no held _ _ _ _ _ c.release-booked.ensures _ c.in_err-booked.was)

pub returns-in_err-booked-clause-books : goal.returns-in_err-booked-clause-books
returns-in_err-booked-clause-books c = release_stays _ _ _ c.in_err-booked.was _ _ _ c.release-booked.ensures

pub returns-then-is_busy-clause-done : goal.returns-then-is_busy-clause-done
returns-then-is_busy-clause-done c held = release_18 held _ _ _ _ _ c.release-booked.ensures _ c.in_ok-booked.was (sym c.is_busy.ensures ∙ c.if-is_busy.true)

pub returns-clause-done : goal.returns-clause-done
returns-clause-done c held = release_yes held _ _ _ _ _ c.release-booked.ensures _ c.in_ok-booked.was (sym c.is_busy.ensures ∙ c.if-is_busy.false)
