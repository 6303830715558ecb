-- `steps::relinquish` meets its contract: the booking is the ledger's (StepLaws.antt). Assumes nothing.
use Rattle.std.proofs.lemmas.Result.{err_from_is_err_and}
use Rattle.steps.proofs.StepLaws.{relinquish_no, relinquish_yes, relinquish_stays}
use Rattle.steps.proofs.relinquish.Goals as goal

pub returns-in_err-booked-clause-done : goal.returns-in_err-booked-clause-done
returns-in_err-booked-clause-done c held =
    let p = err_from_is_err_and c.from_residual.result c.from_residual.ensures.1 in
    rw (p.1, p.2) (relinquish_no held _ _ _ c.relinquish-booked.ensures _ c.in_err-booked.was)

pub returns-in_err-booked-clause-books : goal.returns-in_err-booked-clause-books
returns-in_err-booked-clause-books c = relinquish_stays _ _ _ c.in_err-booked.was _ c.relinquish-booked.ensures

pub returns-clause-done : goal.returns-clause-done
returns-clause-done c held = relinquish_yes held _ _ _ c.relinquish-booked.ensures _ c.in_ok-booked.was
