-- `steps::alloc` meets its contract: a bound name is refused, and otherwise the booking is the ledger's (StepLaws.antt). Assumes nothing.
use Rattle.std.proofs.lemmas.Result.{err_from_is_err_and}
use Rattle.steps.proofs.StepLaws.{tested, alloc_6, alloc_no, alloc_yes, alloc_stays}
use Rattle.steps.proofs.alloc.Goals as goal

pub returns-then-is_some-clause-done : goal.returns-then-is_some-clause-done
returns-then-is_some-clause-done c held = alloc_6 held _ _ _ _ (tested c.find.ensures c.is_some.ensures c.if-is_some.true)

pub returns-in_err-start-clause-done : goal.returns-in_err-start-clause-done
returns-in_err-start-clause-done c held =
    let p = err_from_is_err_and c.from_residual.result c.from_residual.ensures.1 in
    rw (p.1, p.2)
    (alloc_no held _ _ _ _ (tested c.find.ensures c.is_some.ensures c.if-is_some.false) _ c.alloc-booked.ensures _ c.in_err-start.was)

pub returns-in_err-start-clause-books : goal.returns-in_err-start-clause-books
returns-in_err-start-clause-books c = alloc_stays _ _ _ c.in_err-start.was _ _ _ c.alloc-booked.ensures

pub returns-clause-done : goal.returns-clause-done
returns-clause-done c held = alloc_yes held _ _ _ _ (tested c.find.ensures c.is_some.ensures c.if-is_some.false) _ c.alloc-booked.ensures _ c.in_ok-start.was
