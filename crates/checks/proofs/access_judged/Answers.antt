-- `checks::access_judged` meets its contract. The first test that fails decides, by the laws of an access. Assumes nothing.
use Rattle.std.proofs.Common.{true, false, sym, ◌∙◌}
use Rattle.checks.proofs.AccessLaws.{access_5, access_6, access_8, access_end}
use Rattle.checks.proofs.access_judged.Goals as goal

pub returns-then-is_miscounted-clause-reason : goal.returns-then-is_miscounted-clause-reason
returns-then-is_miscounted-clause-reason c s held h = access_5 s held _ _ (sym c.is_miscounted.ensures ∙ c.if-is_miscounted.true)

pub returns-in_default-clause-reason : goal.returns-in_default-clause-reason
returns-in_default-clause-reason c s held h =
    access_6 s held _ _ c.args.ledger.now h (sym c.is_miscounted.ensures ∙ c.if-is_miscounted.false) (sym c.find.ensures.found ∙ c.in_default.is)

pub returns-then-not-is_lane-clause-reason : goal.returns-then-not-is_lane-clause-reason
returns-then-not-is_lane-clause-reason c s held h =
    access_8 s held _ _ c.args.ledger.now h (sym c.is_miscounted.ensures ∙ c.if-is_miscounted.false)
    _ (sym c.find.ensures.found ∙ c.in-Some.is) _ (rw c.lanes.ensures at c.is_lane.ensures) c.if-not-is_lane.true

pub returns-then-not-ends_within-clause-reason : goal.returns-then-not-ends_within-clause-reason
returns-then-not-ends_within-clause-reason c s held h =
    access_end s held _ _ c.args.ledger.now h (sym c.is_miscounted.ensures ∙ c.if-is_miscounted.false)
    _ (sym c.find.ensures.found ∙ c.in-Some.is) _ (rw c.lanes.ensures at c.is_lane.ensures)
    false c.if-not-is_lane.false (sym c.if-not-ends_within.true ∙ rw c.columns_needed.ensures at c.ends_within.ensures)

pub returns-clause-reason : goal.returns-clause-reason
returns-clause-reason c s held h =
    access_end s held _ _ c.args.ledger.now h (sym c.is_miscounted.ensures ∙ c.if-is_miscounted.false)
    _ (sym c.find.ensures.found ∙ c.in-Some.is) _ (rw c.lanes.ensures at c.is_lane.ensures)
    true c.if-not-is_lane.false (sym c.if-not-ends_within.false ∙ rw c.columns_needed.ensures at c.ends_within.ensures)
