-- `progress::advance` meets its contract: a refused line changes its number alone, an accepted one leads from after k lines to after k + 1. Assumes
-- nothing.
use mathlib.Core.Path.{ap}
use native.Mathlib.Omega.{arith}
use Rattle.lines.specs.Sheet.{content_seen}
use Rattle.progress.proofs.StepLaws.{part, content_is, warp_small}
use Rattle.progress.proofs.Going.{at_fault, refuses, accepts, counts}
use Rattle.progress.proofs.advance.Goals as goal

pub returns-in_default-clause-went : goal.returns-in_default-clause-went
returns-in_default-clause-went c = at_fault _ _ _ _ (ap (content_seen _) c.in_default.ensures)

pub slice_bounds-step-count : goal.slice_bounds-step-count
slice_bounds-step-count c = (part _ _ _ c.in-Some.ensures).0

pub slice_bounds-step-start : goal.slice_bounds-step-start
slice_bounds-step-start c = (part _ _ _ c.in-Some.ensures).0

pub slice_bounds-step-end : goal.slice_bounds-step-end
slice_bounds-step-end c = (part _ _ _ c.in-Some.ensures).1

pub step-requires : goal.step-requires
step-requires c = omega (arith, warp_small _ _ _ c.in-Some.ensures)

pub count-requires : goal.count-requires
count-requires c =
    counts _ _ _ c.args.p.now _ _ (content_is _ _ _ c.in-Some.ensures) c.step.new.books _ c.in-Ok.ensures.done c.requires

pub returns-in-Ok-clause-went : goal.returns-in-Ok-clause-went
returns-in-Ok-clause-went c =
    let t = c.count.ensures in
    accepts _ _ _ c.args.p.now _ _ (content_is _ _ _ c.in-Some.ensures) c.step.new.books _ c.in-Ok.ensures.done _ t.starts _ t.counted

pub returns-in-Err-clause-went : goal.returns-in-Err-clause-went
returns-in-Err-clause-went c =
    let r = c.in-Err.ensures in
    refuses _ _ _ c.args.p.now _ _ (content_is _ _ _ c.in-Some.ensures) c.step.new.books _ r.done r.column
