-- `places::after_comma` meets its contract: by the byte at the head, as in the definition. Assumes nothing.
use Rattle.std.proofs.Common.{arith, refl, ◌∙◌}
use Rattle.places.proofs.Laws.{comma_here, comma_next, comma_none}
use Rattle.places.proofs.after_comma.Goals as goal

pub loop-x-init : goal.loop-x-init
loop-x-init c = refl

pub returns-then-x-inside : goal.returns-then-x-inside
returns-then-x-inside c = comma_here _ _ _ _ c.in-Some.ensures.cases.0 c.if-x-inside.true ∙ c.loop-x.invariant

pub loop-x-smaller : goal.loop-x-smaller
loop-x-smaller c = omega (arith, c.in-Some.ensures.cases.1)

pub loop-x-preserved : goal.loop-x-preserved
loop-x-preserved c = rw c.within-inside.ensures (comma_next _ _ _ _ c.in-Some.ensures.cases.0 c.if-x-inside.false ∙ c.loop-x.invariant)

pub returns : goal.returns
returns c = comma_none _ _ c.in_default.ensures.cases ∙ c.loop-x.invariant
