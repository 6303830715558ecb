-- `places::after_commas` meets its contract: one comma fewer is left, or no byte is. Assumes nothing.
use Rattle.std.proofs.Common.{arith, ◌≡◌, ◌-◌, sym, ◌∙◌}
use borrow.Author.Tests.{eqb-true}
use Rattle.places.proofs.Laws.{commas_next, commas_empty, commas_done}
use Rattle.places.proofs.after_commas.Goals as goal

pub loop-init : goal.loop-init
loop-init c = let z : c.args.count - 0 ≡ c.args.count = omega arith in rw z

pub returns-then-is_empty : goal.returns-then-is_empty
returns-then-is_empty c = commas_empty c.loop.rest.now _ (eqb-true _ _ (sym c.is_empty.ensures ∙ c.if-is_empty.true)) ∙ c.loop.invariant

pub loop-preserved : goal.loop-preserved
loop-preserved c = commas_next c.loop.rest.now _ c.args.count c.loop.counter c.loop-test.true c.after_comma-rest.ensures ∙ c.loop.invariant

pub returns : goal.returns
returns c = commas_done c.loop.rest.now _ (omega (arith, c.loop-test.false)) ∙ c.loop.invariant
