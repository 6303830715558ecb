-- `expression::settle` meets its contract: what was read stopped, fits, or starts what is too large, unless something did before. Assumes nothing.
use lib.ListN.{drop}
use borrow.Author.Tests.{not-true, not-false}
use Rattle.tokens.specs.Cursors.{seen}
use Rattle.expression.specs.Expressions.{amount_seen}
use Rattle.expression.proofs.QuantityLaws.{settled-off, settled-fits, settled-over, far_first, far_here}
use Rattle.expression.proofs.settle.Goals as goal

pub returns-then-not-e : goal.returns-then-not-e
returns-then-not-e c = let a = c.args in
    let r = seen a.s.now a.k in
    let l = drop a.i a.s.now in
    let t = amount_seen a.s.now a.e in
    settled-off a.limit r l t (not-true _ c.if-not-e.true)

pub returns-then-fits : goal.returns-then-fits
returns-then-fits c = let a = c.args in
    let r = seen a.s.now a.k in
    let l = drop a.i a.s.now in
    let t = amount_seen a.s.now a.e in
    settled-fits a.limit r l t _ (not-false _ c.if-not-e.false) c.fits.ensures c.if-fits.true

pub returns-then-k : goal.returns-then-k
returns-then-k c = let a = c.args in
    let r = seen a.s.now a.k in
    let l = drop a.i a.s.now in
    let t = amount_seen a.s.now a.e in
    settled-over a.limit r l t _ _ (not-false _ c.if-not-e.false) c.fits.ensures c.if-fits.false (far_first a.limit r l t c.if-k.true)

pub returns : goal.returns
returns c = let a = c.args in
    let r = seen a.s.now a.k in
    let l = drop a.i a.s.now in
    let t = amount_seen a.s.now a.e in
    settled-over a.limit r l t _ _ (not-false _ c.if-not-e.false) c.fits.ensures c.if-fits.false (far_here a.limit r l t c.if-k.false)
