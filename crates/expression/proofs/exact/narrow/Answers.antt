-- `expression::exact::narrow` meets its contract: the two parts of a product by halves (ProductLaws.antt). Assumes nothing.
use native.Mathlib.Omega.{arith}
use Rattle.expression.proofs.ProductLaws.{high_part, low_part, over_by_halves, under_by_halves, is-over, is_under}
use Rattle.expression.proofs.exact.narrow.Goals as goal

pub overflow_mul-high : goal.overflow_mul-high
overflow_mul-high c = omega (arith, high_part c.args.x c.args.y c.ranges.x.fits c.requires)

pub overflow_mul-low : goal.overflow_mul-low
overflow_mul-low c = omega (arith, low_part c.args.x c.args.y c.ranges.x.fits c.requires)

pub overflow_add-carried : goal.overflow_add-carried
overflow_add-carried c = omega (arith, high_part c.args.x c.args.y c.ranges.x.fits c.requires, low_part c.args.x c.args.y c.ranges.x.fits c.requires)

pub returns-then-carried-ge-HALF : goal.returns-then-carried-ge-HALF
returns-then-carried-ge-HALF c = is-over _ _ (over_by_halves c.args.x c.args.y c.ranges.x.fits c.requires c.if-carried-ge-HALF.true)

pub overflow_mul-value : goal.overflow_mul-value
overflow_mul-value c = omega (arith, under_by_halves c.args.x c.args.y c.ranges.x.fits c.requires c.if-carried-ge-HALF.false)

pub returns : goal.returns
returns c = is_under _ _ (under_by_halves c.args.x c.args.y c.ranges.x.fits c.requires c.if-carried-ge-HALF.false)
