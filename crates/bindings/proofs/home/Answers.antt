-- `bindings::home` meets its contract. Each remainder is at most 122, so that the sum fits. Assumes nothing.
use mathlib.Core.Path.{refl}
use native.Mathlib.Omega.{arith}
use Rattle.bindings.specs.Table.{home_of}
use Rattle.bindings.proofs.home.Goals as goal

pub returns : goal.returns
unfolding home_of
returns c = (refl, omega arith)
