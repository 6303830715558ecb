-- `places::is_blank` meets its contract, by its definition. Assumes nothing.
use Rattle.std.proofs.Common.{refl}
use Rattle.tokens.specs.Bytes.{blank}
use Rattle.places.proofs.is_blank.Goals as goal

pub returns : goal.returns
unfolding blank
returns c = refl
