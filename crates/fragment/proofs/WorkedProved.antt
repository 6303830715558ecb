-- The worked examples hold, by computation. Assumes nothing.
use mathlib.Core.Path.{refl}
use Rattle.fragment.specs.Fragment.{table_of, place_read, holder_read, holder_of}
use Rattle.fragment.specs.Worked.{Worked}

pub worked : Worked
unfolding table_of place_read holder_read holder_of
worked = record { sizes = refl; by_thread = refl; by_place = refl }
