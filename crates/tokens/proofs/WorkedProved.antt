-- The tables of worked tokens hold, by computation. Assumes nothing.
use mathlib.Core.Path.{refl}
use Rattle.tokens.specs.Numbers.{digit_of, spells, worth, is_number, value_of, fit, numeral_of}
use Rattle.tokens.specs.Worked.{Worked}

pub worked : Worked
unfolding digit_of spells worth is_number value_of fit numeral_of
worked = record { numbers_are = refl; reads_are = refl }
