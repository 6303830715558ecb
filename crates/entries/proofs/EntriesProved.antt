-- The entries hold, by computation. Assumes nothing.
use mathlib.Core.Path.{refl}
use lib.Count.{ones, ones_in}
use Rattle.instruction.specs.Instruction as I
use Rattle.shared_memory.specs.Shared as S
use Rattle.entries.specs.Entries.{Each, table}

pub entries : Each table
unfolding I.decoded I.encoded S.decoded S.encoded ones ones_in
entries =
    ((refl, refl, refl), ((refl, refl, refl), ((refl, refl, refl), ((refl, refl, refl), ((refl, refl), ((refl, refl, refl), ((refl, refl, refl), ((refl, refl, refl), (refl, (refl, (refl, (refl, (refl, tt)))))))))))))
