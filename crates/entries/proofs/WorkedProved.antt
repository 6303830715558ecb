-- The worked examples hold, by computation. Assumes nothing.
use mathlib.Core.Path.{refl}
use lib.Count.{ones, ones_in}
use Rattle.instruction.specs.Instruction as I
use Rattle.shared_memory.specs.Shared as S
use Rattle.entries.specs.Worked.{Worked}

pub worked : Worked
unfolding I.decoded I.encoded_numbers S.decoded S.encoded ones ones_in
worked = record {
  k = refl;
  code = refl;
  dtype = refl;
  types_fields = refl;
  types_word = refl;
  m_fields = refl;
  m_word = refl;
  n_fields = refl;
  n_word = refl;
  several_fields = refl;
  several_word = refl;
  flags_fields = refl;
  flags_word = refl;
  reads = refl;
  fixed = refl;
  range = refl;
  swizzle_fields = refl;
  swizzle_word = refl;
  shared_reads = refl;
  shared_fixed = refl;
  shared_range = refl;
  request = refl;
}
