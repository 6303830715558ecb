-- A text that starts with the word of an opcode tells that opcode by a few bytes: antt computes it for the whole table. Assumes nothing.
use Prim.Native.Nat.{ℕ}
use mathlib.Core.Path.{◌≡◌, refl}
use mathlib.Core.List.{List, ◌++◌}
use Rattle.statement.specs.declared.Opcode.{Opcode}
use Rattle.statement.specs.Forms.{word}
use Rattle.statement.specs.Opcodes.{opcodes}
use Rattle.statement.proofs.Every.{every}
use Rattle.opcode.specs.Candidates.{candidate_in, tcgen05_in, mma_in, mma_of, kind_at, shape_of, num_in, shape_by, num_at}

pub leads : (o : Opcode) (rest : List ℕ) → candidate_in (word o ++ rest) ≡ o
leads o rest =
    every (λ p. candidate_in (word p ++ rest)) (λ p. p) (unfold word opcodes candidate_in tcgen05_in mma_in mma_of kind_at shape_of num_in shape_by num_at in refl) o
