-- What is claimed of shared memory descriptors beyond what each function does; proofs/Exact.antt has the proof. Assumes nothing.
use Rattle.std.specs.Prelude.{ℕ, ◌^◌, ◌<◌, ◌≡◌}
use Rattle.shared_memory.specs.Shared.{decoded, encoded, found, made}
use Rattle.shared_memory.specs.declared.Shared.{Shared}

-- Demand 2: what we write as a descriptor reads back the same, and no other word reads as it.
pub record SharedExact : Type 0 where
  -- the word of a descriptor reads as the descriptor
  pub back : (d : Shared) → (encoded d).reason ≡ 0 → decoded (encoded d).word ≡ found d
  -- a word that reads as a descriptor is the word of that descriptor
  pub word : (w : ℕ) (d : Shared) → w < 2 ^ 64 → decoded w ≡ found d → encoded d ≡ made w
  -- so no two words read as one descriptor
  pub sole : (v w : ℕ) (d : Shared) → v < 2 ^ 64 → w < 2 ^ 64 → decoded v ≡ found d → decoded w ≡ found d → v ≡ w
