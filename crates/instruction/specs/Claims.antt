-- What is claimed of instruction descriptors beyond what each function does; proofs/Exact.antt and proofs/ListedN.antt have the proofs. Assumes nothing.
use Rattle.std.specs.Prelude.{ℕ, ◌^◌, ◌<◌, ◌≡◌, Bool, true, map}
use Rattle.laws.specs.Tests.{all, among}
use Rattle.instruction.specs.Instruction.{decoded, encoded, encoded_numbers, found, made, values, numbers, fields_read, good, n_listed, n_table, n_fits}
use Rattle.instruction.specs.declared.Kind.{Kind}
use Rattle.instruction.specs.Descriptor.{Instruction}
use Rattle.instruction.specs.declared.Fields.{Fields}

-- Under an opcode. Demand 2: what we write as a descriptor reads back the same, and no other word reads as it.
pub record InstructionExact (kind : Kind) (ws sp : Bool) : Type 0 where
  -- the word of a descriptor reads as the descriptor
  pub back : (d : Instruction) → (encoded kind ws sp d).reason ≡ 0 → decoded kind ws sp (encoded kind ws sp d).word ≡ found d
  -- a word that reads as a descriptor is the word of that descriptor
  pub word : (w : ℕ) (d : Instruction) → w < 2 ^ 32 → decoded kind ws sp w ≡ found d → encoded kind ws sp d ≡ made w
  -- so no two words read as one descriptor
  pub sole : (v w : ℕ) (d : Instruction)
      → v < 2 ^ 32 → w < 2 ^ 32 → decoded kind ws sp v ≡ found d → decoded kind ws sp w ≡ found d → v ≡ w
  -- the word of a descriptor is the word of its numbers
  pub as_numbers : (d : Instruction) → (encoded kind ws sp d).reason ≡ 0 → encoded_numbers kind ws sp (numbers d) ≡ encoded kind ws sp d
  -- the same of fields as numbers: the word of some numbers reads as those numbers, and no other word does
  pub fields_back : (f : Fields)
      → (encoded_numbers kind ws sp (values f)).reason ≡ 0 → fields_read (decoded kind ws sp (encoded_numbers kind ws sp (values f)).word) ≡ good f
  pub fields_word : (w : ℕ) (f : Fields) → w < 2 ^ 32 → fields_read (decoded kind ws sp w) ≡ good f → encoded_numbers kind ws sp (values f) ≡ made w

-- The rule of N and the lists of its numbers agree under every opcode.
pub record NExact : Type 0 where
  -- for N 0, 8, .. 504 the rule is true where the opcode's list has N, and false elsewhere
  pub listed : (kind : Kind) (ws sp : Bool) (n : ℕ) → n_fits n ≡ true → n_listed kind ws sp n ≡ among n (n_table kind ws sp)
  -- no list has another N
  pub table_fits : (kind : Kind) (ws sp : Bool) → all (map n_fits (n_table kind ws sp)) ≡ true
  -- fields with another N have no word
  pub fields_fit : (kind : Kind) (ws sp : Bool) (f : Fields) → (encoded_numbers kind ws sp (values f)).reason ≡ 0 → n_fits f.n ≡ true
  -- no word reads as a descriptor with another N
  pub word_fits : (kind : Kind) (ws sp : Bool) (w : ℕ) (d : Instruction) → w < 2 ^ 32 → decoded kind ws sp w ≡ found d → n_fits d.n ≡ true
