-- Words of opcodes. A word is recognised as an opcode exactly where it is that opcode's; antt computes for each that its word is no other's before it,
-- and that it has opcode bytes alone. Assumes nothing.
use Rattle.std.specs.Prelude.{Some}
use Prim.Native.Nat.{ℕ}
use mathlib.Core.Path.{◌≡◌, refl}
use mathlib.Core.List.{List}
use mathlib.Core.Bool.{true}
use mathlib.Core.Option as search
use native.Mathlib.Omega.{arith}
use Rattle.laws.specs.Tests.{find}
use Rattle.laws.proofs.TestLaws.{find-passes}
use Rattle.tokens.specs.Bytes.{same_bytes, letter, opcode_byte, all}
use Rattle.tokens.proofs.Bytes.{same_eq}
use Rattle.statement.specs.declared.Opcode.{Opcode}
use Rattle.statement.specs.Forms.{word}
use Rattle.statement.specs.Opcodes.{opcodes, found_by, recognise}
use Rattle.statement.proofs.Every.{every}

-- ---- recognising
pub recognised : (o : Opcode) → recognise (word o) ≡ Some o
recognised = every (λ o. recognise (word o)) Some (unfold word recognise opcodes in refl)

found_some : (x : search.Option Opcode) (o : Opcode) → found_by x ≡ Some o → x ≡ search.some o
found_some search.none o h = absurd (let z : ◌≡◌ {A = ℕ} 0 1 = cc in omega arith)
found_some (search.some p) o h = cc

pub recognises : (w : List ℕ) (o : Opcode) → recognise w ≡ Some o → w ≡ word o
unfolding recognise
recognises w o h = same_eq w (word o) (find-passes (λ p. same_bytes w (word p)) opcodes o (found_some (find (λ p. same_bytes w (word p)) opcodes) o h))

-- ---- a word has opcode bytes alone
pub clean : (o : Opcode) → all opcode_byte (word o) ≡ true
clean = every (λ o. all opcode_byte (word o)) (λ o. true) (unfold word opcodes opcode_byte letter in refl)
