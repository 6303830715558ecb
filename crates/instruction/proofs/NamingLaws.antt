-- Descriptors and their numbers: a descriptor that keeps the rules is named by its own numbers, since a type of the kind is the one that its code
-- names; and numbers in range are those of the descriptor that they name, since a code names a type that has it. Assumes nothing.
use Prim.Native.Nat.{ℕ, ◌*◌, ◌≤◌}
use mathlib.Core.Path.{◌≡◌, refl, ap, sym, ◌∙◌, subst}
use mathlib.Core.Bool.{Bool, true, false, ◌&&◌, cond}
use mathlib.Core.List.{List}
use mathlib.Core.Option.{Option, none, some, some-injective, none-ne-some}
use native.Mathlib.Omega.{arith}
use lib.Dec.{eqb}
use borrow.Author.Tests.{eqb-true, eqb-false}
use Rattle.laws.specs.Tests.{all, bit}
use Rattle.laws.specs.Layout.{bits, ranges}
use Rattle.laws.proofs.BoolLaws.{and_split}
use Rattle.laws.proofs.TestLaws.{find-passes, Each, each}
use Rattle.laws.proofs.LayoutLaws.{Inside, within}
use Rattle.instruction.specs.Instruction.{layout, kind_number, kind_of, code, of_kind, elements, dtype_code, dtypes, dtype_of, element_of, values, numbers, filled, named3, named, rules}
use Rattle.instruction.specs.declared.Kind.{Kind}
use Rattle.instruction.specs.Descriptor.{Dtype, Element, Instruction}
use Rattle.instruction.specs.declared.Fields.{Fields}

-- the kind of a number
abbrev kind_at : ℕ → Kind
kind_at n = cond (eqb n 0) Kind.F16 (cond (eqb n 1) Kind.Tf32 (cond (eqb n 2) Kind.F8f6f4 Kind.I8))

kind_at_back : (k : Kind) → kind_at (kind_number k) ≡ k
kind_at_back Kind.F16 = refl
kind_at_back Kind.Tf32 = refl
kind_at_back Kind.F8f6f4 = refl
kind_at_back Kind.I8 = refl

-- a type that is of a kind has that kind
of_kind_lem : (kind : Kind) (t : Element) → of_kind kind t ≡ true → kind_of t ≡ kind
of_kind_lem kind t h = sym (kind_at_back (kind_of t)) ∙ ap kind_at (eqb-true (kind_number (kind_of t)) (kind_number kind) h) ∙ kind_at_back kind

-- the code of a type names the type
own_kind : (t : Element) → element_of (kind_of t) (code t) ≡ some t
own_kind Element.F16 = refl
own_kind Element.Bf16 = refl
own_kind Element.Tf32 = refl
own_kind Element.E4m3 = refl
own_kind Element.E5m2 = refl
own_kind Element.E2m3 = refl
own_kind Element.E3m2 = refl
own_kind Element.E2m1 = refl
own_kind Element.U8 = refl
own_kind Element.S8 = refl

own_element : (kind : Kind) (t : Element) → of_kind kind t ≡ true → element_of kind (code t) ≡ some t
own_element kind t h = subst (λ k. element_of k (code t) ≡ some t) (of_kind_lem kind t h) (own_kind t)

own_dtype : (d : Dtype) → dtype_of (dtype_code d) ≡ some d
own_dtype Dtype.F16 = refl
own_dtype Dtype.F32 = refl
own_dtype Dtype.S32 = refl

own_bit : (b : Bool) → eqb (bit b) 1 ≡ b
own_bit true = refl
own_bit false = refl

-- a code that names a type is the type's code
same_dtype : (c : ℕ) (d : Dtype) → dtype_of c ≡ some d → dtype_code d ≡ c
same_dtype c d e = sym (eqb-true c (dtype_code d) (find-passes (λ x. eqb c (dtype_code x)) dtypes d e))

same_element : (kind : Kind) (c : ℕ) (t : Element) → element_of kind c ≡ some t → code t ≡ c
same_element kind c t e =
    sym (eqb-true c (code t) (and_split (of_kind kind t) (eqb c (code t)) (find-passes (λ x. of_kind kind x && eqb c (code x)) elements t e)).1)

same_bit : (x : ℕ) → x ≤ 1 → bit (eqb x 1) ≡ x
same_bit x h = by_test (eqb x 1) refl
  where
    by_test : (b : Bool) → eqb x 1 ≡ b → bit (eqb x 1) ≡ x
    by_test true e = rw e (sym (eqb-true x 1 e))
    by_test false e = let n : x ≡ 1 → ⊥ = eqb-false x 1 e in rw e (omega arith)

-- a descriptor that keeps the rules is named by its numbers
pub own : (kind : Kind) (ws sp : Bool) (d : Instruction) → all (rules kind ws sp d) ≡ true → named kind (numbers d) ≡ some d
own kind ws sp d h =
    let e : Each (rules kind ws sp d) = each (rules kind ws sp d) h in
    rw (own_dtype d.dtype, own_element kind d.atype e.0, own_element kind d.btype e.1.0, own_bit d.sparse, own_bit d.saturate, own_bit d.anegate, own_bit d.bnegate, own_bit d.atranspose, own_bit d.btranspose)

-- the three types of a descriptor that is named
pub record Types (l : List ℕ) (x : Option Dtype) (y z : Option Element) (d : Instruction) : Type 0 where
  pub dtype : Dtype
  pub atype : Element
  pub btype : Element
  pub is_d : x ≡ some dtype
  pub is_a : y ≡ some atype
  pub is_b : z ≡ some btype
  pub is : filled l dtype atype btype ≡ d

types : (l : List ℕ) (x : Option Dtype) (y z : Option Element) (d : Instruction) → named3 l x y z ≡ some d → Types l x y z d
types l (some t) (some a) (some b) d e = record {
  dtype = t;
  atype = a;
  btype = b;
  is_d = refl;
  is_a = refl;
  is_b = refl;
  is = some-injective (filled l t a b) d e;
}
types l (some t) (some a) none d e = absurd (none-ne-some d e)
types l (some t) none z d e = absurd (none-ne-some d e)
types l none y z d e = absurd (none-ne-some d e)

-- numbers in range are those of the descriptor that they name
pub same : (kind : Kind) (f : Fields) (d : Instruction) → all (ranges layout (values f)) ≡ true → named kind (values f) ≡ some d → numbers d ≡ values f
same kind f d h e =
    let i : Inside layout (values f) = within layout (values f) h in
    let t : Types (values f) (dtype_of f.dtype) (element_of kind f.atype) (element_of kind f.btype) d =
    types (values f) (dtype_of f.dtype) (element_of kind f.atype) (element_of kind f.btype) d e in
    let j = i.1.1.1.1.1.1 in
    ap numbers (sym t.is)
    ∙ rw (same_dtype f.dtype t.dtype t.is_d, same_element kind f.atype t.atype t.is_a, same_element kind f.btype t.btype t.is_b, same_bit f.sparse i.1.0, same_bit f.saturate i.1.1.0, same_bit f.anegate j.0, same_bit f.bnegate j.1.0, same_bit f.atranspose j.1.1.0, same_bit f.btranspose j.1.1.1.0)

-- what a word says, as fields
abbrev pub fields_at : ℕ → Fields
fields_at w = record {
  selector = bits 0 1 w;
  sparse = bits 2 2 w;
  saturate = bits 3 3 w;
  dtype = bits 4 5 w;
  atype = bits 7 9 w;
  btype = bits 10 12 w;
  anegate = bits 13 13 w;
  bnegate = bits 14 14 w;
  atranspose = bits 15 15 w;
  btranspose = bits 16 16 w;
  n = bits 17 22 w * 8;
  m = bits 24 28 w * 16;
  shift = bits 30 31 w;
}
