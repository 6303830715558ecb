-- The rules and the run: of accepted lines both keep the same names, lengths, numbers and loads and stores outstanding, whatever the starts. So the run does each accepted line
-- but a request whose start may not be used. Assumes nothing.
use Rattle.std.specs.Prelude.{Some, None}
use Prim.Native.Nat.{ℕ, zero, suc, ◌+◌, ◌*◌, ◌/◌, ◌%◌, ◌≤◌, ◌<◌}
use mathlib.Core.Path.{◌≡◌, refl, sym, ap, ◌∙◌, subst}
use mathlib.Core.Bool.{Bool, true, false, not, ◌&&◌, ◌||◌, cond}
use mathlib.Core.List.{List, [], ◌∷◌, ◌++◌}
use mathlib.Core.Option.{Option, none, some}
use mathlib.Core.Logic.{◌⊎◌, inl, inr}
use native.Mathlib.Omega.{arith}
use lib.Dec.{leb, eqb}
use lib.ListN.{get_or}
use borrow.Author.Tests.{not-true, leb-true, le-leb, eqb-true, eq-eqb}
use Rattle.laws.specs.Tests.{all, is_some}
use Rattle.laws.specs.Layout.{says, stands}
use Rattle.laws.specs.Format.{kept}
use Rattle.laws.proofs.TestLaws.{each}
use Rattle.tokens.specs.declared.Name.{Name}
use Rattle.tokens.specs.Names.{same_name}
use Rattle.instruction.specs.declared.Kind.{Kind}
use Rattle.instruction.specs.Descriptor.{Dtype, Element, Instruction}
use Rattle.instruction.specs.Instruction as instruction
use Rattle.statement.specs.Forms.{Metadata}
use Rattle.statement.specs.declared.Address.{Address}
use Rattle.statement.specs.declared.Operand.{Operand}
use Rattle.statement.specs.declared.Operand.TheVariants as operand
use Rattle.statement.specs.declared.Mma.{Mma}
use Rattle.statement.specs.declared.Shape.{Shape}
use Rattle.statement.specs.declared.Shape.TheVariants.{S32x32, S16x64, S16x128, S16x256}
use Rattle.statement.specs.declared.Transfer.{Transfer}
use Rattle.statement.specs.declared.Access.{Access}
use Rattle.statement.proofs.Each.{each_act}
use Rattle.statement.specs.declared.Statement.{Statement}
use Rattle.statement.specs.Canonical.{sparse}
use Rattle.statement.specs.Views as act
use Rattle.statement.specs.Views.{Act, act_of, request_in, exit_in, of}
use Rattle.statement.specs.Cells as cells
use Rattle.rules.specs.Rows.{outcomes}
use Rattle.rules.specs.State as s
use Rattle.rules.specs.State.{State, Allocation, Binding, Placer}
use Rattle.rules.specs.Reasons as reasons
use Rattle.rules.specs.Sheet.{Line, turn_of, act_in, Placing, line_rules, line_effect, added, effect, held_after, state_by, rules_by}
use Rattle.rules.specs.Claims.{AllKept}
use Rattle.rules.proofs.RulesProved.{no_more}
use Rattle.laws.proofs.BoolLaws.{and_l, and_r, or_cases, clash}
use Rattle.rules.proofs.OutstandingProved.{starts as sets, stops as ends, marked_next}
use Rattle.rules.proofs.RuleLaws.{Accepted, accepted_line, request-kept, requests-kept, releases-kept, accesses-kept, multiplies-kept, exits-kept}
use Rattle.tokens.proofs.Names.{same_true}
use Rattle.run.specs.Run as run
use Rattle.run.specs.Run.{Holding, Region, region, Run, Phase, going, stopped_at, exited, ended, n_of, or_zero, has, has_name, has_both, without, lies, all_lie, booked_by, operand_regions, metadata_regions, known, start_at, may_use, held_columns, begun, waited_for, forgotten, able, done, in_phase, go, after}
use Rattle.run.proofs.Sound.{total, Sound, counted}

-- ---- holdings and allocations
-- the same names and lengths, in the same order
abbrev pub Alike : List Allocation → List Holding → Type 0
Alike [] [] = Unit {0}
Alike [] (h ∷ b) = ⊥
Alike (g ∷ a) [] = ⊥
Alike (g ∷ a) (h ∷ b) = (g.name ≡ h.name) × (g.columns ≡ h.length) × Alike a b

pub live_alike : (n : Name) (a : List Allocation) (b : List Holding) → Alike a b → s.is_live n a ≡ has (has_name n) b
unfolding s.is_live has has_name
live_alike n [] [] e = refl
live_alike n [] (h ∷ b) e = absurd e
live_alike n (g ∷ a) [] e = absurd e
live_alike n (g ∷ a) (h ∷ b) e = rw (e.0, live_alike n a b e.2)

-- the length of the holding of a name
unfoldable pub length_of : Name → List Holding → ℕ
length_of n [] = 0
length_of n (h ∷ l) = cond (same_name h.name n) h.length (length_of n l)

pub length_alike : (n : Name) (a : List Allocation) (b : List Holding) → Alike a b → s.columns_of n a ≡ length_of n b
unfolding s.columns_of length_of
length_alike n [] [] e = refl
length_alike n [] (h ∷ b) e = absurd e
length_alike n (g ∷ a) [] e = absurd e
length_alike n (g ∷ a) (h ∷ b) e = rw (e.0, e.1, length_alike n a b e.2)

pub total_alike : (a : List Allocation) (b : List Holding) → Alike a b → s.total a ≡ total b
unfolding s.total total
total_alike [] [] e = refl
total_alike [] (h ∷ b) e = absurd e
total_alike (g ∷ a) [] e = absurd e
total_alike (g ∷ a) (h ∷ b) e = rw (e.1, total_alike a b e.2)

without_alike : (n : Name) (a : List Allocation) (b : List Holding) → Alike a b → Alike (s.without n a) (without (has_name n) b)
unfolding s.without without has_name
without_alike n [] [] e = tt
without_alike n [] (h ∷ b) e = absurd e
without_alike n (g ∷ a) [] e = absurd e
without_alike n (g ∷ a) (h ∷ b) e = at (same_name g.name n) (same_name h.name n) (ap (λ m. same_name m n) e.0) (without_alike n a b e.2)
  where
    at : (t u : Bool) → t ≡ u → Alike (s.without n a) (without (has_name n) b) → Alike (cond t a (g ∷ s.without n a)) (cond u b (h ∷ without (has_name n) b))
    at true true q ih = e.2
    at true false q ih = absurd (clash refl q)
    at false true q ih = absurd (clash refl (sym q))
    at false false q ih = (e.0, e.1, ih)

-- the one of a name is the one of that name and its length
pub both : (n : Name) (l : List Holding) → has (has_name n) l ≡ true
    → (has (has_both n (length_of n l)) l ≡ true) × (without (has_both n (length_of n l)) l ≡ without (has_name n) l)
unfolding has has_name has_both length_of without
both n [] e = absurd (clash e refl)
both n (h ∷ l) e = at (same_name h.name n) e (both n l)
  where
    at : (t : Bool) → t || has (has_name n) l ≡ true
        → (has (has_name n) l ≡ true → (has (has_both n (length_of n l)) l ≡ true) × (without (has_both n (length_of n l)) l ≡ without (has_name n) l))
        → ((t && eqb h.length (cond t h.length (length_of n l))) || has (has_both n (cond t h.length (length_of n l))) l ≡ true)
        × (cond (t && eqb h.length (cond t h.length (length_of n l))) l (h ∷ without (has_both n (cond t h.length (length_of n l))) l) ≡ cond t l (h ∷ without (has_name n) l))
    at true e ih = rw (eq-eqb h.length h.length refl) (refl, refl)
    at false e ih = ((ih e).0, ap (λ m. h ∷ m) (ih e).1)

-- ---- numbers
-- the number bound to a name, if one is
unfoldable pub lookup : Name → List Binding → Option ℕ
lookup n [] = none
lookup n (b ∷ l) = cond (same_name b.name n) (some b.number) (lookup n l)

cond_again : {A : Type 0} (t : Bool) (x y z : A) → cond t x (cond t y z) ≡ cond t x z
cond_again true x y z = refl
cond_again false x y z = refl

cond_swap : {A : Type 0} (t u : Bool) (x y z : A) → (t ≡ true → u ≡ true → ⊥) → cond t x (cond u y z) ≡ cond u y (cond t x z)
cond_swap true true x y z h = absurd (h refl refl)
cond_swap true false x y z h = refl
cond_swap false true x y z h = refl
cond_swap false false x y z h = refl

-- a bound name has the new number, another the old one
pub lookup_bind : (m : Name) (b : Binding) (l : List Binding) → lookup m (s.bind b l) ≡ cond (same_name b.name m) (some b.number) (lookup m l)
unfolding lookup s.bind
lookup_bind m b [] = refl
lookup_bind m b (c ∷ l) = at (same_name c.name b.name) refl (lookup_bind m b l)
  where
    apart : same_name c.name b.name ≡ false → same_name c.name m ≡ true → same_name b.name m ≡ true → ⊥
    apart z p q = clash (subst (λ k. same_name c.name k ≡ true) (sym (same_true b.name m q)) p) z

    at : (t : Bool) → same_name c.name b.name ≡ t → lookup m (s.bind b l) ≡ cond (same_name b.name m) (some b.number) (lookup m l)
        → lookup m (cond t (b ∷ l) (c ∷ s.bind b l)) ≡ cond (same_name b.name m) (some b.number) (cond (same_name c.name m) (some c.number) (lookup m l))
    at true z ih =
        let q : same_name c.name m ≡ same_name b.name m = ap (λ k. same_name k m) (same_true c.name b.name z) in
        sym (ap (λ u. cond (same_name b.name m) (some b.number) (cond u (some c.number) (lookup m l))) q
        ∙ cond_again (same_name b.name m) (some b.number) (some c.number) (lookup m l))
    at false z ih =
        ap (λ o. cond (same_name c.name m) (some c.number) o) ih
        ∙ cond_swap (same_name c.name m) (same_name b.name m) (some c.number) (some b.number) (lookup m l) (apart z)

-- a value of some width has its number
pub lookup_some : (n : Name) (l : List Binding) → 0 < s.width_of n l → lookup n l ≡ some (s.number_of n l)
unfolding lookup s.width_of s.number_of
lookup_some n [] p = absurd (omega (arith, p))
lookup_some n (b ∷ l) p = at (same_name b.name n) p (lookup_some n l)
  where
    at : (t : Bool) → 0 < cond t b.width (s.width_of n l) → (0 < s.width_of n l → lookup n l ≡ some (s.number_of n l))
        → cond t (some b.number) (lookup n l) ≡ some (cond t b.number (s.number_of n l))
    at true p ih = refl
    at false p ih = ih p

-- ---- N
n_named : (rules : Instruction → Bool) (l : List ℕ) (x : Option Dtype) (y z : Option Element)
    → (kept rules instruction.found instruction.no_descriptor (instruction.named3 l x y z)).reason ≡ 0
    → (kept rules instruction.found instruction.no_descriptor (instruction.named3 l x y z)).descriptor.n ≡ get_or l 10 0
n_named rules l (some d) (some a) (some b) e = at (rules (instruction.filled l d a b)) e
  where
    at : (t : Bool) → (cond t (instruction.found (instruction.filled l d a b)) instruction.no_descriptor).reason ≡ 0
        → (cond t (instruction.found (instruction.filled l d a b)) instruction.no_descriptor).descriptor.n ≡ get_or l 10 0
    at true e = refl
    at false e = absurd (omega (arith, e))
n_named rules l (some d) (some a) none e = absurd (omega (arith, e))
n_named rules l (some d) none z e = absurd (omega (arith, e))
n_named rules l none y z e = absurd (omega (arith, e))

-- the N of a word that reads stands in its bits 17 to 22
pub n_is : (kind : Kind) (ws sp : Bool) (w : ℕ) → (instruction.decoded kind ws sp w).reason ≡ 0 → (instruction.decoded kind ws sp w).descriptor.n ≡ n_of w
unfolding instruction.decoded n_of
n_is kind ws sp w e = at (all (stands instruction.layout w)) e
  where
    at : (t : Bool) → (cond t (kept (λ d. all (instruction.rules kind ws sp d)) instruction.found instruction.no_descriptor (instruction.named kind (says instruction.layout w))) instruction.no_descriptor).reason ≡ 0
        → (cond t (kept (λ d. all (instruction.rules kind ws sp d)) instruction.found instruction.no_descriptor (instruction.named kind (says instruction.layout w))) instruction.no_descriptor).descriptor.n ≡ w / 131072 % 64 * 8
    at true e = n_named (λ d. all (instruction.rules kind ws sp d)) (says instruction.layout w) (instruction.dtype_of (get_or (says instruction.layout w) 3 0)) (instruction.element_of kind (get_or (says instruction.layout w) 4 0)) (instruction.element_of kind (get_or (says instruction.layout w) 5 0)) e
    at false e = absurd (omega (arith, e))

-- ---- accesses
-- an access of a live allocation, below lane 128 and up to its last column, lies in the holding of its name
pub lies_in : (x : Region) (a : List Allocation) (b : List Holding)
    → Alike a b → s.is_live x.name a ≡ true → x.lane + x.lanes ≤ 128 → x.column + x.columns ≤ s.columns_of x.name a → has (lies x) b ≡ true
unfolding s.is_live s.columns_of has lies
lies_in x [] b e p q r = absurd (clash p refl)
lies_in x (g ∷ a) [] e p q r = absurd e
lies_in x (g ∷ a) (h ∷ b) e p q r =
    at (same_name g.name x.name) (same_name h.name x.name) (ap (λ n. same_name n x.name) e.0) p r (lies_in x a b e.2)
  where
    at : (t u : Bool) → t ≡ u → t || s.is_live x.name a ≡ true → x.column + x.columns ≤ cond t g.columns (s.columns_of x.name a)
        → (s.is_live x.name a ≡ true → x.lane + x.lanes ≤ 128 → x.column + x.columns ≤ s.columns_of x.name a → has (lies x) b ≡ true)
        → (u && (leb (x.lane + x.lanes) 128 && leb (h.start + x.column + x.columns) (h.start + h.length))) || has (lies x) b ≡ true
    at true true z p r ih = rw (le-leb (x.lane + x.lanes) 128 q, le-leb (h.start + x.column + x.columns) (h.start + h.length) (omega (arith, e.1, r)))
    at true false z p r ih = absurd (clash refl z)
    at false true z p r ih = absurd (clash refl (sym z))
    at false false z p r ih = ih p q r

-- 16 or 32 lanes
lanes_most : (w lane : ℕ) (h : Shape) → w < 4 → eqb lane (32 * w) || (eqb (cells.lanes_for h) 16 && eqb lane (32 * w + 16)) ≡ true → lane + cells.lanes_for h ≤ 128
unfolding cells.lanes_for
lanes_most w lane h p e = at (or_cases (eqb lane (32 * w)) (eqb (cells.lanes_for h) 16 && eqb lane (32 * w + 16)) e)
  where
    most : (g : Shape) → cells.lanes_for g ≤ 32
    most S32x32 = omega arith
    most S16x64 = omega arith
    most S16x128 = omega arith
    most S16x256 = omega arith

    at : (eqb lane (32 * w) ≡ true) ⊎ (eqb (cells.lanes_for h) 16 && eqb lane (32 * w + 16) ≡ true) → lane + cells.lanes_for h ≤ 128
    at (inl q) = omega (arith, eqb-true lane (32 * w) q, most h, p)
    at (inr q) =
        omega (
          arith,
          eqb-true (cells.lanes_for h) 16 (and_l (eqb (cells.lanes_for h) 16) (eqb lane (32 * w + 16)) q),
          eqb-true lane (32 * w + 16) (and_r (eqb (cells.lanes_for h) 16) (eqb lane (32 * w + 16)) q),
          p,
        )

-- what the rules say of a ld or st
pub access-lies : (st : State) (w : ℕ) (a : Access) (b : List Holding)
    → Alike st.live b → w < 4
    → s.is_live a.address.base st.live ≡ true
    → reasons.lane_of_warp w a ≡ true
    → reasons.ends st a.address (cells.columns_for a.shape a.num) ≡ true
    → has (lies (region a.address (cells.lanes_for a.shape) (cells.columns_for a.shape a.num))) b ≡ true
unfolding reasons.lane_of_warp
access-lies st w a b e p n l c =
    lies_in (region a.address (cells.lanes_for a.shape) (cells.columns_for a.shape a.num)) st.live b e n
    (lanes_most w (reasons.lane_of a.address) a.shape p l)
    (leb-true (reasons.column_of a.address + cells.columns_for a.shape a.num) (s.columns_of a.address.base st.live) c)

-- what they say of an operand of an mma
mma-lies : (st : State) (x : Address) (columns : ℕ) (b : List Holding)
    → Alike st.live b → s.is_live x.base st.live ≡ true → reasons.mma_ends st x columns ≡ true → has (lies (region x 128 columns)) b ≡ true
mma-lies st x columns b e n m =
    let lane : reasons.lane_of x ≡ 0 = eqb-true (reasons.lane_of x) 0 (and_l (eqb (reasons.lane_of x) 0) (reasons.ends st x columns) m) in
    lies_in (region x 128 columns) st.live b e n (omega (arith, lane))
    (leb-true (reasons.column_of x + columns) (s.columns_of x.base st.live) (and_r (eqb (reasons.lane_of x) 0) (reasons.ends st x columns) m))

all_lie-cons : (x : Region) (xs : List Region) (b : List Holding) → has (lies x) b ≡ true → all_lie xs b ≡ true → all_lie (x ∷ xs) b ≡ true
unfolding all_lie
all_lie-cons x xs b p q = rw (p, q)

all_lie-none : (b : List Holding) → all_lie [] b ≡ true
unfolding all_lie
all_lie-none b = refl

metadata_lies : (st : State) (m : Metadata) (b : List Holding)
    → Alike st.live b → reasons.metadata_named st m ≡ true → reasons.metadata_ends st m ≡ true → all_lie (metadata_regions m) b ≡ true
metadata_lies st None b e n i = all_lie-none b
metadata_lies st (Some x) b e n i = all_lie-cons (region x 128 2) [] b (mma-lies st x 2 b e n i) (all_lie-none b)

operand-lies : (st : State) (a : Operand) (xs : List Region) (b : List Holding)
    → Alike st.live b → reasons.operand_named st a ≡ true → reasons.operand_ends st a ≡ true → all_lie xs b ≡ true → all_lie (operand_regions a ++ xs) b ≡ true
operand-lies st (operand.Descriptor n) xs b e n' i r = r
operand-lies st (operand.Address x) xs b e n i r = all_lie-cons (region x 128 8) xs b (mma-lies st x 8 b e n i) r

-- ---- the rules beside the run
pub record Agree (st : State) (r : Run) : Type 0 where
  pub alike : Alike st.live r.live
  pub numbers : (n : Name) → run.number_of n r.notes ≡ lookup n st.values
  pub noted : (n : Name) (w : ℕ) (x : Transfer) → r.pending n w x ≡ s.is_marked n w x st.outstanding
  pub open' : st.exited ≡ false
  pub goes : r.phase ≡ going

-- nothing is asked for, or the start may be used for it
unfoldable pub free_for : List Holding → Act → Option ℕ → Bool
free_for l t o = of (request_in t) (λ r. may_use l r.columns o) true

-- what the rules say of an mma
module _ (st : State) (m : Mma) (names : all (outcomes (reasons.mma_named st m)) ≡ true) where
  -- the number under idesc
  idesc_is : (r : Run) → Agree st r → run.number_of m.idesc r.notes ≡ some (s.number_of m.idesc st.values)
  idesc_is r g =
      let e = each (outcomes (reasons.mma_named st m)) names in
      let width : s.width_of m.idesc st.values ≡ 32 = eqb-true (s.width_of m.idesc st.values) 32 e.1.1.1.1.0 in
      g.numbers m.idesc ∙ lookup_some m.idesc st.values (omega (arith, width))

  module _ (words : all (outcomes (reasons.mma_reads st m)) ≡ true) (ends : all (outcomes (reasons.all_end st m)) ≡ true) where
    mma_n : (reasons.instruction_of st m).descriptor.n ≡ n_of (s.number_of m.idesc st.values)
    unfolding reasons.instruction_of
    mma_n =
        n_is m.kind m.ws (sparse m.metadata) (s.number_of m.idesc st.values)
        (eqb-true (instruction.decoded m.kind m.ws (sparse m.metadata) (s.number_of m.idesc st.values)).reason 0 (each (outcomes (reasons.mma_reads st m)) words).1.1.0)

    mma-all : (r : Run) → Agree st r
        → all_lie (region m.d 128 (n_of (s.number_of m.idesc st.values)) ∷ (operand_regions m.a ++ metadata_regions m.metadata)) r.live ≡ true
    mma-all r g =
        let n = each (outcomes (reasons.mma_named st m)) names in
        let i = each (outcomes (reasons.all_end st m)) ends in
        let v = n_of (s.number_of m.idesc st.values) in
        all_lie-cons (region m.d 128 v) (operand_regions m.a ++ metadata_regions m.metadata) r.live
        (mma-lies st m.d v r.live g.alike n.0 (subst (λ c. reasons.mma_ends st m.d c ≡ true) mma_n i.0))
        (operand-lies st m.a (metadata_regions m.metadata) r.live g.alike n.1.0 i.1.0
        (metadata_lies st m.metadata r.live g.alike n.1.1.1.0 i.1.1.0))

one_lies : (x : Region) (b : List Holding) → has (lies x) b ≡ true → all_lie (x ∷ []) b ≡ true
one_lies x b e = all_lie-cons x [] b e (all_lie-none b)

-- a dealloc names a holding of that length
pub dealloc-both : (st : State) (r : Run) (n : Name) (v : ℕ) → (s.is_live n st.live ≡ true) × (s.columns_of n st.live ≡ v) → Agree st r
    → (has (has_both n v) r.live ≡ true) × (without (has_both n v) r.live ≡ without (has_name n) r.live)
dealloc-both st r n v k g =
    let live : has (has_name n) r.live ≡ true = sym (live_alike n st.live r.live g.alike) ∙ k.0 in
    let size : length_of n r.live ≡ v = sym (length_alike n st.live r.live g.alike) ∙ k.1 in
    subst (λ x. (has (has_both n x) r.live ≡ true) × (without (has_both n x) r.live ≡ without (has_name n) r.live)) size (both n r.live live)

-- of a line that breaks no rule, the run does all but a request whose start may not be used
pub able-is : (starts : List ℕ) (place : Placer) (st : State) (r : Run) (held w : ℕ) (t : Statement)
    → w < 4 → held ≡ s.total st.live → Accepted place st held w t → Agree st r → Sound r → able starts r (act_of t) ≡ free_for r.live (act_of t) (start_at starts r.requests)
unfolding able free_for booked_by known all_lie
able-is starts place st r held w t p q a g d = at (act_of t) refl
  where
    at : (x : Act) → act_of t ≡ x → able starts r x ≡ free_for r.live x (start_at starts r.requests)
    at (act.binds n width v) e = refl
    at (act.requests n v) e =
        let k = requests-kept place st held w t a n v e in
        let f : has (has_name n) r.live ≡ false = sym (live_alike n st.live r.live g.alike) ∙ not-true (s.is_live n st.live) (and_l (not (s.is_live n st.live)) (not (s.is_bound n st.values)) k) in
        rw f
    at (act.releases n v) e = (dealloc-both st r n v (releases-kept place st held w t a n v e) g).0
    at act.relinquishes e = refl
    at (act.waits y) e = refl
    at (act.accesses y x) e =
        let k = accesses-kept place st held w t a y x e in
        one_lies (region x.address (cells.lanes_for x.shape) (cells.columns_for x.shape x.num)) r.live (access-lies st w x r.live g.alike p k.0 k.1 k.2)
    at (act.multiplies m) e =
        let k = multiplies-kept place st held w t a m e in
        rw (idesc_is st m k.0 r g) (mma-all st m k.0 k.1 k.2 r g)
    at act.exits e =
        eq-eqb (held_columns r.live) 0
        (omega (arith, counted r.live d.low d.apart, total_alike st.live r.live g.alike, q, exits-kept place st held w t a (ap exit_in e)))
    at act.nothing e = refl

-- ---- in each phase of the run
abbrev pub Follows : Phase → State → Run → Type 0
Follows going st r = Agree st r
Follows (stopped_at l) st r = Unit {0}
Follows exited st r = (st.exited ≡ true) × Alike st.live r.live
Follows ended st r = ⊥

stays : (st : State) (r : Run) → Agree st r → Follows r.phase st r
stays st r g = subst (λ p. Follows p st r) (sym g.goes) g

-- an allocation and a holding are added alike, whatever their starts
added_alike : (n : Name) (v start : ℕ) (o : Option ℕ) (a : List Allocation) (b : List Holding)
    → is_some o ≡ true → Alike a b → Alike (added n v o a) (record { name = n; start = start; length = v } ∷ b)
added_alike n v start none a b e g = absurd (clash e refl)
added_alike n v start (some x) a b e g = (refl, refl, g)

-- mov notes the number that it binds
noted_alike : (st : State) (r : Run) (n m : Name) (width v : ℕ) → Agree st r
    → run.number_of m (record { name = n; number = v } ∷ r.notes) ≡ lookup m (s.bind (record { name = n; width = width; number = v }) st.values)
unfolding run.number_of
noted_alike st r n m width v g =
    ap (λ o. cond (same_name n m) (some v) o) (g.numbers m) ∙ sym (lookup_bind m (record { name = n; width = width; number = v }) st.values)

-- both make the same of what is outstanding: it is set by its own line, and ended by a wait or a dealloc
pub pending_next : (starts : List ℕ) (r : Run) (v : ℕ) (n : Name) (w : ℕ) (x : Transfer) (a : Act)
    → (done starts r v a).pending n w x ≡ sets a v n w x || (not (ends a v n w x) && r.pending n w x)
unfolding done begun waited_for forgotten
pending_next starts r v n w x a = each_act (λ a. (done starts r v a).pending n w x ≡ sets a v n w x || (not (ends a v n w x) && r.pending n w x)) a search

pending_alike : (starts : List ℕ) (place : Placer) (st : State) (r : Run) (v : ℕ) (a : Act) → Agree st r → (n : Name) (w : ℕ) (x : Transfer)
    → (done starts r v a).pending n w x ≡ s.is_marked n w x (effect place st v a).outstanding
pending_alike starts place st r v a g n w x =
    pending_next starts r v n w x a ∙ ap (λ b. sets a v n w x || (not (ends a v n w x) && b)) (g.noted n w x) ∙ sym (marked_next n w x place st v a)

does : (starts : List ℕ) (place : Placer) (st : State) (r : Run) (held w : ℕ) (t : Statement)
    → Accepted place st held w t → Agree st r → Follows (done starts r w (act_of t)).phase (effect place st w (act_of t)) (done starts r w (act_of t))
unfolding done effect
does starts place st r held w t a g = at (act_of t) refl
  where
    noted : (x : Act) (n : Name) (v : ℕ) (y : Transfer) → (done starts r w x).pending n v y ≡ s.is_marked n v y (effect place st w x).outstanding
    noted x = pending_alike starts place st r w x g

    at : (x : Act) → act_of t ≡ x → Follows (done starts r w x).phase (effect place st w x) (done starts r w x)
    at (act.binds n width v) e = record { alike = g.alike; numbers = λ m. noted_alike st r n m width v g; noted = noted (act.binds n width v); open' = g.open'; goes = refl }
    at (act.requests n v) e =
        let k = request-kept place st held w t a (record { name = n; columns = v }) (ap request_in e) in
        record {
          alike = added_alike n v (or_zero (start_at starts r.requests)) (place st.live v) st.live r.live k.1 g.alike;
          numbers = g.numbers;
          noted = noted (act.requests n v);
          open' = g.open';
          goes = refl;
        }
    at (act.releases n v) e =
        let k = dealloc-both st r n v (releases-kept place st held w t a n v e) g in
        record {
          alike = subst (λ l. Alike (s.without n st.live) l) (sym k.1) (without_alike n st.live r.live g.alike);
          numbers = g.numbers;
          noted = noted (act.releases n v);
          open' = g.open';
          goes = refl;
        }
    at act.relinquishes e =
        subst (λ p. Follows p (effect place st w act.relinquishes) r) (sym g.goes) (record { alike = g.alike; numbers = g.numbers; noted = g.noted; open' = g.open'; goes = g.goes })
    at (act.accesses y x) e =
        subst (λ p. Follows p (effect place st w (act.accesses y x)) (done starts r w (act.accesses y x))) (sym g.goes)
        (record { alike = g.alike; numbers = g.numbers; noted = noted (act.accesses y x); open' = g.open'; goes = g.goes })
    at (act.waits y) e =
        subst (λ p. Follows p (effect place st w (act.waits y)) (done starts r w (act.waits y))) (sym g.goes)
        (record { alike = g.alike; numbers = g.numbers; noted = noted (act.waits y); open' = g.open'; goes = g.goes })
    at (act.multiplies m) e = stays st r g
    at act.exits e = (refl, g.alike)
    at act.nothing e = stays st r g

-- ---- lines
pub able_line : (starts : List ℕ) (place : Placer) (st : State) (r : Run) (held : ℕ) (x : Line) → held ≡ s.total st.live → AllKept (line_rules place st held x) → Agree st r → Sound r
    → able starts r (act_in x) ≡ free_for r.live (act_in x) (start_at starts r.requests)
able_line starts place st r held x q h g d =
    accepted_line place st held x h (λ x. able starts r (act_in x) ≡ free_for r.live (act_in x) (start_at starts r.requests))
    (λ w t p a. able-is starts place st r held w t p q a g d)

does_line : (starts : List ℕ) (place : Placer) (st : State) (r : Run) (held : ℕ) (x : Line) → AllKept (line_rules place st held x) → Agree st r
    → Follows (done starts r (turn_of x).warp (act_in x)).phase (line_effect place st x) (done starts r (turn_of x).warp (act_in x))
does_line starts place st r held x h g =
    accepted_line place st held x h (λ x. Follows (done starts r (turn_of x).warp (act_in x)).phase (line_effect place st x) (done starts r (turn_of x).warp (act_in x))) (λ w t p a. does starts place st r held w t a g)

steps : (starts : List ℕ) (place : Placer) (st : State) (r : Run) (held number : ℕ) (x : Line) (p : Phase) → r.phase ≡ p → AllKept (line_rules place st held x) → Follows p st r
    → Follows (go p starts r number (turn_of x)).phase (line_effect place st x) (go p starts r number (turn_of x))
unfolding go
steps starts place st r held number x going q h g = at (able starts r (act_in x))
  where
    at : (t : Bool) → Follows (cond t (done starts r (turn_of x).warp (act_in x)) (in_phase (stopped_at number) r)).phase (line_effect place st x) (cond t (done starts r (turn_of x).warp (act_in x)) (in_phase (stopped_at number) r))
    at true = does_line starts place st r held x h g
    at false = tt
steps starts place st r held number x (stopped_at l) q h g = subst (λ p. Follows p (line_effect place st x) r) (sym q) tt
steps starts place st r held number x exited q h g = absurd (no_more place st held x h g.0)
steps starts place st r held number x ended q h g = absurd g

-- after the same lines, each accepted
pub follows : (starts : List ℕ) (placing : Placing) (line : ℕ → Line) (n : ℕ) → ((k : ℕ) → k < n → AllKept (rules_by placing line k)) → (k : ℕ) → k ≤ n
    → Follows (after starts (λ j. turn_of (line j)) k).phase (state_by placing line k) (after starts (λ j. turn_of (line j)) k)
unfolding after state_by run.number_of lookup s.is_marked
follows starts placing line n h zero p = record { alike = tt; numbers = λ m. refl; noted = λ m w x. refl; open' = refl; goes = refl }
follows starts placing line n h (suc k) p =
    steps starts (placing k) (state_by placing line k) (after starts (λ j. turn_of (line j)) k) (held_after line k) (k + 2) (line k) (after starts (λ j. turn_of (line j)) k).phase refl
    (h k (omega (arith, p))) (follows starts placing line n h k (omega (arith, p)))
