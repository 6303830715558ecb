-- Laws of what a reason points at. Assumes nothing.
use Prim.Native.Nat.{ℕ, ◌<◌, ◌%◌, ◌^◌}
use Rattle.std.specs.Prelude.{Option, Some, None, is_some}
use mathlib.Core.Path.{◌≡◌, refl, sym, ap, ◌∙◌, subst}
use mathlib.Core.Bool.{Bool, true, false, not, ◌&&◌, cond}
use mathlib.Core.List.{List, [], ◌∷◌, ◌++◌}
use native.Mathlib.Omega.{arith}
use lib.Dec.{eqb}
use lib.ListN.{take, drop}
use borrow.Author.Rules as tactics
use types.Run.{OneOf}
use denote.Enum.Declared.{tag_of}
use borrow.Author.Tests.{not-true, eqb-true, eqb-false, eq-eqb}
use Rattle.laws.specs.Rules.{first_broken}
use Rattle.laws.proofs.BoolLaws.{and_l, and_r, clash}
use Rattle.reasons.specs.declared.Reason.{Reason}
use Rattle.reasons.specs.declared.Reason.TheVariants as reason
use Rattle.reasons.specs.Reasons.{number}
use Rattle.reasons.proofs.ReasonLaws.{nonzero}
use Rattle.statement.specs.declared.Mma.{Mma}
use Rattle.statement.specs.declared.Position.{Position}
use Rattle.statement.specs.declared.Position.TheVariants.{Start, Opcode, Name, Operand}
use Rattle.statement.specs.declared.Statement.{Statement}
use Rattle.statement.specs.contracts.Statement.{enum, the_type}
use Rattle.statement.proofs.Variants.{at_each}
use Rattle.statement.proofs.Each.{each_act}
use Rattle.statement.specs.declared.Statement.TheVariants.{Multiply}
use Rattle.statement.specs.Views as act
use Rattle.statement.specs.Views.{Act, act_of}
use Rattle.statement.specs.Canonical.{sparse}
use Rattle.statement.specs.Cells.{counted}
use Rattle.statement.specs.Positions.{address_at, idesc_at}
use Rattle.rules.specs.State.{State, lowest, is_live, width_of, number_of}
use Rattle.rules.specs.Claims.{AllKept}
use Rattle.rules.specs.Rows.{Sort, pointed, at_name, at_operand, Test, test, kept, leftmost, Row, row, rules_of, first_position}
use Rattle.rules.specs.Reasons.{mma_named, mma_reads, all_end, operand_named, metadata_named, shared_reads, operand_reads, mma_ends, operand_ends, metadata_ends, instruction_of, open_rows, open_rules, closed_rows, rows, rules}
use Rattle.rules.proofs.RuleLaws.{lacks, never, kept_more}
use Rattle.rules.proofs.ByAct.{act_rows, act_rules, mma_rows, first_broken_lem, first_position_lem}
use Rattle.checks.specs.declared.Tested.{Tested}
use Rattle.checks.specs.Checks.{tested, word_found}
use Rattle.checks.proofs.MmaLaws.{word_width, word_number}
use Rattle.checks.specs.Tables.{Tables}
use Rattle.ledger.specs.declared.Ledger.{Ledger}
use Rattle.bindings.specs.declared.Bindings.{Bindings}
use Rattle.bindings.specs.Table.{found}
use Rattle.instruction.specs.Instruction as instruction
use Rattle.blame.specs.Blame.{booking_at, access_at, first_or, mma_pointed, n_of}

-- a reason has a number above 0
pub above_0 : (r : Reason) → 0 < number r
above_0 r = omega (arith, eqb-false (number r) 0 (nonzero r))

-- ---- of some tests one is broken: it is the first that is, or the last
first_or_lem : (l : List Test) (i : ℕ) (v : Bool) → kept (l ++ test i v ∷ []) ≡ false → first_or l i ≡ leftmost (l ++ test i v ∷ [])
first_or_lem [] i true h = absurd (clash refl h)
first_or_lem [] i false h = refl
first_or_lem (test j true ∷ l) i v h = first_or_lem l i v (sym (kept_more j (l ++ test i v ∷ [])) ∙ h)
first_or_lem (test j false ∷ l) i v h = refl

-- the columns of d are those that idesc tells, where it has its width
width_32 : (s : State) (m : Mma) → kept (mma_named s m) ≡ true → width_of m.idesc s.values ≡ 32
width_32 s m e =
    eqb-true (width_of m.idesc s.values) 32
    (and_r (((is_live m.d.base s.live && operand_named s m.a) && eqb (width_of m.b s.values) 64) && metadata_named s m.metadata) (eqb (width_of m.idesc s.values) 32) e)

pub n_is : (s : State) (ledger : Ledger) (table : Bindings) → Tables ledger table s → (m : Mma) → width_of m.idesc s.values ≡ 32
    → n_of m (word_found (found table m.idesc)) ≡ (instruction_of s m).descriptor.n
unfolding instruction_of
n_is s ledger table h m u = at (word_found (found table m.idesc)) refl
  where
    at : (word : Option ℕ) → word_found (found table m.idesc) ≡ word
        → n_of m word ≡ (instruction.decoded m.kind m.ws (sparse m.metadata) (number_of m.idesc s.values)).descriptor.n
    at (Some x) e = rw (word_number table s h.values m.idesc x e)
    at None e = absurd (clash (sym (ap is_some e) ∙ word_width table s h.values m.idesc ∙ eq-eqb (width_of m.idesc s.values) 32 u) refl)

-- ---- rows whose number tells where they are broken
abbrev pub Follows : (ℕ → Position) → List Row → Type 0
Follows f [] = Unit {0}
Follows f (row n sort tests ∷ rs) = (kept tests ≡ false → pointed sort (leftmost tests) ≡ f n) × Follows f rs

follows : (f : ℕ → Position) (rs : List Row) → Follows f rs → 0 < first_broken (rules_of rs) → first_position rs ≡ f (first_broken (rules_of rs))
follows f [] h p = absurd (omega (arith, p))
follows f (row n sort tests ∷ rs) h p = at (λ q. follows f rs h.1 q) (kept tests) refl p
  where
    at : (0 < first_broken (rules_of rs) → first_position rs ≡ f (first_broken (rules_of rs))) → (b : Bool) → kept tests ≡ b → 0 < cond b (first_broken (rules_of rs)) n
        → cond b (first_position rs) (pointed sort (leftmost tests)) ≡ f (cond b (first_broken (rules_of rs)) n)
    at more true e q = more q
    at more false e q = h.0 e

-- the one row of a number is broken where that number is answered, and those before it are kept
only_row : (before : List Row) (k : ℕ) (sort : Sort) (tests : List Test) (after : List Row) → lacks k (rules_of before) ≡ true → lacks k (rules_of after) ≡ true → 0 < k
    → first_broken (rules_of (before ++ row k sort tests ∷ after)) ≡ k → AllKept (rules_of before) × (kept tests ≡ false)
only_row [] k sort tests after p q h e = (tt, at (kept tests) refl e)
  where
    at : (b : Bool) → kept tests ≡ b → cond b (first_broken (rules_of after)) k ≡ k → kept tests ≡ false
    at true z e = absurd (never k (rules_of after) q h e)
    at false z e = z
only_row (row n other ts ∷ before) k sort tests after p q h e =
    at (λ z. only_row before k sort tests after (and_r (not (eqb n k)) (lacks k (rules_of before)) p) q h z) (kept ts) refl e
  where
    at : (first_broken (rules_of (before ++ row k sort tests ∷ after)) ≡ k → AllKept (rules_of before) × (kept tests ≡ false)) → (b : Bool) → kept ts ≡ b
        → cond b (first_broken (rules_of (before ++ row k sort tests ∷ after))) n ≡ k → ((kept ts ≡ true) × AllKept (rules_of before)) × (kept tests ≡ false)
    at more true z e = let m = more e in ((z, m.0), m.1)
    at more false z e = absurd (clash (eq-eqb n k e) (not-true (eqb n k) (and_l (not (eqb n k)) (lacks k (rules_of before)) p)))

-- ---- an mma
abbrev pub mma_at : State → Mma → ℕ → Position
mma_at s m n =
    cond (eqb n 6) (Name (leftmost (mma_named s m)))
    (cond (eqb n 12) (Name (leftmost (mma_reads s m))) (cond (eqb n 14) (Operand (leftmost (all_end s m))) (Name (idesc_at m))))

mma_follows : (s : State) (m : Mma) → Follows (mma_at s m) (mma_rows s m)
mma_follows s m = ((λ e. refl), ((λ e. refl), ((λ e. rw e), ((λ e. rw e), ((λ e. rw e), ((λ e. refl), tt))))))

module _ (s : State) (held w : ℕ) (m : Mma) (reason : ℕ) (p : 0 < reason) (e : reason ≡ first_broken (open_rules lowest s held w (Multiply m))) where
  by_rows : first_broken (rules_of (mma_rows s m)) ≡ reason
  by_rows = sym (e ∙ first_broken_lem lowest s held w (Multiply m))

  mma_points : first_position (open_rows lowest s held w (Multiply m)) ≡ mma_at s m reason
  mma_points =
      first_position_lem lowest s held w (Multiply m)
      ∙ follows (mma_at s m) (mma_rows s m) (mma_follows s m) (omega (arith, p, by_rows))
      ∙ ap (mma_at s m) by_rows

  names-broken : reason ≡ 6 → kept (mma_named s m) ≡ false
  names-broken q = (only_row [] 6 at_name (mma_named s m) (drop 1 (mma_rows s m)) refl refl (omega arith) (by_rows ∙ q)).1

  words-broken : reason ≡ 12 → kept (mma_reads s m) ≡ false
  words-broken q = (only_row (take 1 (mma_rows s m)) 12 at_name (mma_reads s m) (drop 2 (mma_rows s m)) refl refl (omega arith) (by_rows ∙ q)).1

  cells-broken : reason ≡ 14 → (width_of m.idesc s.values ≡ 32) × (kept (all_end s m) ≡ false)
  cells-broken q =
      let f = only_row (take 5 (mma_rows s m)) 14 at_operand (all_end s m) [] refl refl (omega arith) (by_rows ∙ q) in
      (width_32 s m f.0.0, f.1)

  -- what was tested is what the state has, N being that of idesc where it has its width
  module _ (d a b x : Tested) (n : ℕ) (pn : width_of m.idesc s.values ≡ 32 → n ≡ (instruction_of s m).descriptor.n)
      (pd : d ≡ tested (is_live m.d.base s.live) true (mma_ends s m.d n))
      (pa : a ≡ tested (operand_named s m.a) (operand_reads s m.a) (operand_ends s m.a))
      (pb : b ≡ tested (eqb (width_of m.b s.values) 64) (shared_reads s m.b) true)
      (px : x ≡ tested (metadata_named s m.metadata) true (metadata_ends s m.metadata)) where
    by_6 : reason ≡ 6 → Name (first_or (test 0 d.named ∷ test 1 a.named ∷ test 2 b.named ∷ test 3 x.named ∷ []) (idesc_at m)) ≡ Name (leftmost (mma_named s m))
    by_6 q =
        ap Name
        (rw (pd, pa, pb, px)
        (first_or_lem
        (test 0 (is_live m.d.base s.live) ∷ test 1 (operand_named s m.a) ∷ test 2 (eqb (width_of m.b s.values) 64) ∷ test 3 (metadata_named s m.metadata) ∷ [])
        (idesc_at m) (eqb (width_of m.idesc s.values) 32) (names-broken q)))

    by_12 : reason ≡ 12 → Name (first_or (test 1 a.reads ∷ test 2 b.reads ∷ []) (idesc_at m)) ≡ Name (leftmost (mma_reads s m))
    by_12 q =
        ap Name
        (rw (pa, pb)
        (first_or_lem (test 1 (operand_reads s m.a) ∷ test 2 (shared_reads s m.b) ∷ []) (idesc_at m) (eqb (instruction_of s m).reason 0) (words-broken q)))

    by_14 : reason ≡ 14 → Operand (first_or (test 0 d.ends ∷ test 1 a.ends ∷ []) 3) ≡ Operand (leftmost (all_end s m))
    by_14 q =
        let k = cells-broken q in
        ap Operand
        (rw (pd, pa, pn k.0)
        (first_or_lem (test 0 (mma_ends s m.d (instruction_of s m).descriptor.n) ∷ test 1 (operand_ends s m.a) ∷ []) 3 (metadata_ends s m.metadata) k.1))

    by_tests : mma_pointed reason (idesc_at m) d a b x ≡ mma_at s m reason
    by_tests = at (eqb reason 6) (eqb reason 12) (eqb reason 14) refl refl refl
      where
        at : (u v w : Bool) → eqb reason 6 ≡ u → eqb reason 12 ≡ v → eqb reason 14 ≡ w
            → cond u (Name (first_or (test 0 d.named ∷ test 1 a.named ∷ test 2 b.named ∷ test 3 x.named ∷ []) (idesc_at m)))
            (cond v (Name (first_or (test 1 a.reads ∷ test 2 b.reads ∷ []) (idesc_at m))) (cond w (Operand (first_or (test 0 d.ends ∷ test 1 a.ends ∷ []) 3)) (Name (idesc_at m))))
            ≡ cond u (Name (leftmost (mma_named s m))) (cond v (Name (leftmost (mma_reads s m))) (cond w (Operand (leftmost (all_end s m))) (Name (idesc_at m))))
        at true v w p q r = by_6 (eqb-true reason 6 p)
        at false true w p q r = by_12 (eqb-true reason 12 q)
        at false false true p q r = by_14 (eqb-true reason 14 r)
        at false false false p q r = refl

    pub mma-blamed : (i : ℕ) → i ≡ idesc_at m → (r : Position) → r ≡ mma_pointed reason i d a b x → r ≡ first_position (open_rows lowest s held w (Multiply m))
    mma-blamed i z r q = q ∙ ap (λ (j : ℕ). mma_pointed reason j d a b x) z ∙ by_tests ∙ sym mma_points

-- ---- any statement
-- what each act points at, by the reason, an address of a ld or st being operand i
abbrev act_at : State → ℕ → Act → ℕ → Position
act_at s i (act.binds name width v) n = Name 0
act_at s i (act.requests name k) n = booking_at n
act_at s i (act.releases name k) n = booking_at n
act_at s i act.relinquishes n = booking_at n
act_at s i (act.accesses x a) n = access_at n i
act_at s i (act.waits x) n = Start
act_at s i (act.multiplies m) n = mma_at s m n
act_at s i act.exits n = Start
act_at s i act.nothing n = Start

-- 15 at the start and 5 at the opcode, whatever the act
abbrev general : (ℕ → Position) → ℕ → Position
general g n = cond (eqb n 15) Start (cond (eqb n 5) Opcode (g n))

abbrev pub points_at : State → Statement → ℕ → Position
points_at s t n = general (act_at s (address_at t) (act_of t)) n

act_follows : (s : State) (held w i : ℕ) (a : Act) → Follows (general (act_at s i a)) (act_rows lowest s held w i a)
act_follows s held w i (act.binds name width v) = ((λ e. rw e), ((λ e. rw e), tt))
act_follows s held w i (act.requests name k) = ((λ e. rw e), ((λ e. refl), ((λ e. rw e), ((λ e. refl), ((λ e. refl), tt)))))
act_follows s held w i (act.releases name k) = ((λ e. rw e), ((λ e. refl), ((λ e. rw e), ((λ e. refl), tt))))
act_follows s held w i act.relinquishes = ((λ e. refl), tt)
act_follows s held w i (act.accesses x a) = ((λ e. refl), ((λ e. rw e), ((λ e. rw e), ((λ e. rw e), tt))))
act_follows s held w i (act.waits x) = tt
act_follows s held w i (act.multiplies m) = mma_follows s m
act_follows s held w i act.exits = ((λ e. refl), tt)
act_follows s held w i act.nothing = tt

module _ (s : State) (held w : ℕ) (t : Statement) (reason : ℕ) (p : 0 < reason) where
  open_points : reason ≡ first_broken (open_rules lowest s held w t) → first_position (open_rows lowest s held w t) ≡ points_at s t reason
  open_points e =
      let by : first_broken (rules_of (act_rows lowest s held w (address_at t) (act_of t))) ≡ reason = same (act_of t) ∙ sym (e ∙ first_broken_lem lowest s held w t) in
      first_position_lem lowest s held w t
      ∙ follows (points_at s t) (act_rows lowest s held w (address_at t) (act_of t)) (act_follows s held w (address_at t) (act_of t)) (omega (arith, p, by))
      ∙ ap (points_at s t) by
    where
      -- the numbers do not depend on the operand
      same : (a : Act) → first_broken (rules_of (act_rows lowest s held w (address_at t) a)) ≡ first_broken (act_rules lowest s held w a)
      same a = each_act (λ a. first_broken (rules_of (act_rows lowest s held w (address_at t) a)) ≡ first_broken (act_rules lowest s held w a)) a search

  closed_points : (g : ℕ → Position) → reason ≡ first_broken (rules_of (closed_rows t)) → first_position (closed_rows t) ≡ general g reason
  unfolding closed_rows
  closed_points g e = follows (general g) (closed_rows t) ((λ e. refl), ((λ e. refl), tt)) (omega (arith, p, e)) ∙ ap (general g) (sym e)

  -- the position of a refused statement is that of its reason
  pub points : reason ≡ first_broken (rules lowest s held w t) → first_position (rows lowest s held w t) ≡ points_at s t reason
  unfolding rules rows open_rules
  points e = at s.exited e
    where
      at : (b : Bool) → reason ≡ first_broken (rules_of (cond b (closed_rows t) (open_rows lowest s held w t))) → first_position (cond b (closed_rows t) (open_rows lowest s held w t)) ≡ points_at s t reason
      at true e = closed_points (act_at s (address_at t) (act_of t)) e
      at false e = open_points e

-- a reason that is neither of those two
pub no_15 : (r : Reason) → (r ≡ reason.Exit → ⊥) → eqb (number r) 15 ≡ false
no_15 r h = search tactics.rules

pub no_5 : (r : Reason) → (r ≡ reason.Registers → ⊥) → eqb (number r) 5 ≡ false
no_5 r h = search tactics.rules

-- ---- the arms of the match, by their places in the declaration
abbrev Points : State → ℕ → (ℕ → Position) → Statement → Type 0
Points s n f t = eqb n 15 ≡ false → eqb n 5 ≡ false → f n ≡ points_at s t n

pub at_mov : (s : State) (n : ℕ) (t : Statement) → OneOf (0 ∷ 1 ∷ []) (tag_of the_type t) → Points s n (λ n. Name 0) t
at_mov s n t h = at_each enum (Points s n (λ n. Name 0)) (0 ∷ 1 ∷ []) t h ((λ v p q. rw (p, q)), ((λ v p q. rw (p, q)), tt))

pub at_booking : (s : State) (n : ℕ) (t : Statement) → OneOf (2 ∷ 3 ∷ 4 ∷ []) (tag_of the_type t) → Points s n booking_at t
at_booking s n t h = at_each enum (Points s n booking_at) (2 ∷ 3 ∷ 4 ∷ []) t h ((λ v p q. rw (p, q)), ((λ v p q. rw (p, q)), ((λ v p q. rw (p, q)), tt)))

pub at_load : (s : State) (n : ℕ) (t : Statement) → OneOf (5 ∷ []) (tag_of the_type t) → Points s n (λ n. access_at n 1) t
at_load s n t h = at_each enum (Points s n (λ n. access_at n 1)) (5 ∷ []) t h ((λ v p q. rw (p, q)), tt)

pub at_store : (s : State) (n : ℕ) (t : Statement) → OneOf (6 ∷ []) (tag_of the_type t) → Points s n (λ n. access_at n 0) t
at_store s n t h = at_each enum (Points s n (λ n. access_at n 0)) (6 ∷ []) t h ((λ v p q. rw (p, q)), tt)

pub at_rest : (s : State) (n : ℕ) (t : Statement) → OneOf (7 ∷ 8 ∷ 9 ∷ 10 ∷ 12 ∷ []) (tag_of the_type t) → Points s n (λ n. Start) t
at_rest s n t h =
    at_each enum (Points s n (λ n. Start)) (7 ∷ 8 ∷ 9 ∷ 10 ∷ 12 ∷ []) t h
    ((λ v p q. rw (p, q)), ((λ v p q. rw (p, q)), ((λ v p q. rw (p, q)), ((λ v p q. rw (p, q)), ((λ v p q. rw (p, q)), tt)))))

-- an mma, by what its own reasons point at
pub at-mma : (s : State) (held w : ℕ) (t : Statement) (m : Mma) → t ≡ Multiply m → (n : ℕ) → eqb n 15 ≡ false → eqb n 5 ≡ false → 0 < n
    → n ≡ first_broken (rules lowest s held w t) → (r : Position) → (0 < n → n ≡ first_broken (open_rules lowest s held w (Multiply m)) → r ≡ first_position (open_rows lowest s held w (Multiply m)))
    → r ≡ first_position (rows lowest s held w t)
unfolding rules rows open_rules closed_rows
at-mma s held w t m z n x y p e r f = subst (λ (t : Statement). r ≡ first_position (rows lowest s held w t)) (sym z) (at s.exited (e ∙ ap (λ (t : Statement). first_broken (rules lowest s held w t)) z))
  where
    never_closed : (b : Bool) → n ≡ cond b 15 5 → ⊥
    never_closed true q = clash (eq-eqb n 15 q) x
    never_closed false q = clash (eq-eqb n 5 q) y

    at : (b : Bool) → n ≡ first_broken (rules_of (cond b (closed_rows (Multiply m)) (open_rows lowest s held w (Multiply m))))
        → r ≡ first_position (cond b (closed_rows (Multiply m)) (open_rows lowest s held w (Multiply m)))
    at true q = absurd (never_closed (counted (Multiply m)) q)
    at false q = f p q
