-- The rules by what a statement does: of each act only a few rows of the list can be broken, and the first broken one is that of those few. A row that
-- is added to the list is added here, and nothing above changes but for the acts that it is of. Assumes nothing.
use Prim.Native.Nat.{ℕ}
use mathlib.Core.Path.{◌≡◌, refl, sym, ap, ◌∙◌}
use mathlib.Core.Bool.{Bool, true, not, ◌&&◌, cond}
use mathlib.Core.List.{List, [], ◌∷◌}
use lib.Dec.{eqb}
use Rattle.laws.specs.Tests.{is_some}
use Rattle.laws.specs.Rules.{Rule, rule, first_broken}
use Rattle.tokens.specs.declared.Name.{Name}
use Rattle.instruction.specs.Instruction as instruction
use Rattle.instruction.specs.Instruction.{listing}
use Rattle.request.specs.Request.{legal}
use Rattle.statement.specs.declared.Access.{Access}
use Rattle.statement.specs.declared.Mma.{Mma}
use Rattle.statement.specs.declared.Statement.{Statement}
use Rattle.statement.specs.declared.Statement.TheVariants.{Alloc, Multiply}
use Rattle.statement.specs.Views as act
use Rattle.statement.specs.Views.{Act, act_of}
use Rattle.statement.specs.Canonical.{sparse}
use Rattle.statement.specs.Cells as cells
use Rattle.rules.specs.State.{State, Placer, is_live, is_bound, columns_of, is_busy}
use Rattle.statement.specs.Positions.{address_at, idesc_at}
use Rattle.rules.specs.Rows.{at_start, at_opcode, at_name, at_operand, kept, one, whole, Row, row, rules_of, first_position}
use Rattle.rules.specs.Reasons.{open_rows, open_rules, named, roomed, laned, warped, sized, permitted, placed, reads, m_listed, n_listed, types_listed, inside, cleared, waited, room_for, is_warp, lane_of_warp, ends, mma_named, mma_reads, fields_of, all_end}
use Rattle.rules.proofs.RuleLaws.{none_kept, in_turn}

-- a mov at either width
abbrev pub mov_rows : State → Name → List Row
mov_rows s n = row 6 at_name (one 0 (not (is_live n s.live))) ∷ row 7 at_name (one 0 (room_for s n)) ∷ []

abbrev pub mov_rules : State → Name → List Rule
mov_rules s n = rules_of (mov_rows s n)

-- a ld or st whose address is operand i
abbrev pub access_rows : State → (w i : ℕ) → Access → List Row
access_rows s w i a =
    row 5 at_opcode (whole (not (cells.miscounted a)))
    ∷ row 6 at_name (one i (is_live a.address.base s.live))
    ∷ row 8 at_operand (one i (lane_of_warp w a))
    ∷ row 14 at_operand (one i (ends s a.address (cells.columns_for a.shape a.num)))
    ∷ []

abbrev pub access_rules : State → ℕ → Access → List Rule
access_rules s w a = rules_of (access_rows s w 0 a)

-- an mma; the rules of listing are those of its instruction descriptor
abbrev pub mma_rows : State → Mma → List Row
mma_rows s m =
    row 6 at_name (mma_named s m)
    ∷ row 12 at_name (mma_reads s m)
    ∷ row 13 at_name (one (idesc_at m) (instruction.m_listed m.ws (fields_of s m).m))
    ∷ row 20 at_name (one (idesc_at m) (instruction.n_listed m.kind m.ws (sparse m.metadata) (fields_of s m).n))
    ∷ row 21 at_name (one (idesc_at m) (instruction.types_listed m.kind (fields_of s m).dtype (fields_of s m).atype (fields_of s m).btype))
    ∷ row 14 at_operand (all_end s m)
    ∷ []

-- the rows that an act can break, an address of a ld or st being operand i
abbrev pub act_rows : Placer → State → (held w i : ℕ) → Act → List Row
act_rows place s held w i (act.binds n width v) = mov_rows s n
act_rows place s held w i (act.requests n k) =
    row 6 at_name (one 0 (not (is_live n s.live) && not (is_bound n s.values)))
    ∷ row 8 at_start (whole (is_warp s.warp w))
    ∷ row 9 at_operand (one 1 (legal k))
    ∷ row 10 at_opcode (whole (not s.relinquished))
    ∷ row 11 at_opcode (whole (is_some (place s.live k)))
    ∷ []
act_rows place s held w i (act.releases n k) =
    row 6 at_name (one 0 (is_live n s.live)) ∷ row 8 at_start (whole (is_warp s.warp w)) ∷ row 9 at_operand (one 1 (eqb (columns_of n s.live) k))
    ∷ row 18 at_opcode (whole (not (is_busy n s.outstanding))) ∷ []
act_rows place s held w i act.relinquishes = row 8 at_start (whole (is_warp s.warp w)) ∷ []
act_rows place s held w i (act.accesses x a) = access_rows s w i a
act_rows place s held w i (act.waits x) = []
act_rows place s held w i (act.multiplies m) = mma_rows s m
act_rows place s held w i act.exits = row 15 at_start (whole (eqb held 0)) ∷ []
act_rows place s held w i act.nothing = []

abbrev pub act_rules : Placer → State → (held w : ℕ) → Act → List Rule
act_rules place s held w a = rules_of (act_rows place s held w 0 a)

-- the number of an mma, by that of its listing
abbrev pub mma_order : (names words : Bool) → (listing : ℕ) → (ends : Bool) → ℕ
mma_order names words listing ends = cond names (cond words (cond (eqb listing 0) (cond ends 0 14) listing) 12) 6

module _ (place : Placer) (s : State) (held w : ℕ) where
  by_act : (t : Statement) (a : Act) → act_of t ≡ a → first_broken (open_rules place s held w t) ≡ first_broken (act_rules place s held w a)
  unfolding open_rules open_rows cells.counted named roomed laned warped sized permitted placed reads m_listed n_listed types_listed inside cleared waited
  by_act t (act.binds n width v) e = rw e
  by_act t (act.requests n k) e = rw e
  by_act t (act.releases n k) e = rw e
  by_act t act.relinquishes e = rw e
  by_act t (act.accesses x a) e = rw e
  by_act t (act.waits x) e = rw e
  by_act t (act.multiplies m) e = rw e
  by_act t act.exits e = rw e
  by_act t act.nothing e = rw e

  pub first_broken_lem : (t : Statement) → first_broken (open_rules place s held w t) ≡ first_broken (act_rules place s held w (act_of t))
  first_broken_lem t = by_act t (act_of t) refl

  -- so is the position
  position_by_lem : (t : Statement) (a : Act) → act_of t ≡ a → first_position (open_rows place s held w t) ≡ first_position (act_rows place s held w (address_at t) a)
  unfolding open_rows cells.counted named roomed laned warped sized permitted placed reads m_listed n_listed types_listed inside cleared waited
  position_by_lem t (act.binds n width v) e = rw e
  position_by_lem t (act.requests n k) e = rw e
  position_by_lem t (act.releases n k) e = rw e
  position_by_lem t act.relinquishes e = rw e
  position_by_lem t (act.accesses x a) e = rw e
  position_by_lem t (act.waits x) e = rw e
  position_by_lem t (act.multiplies m) e = rw e
  position_by_lem t act.exits e = rw e
  position_by_lem t act.nothing e = rw e

  pub first_position_lem : (t : Statement) → first_position (open_rows place s held w t) ≡ first_position (act_rows place s held w (address_at t) (act_of t))
  first_position_lem t = position_by_lem t (act_of t) refl

  -- an alloc that breaks none is legal
  pub alloc-legal : (n : Name) (k : ℕ) → first_broken (open_rules place s held w (Alloc n k)) ≡ 0 → legal k ≡ true
  alloc-legal n k e = (none_kept (act_rules place s held w (act.requests n k)) refl (sym (first_broken_lem (Alloc n k)) ∙ e)).1.1.0

  -- an mma's listing in turn: the number is that of the first rule of listing that is broken
  pub mma_listed : (m : Mma) → first_broken (open_rules place s held w (Multiply m))
      ≡ mma_order (kept (mma_named s m)) (kept (mma_reads s m)) (first_broken (listing m.kind m.ws (sparse m.metadata) (fields_of s m))) (kept (all_end s m))
  mma_listed m =
      first_broken_lem (Multiply m)
      ∙ ap (λ n. cond (kept (mma_named s m)) (cond (kept (mma_reads s m)) n 12) 6)
      (in_turn (listing m.kind m.ws (sparse m.metadata) (fields_of s m)) (rule 14 (kept (all_end s m)) ∷ []) refl)
