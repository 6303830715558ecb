-- The tests of a ld or st are those of its rules: a ledger tells which names are live and how many columns each has. Assumes nothing.
use Rattle.std.proofs.Common.{◌≡◌, ℕ, ◌+◌, ◌*◌, Bool, true, false, not, ◌&&◌, ◌||◌, cond, eqb, leb, sym, ap, ◌∙◌, Option, Some, None}
use Rattle.laws.specs.Rules.{first_broken}
use Rattle.statement.specs.declared.Access.{Access}
use Rattle.statement.specs.declared.Statement.TheVariants.{Load, Store}
use Rattle.statement.specs.Cells as cells
use Rattle.rules.specs.State.{State, lowest, is_live, columns_of}
use Rattle.rules.specs.Reasons.{lane_of, column_of, lane_of_warp, open_rules}
use Rattle.rules.proofs.ByAct.{access_rules, first_broken_lem}
use Rattle.ledger.specs.declared.Ledger.{Ledger}
use Rattle.ledger.specs.declared.Span.{Span}
use Rattle.ledger.specs.Booking.{found, columns_in}
use Rattle.ledger.specs.Shows.{Live}
use Rattle.ledger.proofs.FoundLaws.{finds_in}
use Rattle.std.specs.Prelude.{is_some}

-- ---- the rules of a ld or st
module _ (s : State) (held w : ℕ) (a : Access) where
  -- the reason of both
  abbrev pub Both : ℕ → Type 0
  Both r = (r ≡ first_broken (open_rules lowest s held w (Load a))) × (r ≡ first_broken (open_rules lowest s held w (Store a)))

  both : (r : ℕ) → r ≡ first_broken (access_rules s w a) → Both r
  both r e = (e ∙ sym (first_broken_lem lowest s held w (Load a)), e ∙ sym (first_broken_lem lowest s held w (Store a)))

  pub access_5 : cells.miscounted a ≡ true → Both 5
  access_5 m = both 5 (rw m)

  module _ (l : Ledger) (h : Live l s.live) (m : cells.miscounted a ≡ false) where
    pub access_6 : found l a.address.base ≡ None → Both 6
    access_6 e = let live = (finds_in l s.live h).live a.address.base in both 6 (rw (m, ← live, e))

    -- with the allocation found, the lanes of the shape and the columns needed
    module _ (span : Span) (e : found l a.address.base ≡ Some span) (lane : Bool)
        (q : lane ≡ eqb (lane_of a.address) (32 * w) || (eqb (cells.lanes_for a.shape) 16 && eqb (lane_of a.address) (32 * w + 16))) where
      live : is_live a.address.base s.live ≡ true
      live = sym ((finds_in l s.live h).live a.address.base) ∙ ap is_some e

      size : span.columns ≡ columns_of a.address.base s.live
      size = ap columns_in (sym e) ∙ (finds_in l s.live h).size a.address.base

      lane_is : lane ≡ lane_of_warp w a
      unfolding lane_of_warp
      lane_is = q

      pub access_8 : lane ≡ false → Both 8
      access_8 f = both 8 (rw (m, live, ← lane_is, f))

      pub access_end : (end : Bool) → lane ≡ true → end ≡ leb (column_of a.address + cells.columns_for a.shape a.num) span.columns → Both (cond end 0 14)
      access_end end f t = both (cond end 0 14) (rw (m, live, ← lane_is, f, t, size))
