-- The worked examples hold, by computation. Assumes nothing.
use mathlib.Core.Path.{refl}
use lib.Count.{ones, ones_in}
use Rattle.instruction.specs.Instruction as instruction
use Rattle.shared_memory.specs.Shared as shared
use Rattle.statement.specs.Cells as cells
use Rattle.rules.specs.Counting.{every, least}
use Rattle.rules.specs.State as s
use Rattle.rules.specs.Reasons as reasons
use Rattle.rules.specs.Sheet.{answer_at, answer_by, closing, stop_by, reason_by, position_by, state_by, starts_by, given, effect, requested, released, sum, held_after, peak_up_to}
use Rattle.laws.specs.Worked.{Gives}
use Rattle.rules.specs.Worked.{judged, blamed, position_cases, wait_cases, Worked}

positions : Gives blamed position_cases
unfolding every least s.is_live s.columns_of s.without s.total s.covers s.is_free s.free_from s.slot s.lowest s.is_bound s.width_of s.number_of s.bind s.is_by s.is_marked s.is_busy s.after_wait s.after_release
    cells.counted reasons.named reasons.roomed reasons.lane_of_warp reasons.laned reasons.warped reasons.sized reasons.permitted reasons.placed
    reasons.instruction_of reasons.reads reasons.m_listed reasons.n_listed reasons.types_listed reasons.inside reasons.cleared reasons.waited reasons.open_rows
    reasons.closed_rows reasons.rows reasons.open_rules answer_at answer_by closing stop_by reason_by position_by state_by starts_by given effect requested released sum held_after
    peak_up_to ones ones_in cells.registers_for cells.lanes_for cells.columns_for cells.miscounted instruction.decoded shared.decoded
positions = refl

waits : Gives judged wait_cases
unfolding every least s.is_live s.columns_of s.without s.total s.covers s.is_free s.free_from s.slot s.lowest s.is_bound s.width_of s.number_of s.bind s.is_by s.is_marked s.is_busy s.after_wait s.after_release
    cells.counted reasons.named reasons.roomed reasons.lane_of_warp reasons.laned reasons.warped reasons.sized reasons.permitted reasons.placed
    reasons.instruction_of reasons.reads reasons.m_listed reasons.n_listed reasons.types_listed reasons.inside reasons.cleared reasons.waited reasons.open_rows
    reasons.closed_rows reasons.rows reasons.open_rules answer_at answer_by closing stop_by reason_by position_by state_by starts_by given effect requested released sum held_after
    peak_up_to ones ones_in cells.registers_for cells.lanes_for cells.columns_for cells.miscounted instruction.decoded shared.decoded
waits = refl

pub worked : Worked
unfolding every least s.is_live s.columns_of s.without s.total s.covers s.is_free s.free_from s.slot s.lowest s.is_bound s.width_of s.number_of s.bind s.is_by s.is_marked s.is_busy s.after_wait s.after_release
    cells.counted reasons.named reasons.roomed reasons.lane_of_warp reasons.laned reasons.warped reasons.sized reasons.permitted reasons.placed
    reasons.instruction_of reasons.reads reasons.m_listed reasons.n_listed reasons.types_listed reasons.inside reasons.cleared reasons.waited reasons.open_rows
    reasons.closed_rows reasons.rows reasons.open_rules answer_at answer_by closing stop_by reason_by position_by state_by starts_by given effect requested released sum held_after
    peak_up_to ones ones_in cells.registers_for cells.lanes_for cells.columns_for cells.miscounted instruction.decoded shared.decoded
worked =
    record {
      header = refl;
      whole = refl;
      requests = refl;
      waits = waits;
      left = refl;
      columns = refl;
      lanes = refl;
      mmas = refl;
      positions = positions;
      states = refl;
    }
