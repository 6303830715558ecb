-- The worked sheets hold, by computation. Assumes nothing.
use mathlib.Core.Path.{◌≡◌, refl}
use mathlib.Core.List.{[], ◌∷◌, ◌++◌}
use Rattle.laws.specs.Worked.{Gives}
use lib.Count.{ones, ones_in}
use Rattle.instruction.specs.Instruction as instruction
use Rattle.shared_memory.specs.Shared as shared
use Rattle.tokens.specs.Bytes.{letter, word_byte, opcode_byte, blank, after_blanks, token_len, token_of, after_token}
use Rattle.tokens.specs.Names.{sigil, is_name, packed}
use Rattle.tokens.specs.Numbers.{digit_of, spells, worth, is_number, value_of}
use Rattle.tokens.specs.Cursors.{mark_c, end_c, name_c, number_c}
use Rattle.expression.specs.Amounts.{ranged, negated, times, plus}
use Rattle.expression.specs.Expressions.{plain_c, sum_c, product_c, links_c, chain_c, factor_c, expression_c, goes_on, quantity_c}
use Rattle.lines.specs.Sheet as lines
use Rattle.statement.specs.Cells as cells
use Rattle.statement.specs.Forms.{word}
use Rattle.statement.specs.Opcodes.{opcodes, recognise}
use Rattle.statement.specs.Reading as reading
use Rattle.statement.specs.Positions.{after_comma, after_commas, operand_from, name_from, operand_place, name_place, byte_column}
use Rattle.rules.specs.Counting.{every, least}
use Rattle.rules.specs.State as s
use Rattle.rules.specs.Reasons as reasons
use Rattle.rules.specs.Sheet.{answer_at, answer_by, closing, stop_by, reason_by, position_by, state_by, starts_by, given, effect, requested, released, sum, held_after, peak_up_to, places_after}
use Rattle.judge.specs.Judged.{lines_of, byte_columns, judged_of, starts_after}
use Rattle.judge.specs.Worked.{sheet_of, upper, lower, wholes as whole_sheets, Worked}

wholes : Gives (λ lines. judged_of (sheet_of lines) 3) whole_sheets
unfolding judged_of starts_after places_after lines_of byte_columns byte_column lines.upto lines.text_of lines.ended_of lines.rest lines.after lines.count_from lines.line_count lines.headed lines.warp_byte
    lines.warp_of lines.plain lines.laid_out lines.content_of lines.oversize
    reading.read_of reading.whole_c reading.answer_of reading.operands_c reading.row_c reading.more_row_c name_c number_c quantity_c expression_c goes_on factor_c chain_c links_c sum_c product_c plain_c ranged negated times plus reading.in_brackets_c reading.offset_c
    reading.inside_c reading.address_c reading.operand_c reading.more_c reading.names_c end_c mark_c recognise opcodes word opcode_byte word_byte letter after_blanks blank
    token_of token_len after_token is_name sigil packed is_number value_of spells worth digit_of after_comma after_commas operand_from name_from
    operand_place name_place every least s.is_live s.columns_of s.without s.total s.covers s.is_free s.free_from s.slot s.lowest s.is_bound s.width_of s.number_of s.bind s.is_by s.is_busy s.after_wait s.after_release
    cells.counted reasons.named reasons.roomed reasons.lane_of_warp reasons.laned reasons.warped reasons.sized reasons.permitted reasons.placed
    reasons.instruction_of reasons.reads reasons.m_listed reasons.n_listed reasons.types_listed reasons.inside reasons.cleared reasons.waited reasons.open_rows
    reasons.closed_rows reasons.rows reasons.open_rules answer_at answer_by closing stop_by reason_by position_by state_by starts_by given effect requested released sum held_after
    peak_up_to ones ones_in cells.registers_for cells.lanes_for cells.columns_for cells.miscounted instruction.decoded shared.decoded
wholes = refl

starts : starts_after (sheet_of (upper ++ ("1\ttcgen05.wait::ld.sync.aligned;" ∷ lower))) (9 ∷ 9 ∷ 9 ∷ 9 ∷ []) ≡ 0 ∷ 64 ∷ 0 ∷ 9 ∷ []
unfolding judged_of starts_after places_after lines_of byte_columns byte_column lines.upto lines.text_of lines.ended_of lines.rest lines.after lines.count_from lines.line_count lines.headed lines.warp_byte
    lines.warp_of lines.plain lines.laid_out lines.content_of lines.oversize
    reading.read_of reading.whole_c reading.answer_of reading.operands_c reading.row_c reading.more_row_c name_c number_c quantity_c expression_c goes_on factor_c chain_c links_c sum_c product_c plain_c ranged negated times plus reading.in_brackets_c reading.offset_c
    reading.inside_c reading.address_c reading.operand_c reading.more_c reading.names_c end_c mark_c recognise opcodes word opcode_byte word_byte letter after_blanks blank
    token_of token_len after_token is_name sigil packed is_number value_of spells worth digit_of after_comma after_commas operand_from name_from
    operand_place name_place every least s.is_live s.columns_of s.without s.total s.covers s.is_free s.free_from s.slot s.lowest s.is_bound s.width_of s.number_of s.bind s.is_by s.is_busy s.after_wait s.after_release
    cells.counted reasons.named reasons.roomed reasons.lane_of_warp reasons.laned reasons.warped reasons.sized reasons.permitted reasons.placed
    reasons.instruction_of reasons.reads reasons.m_listed reasons.n_listed reasons.types_listed reasons.inside reasons.cleared reasons.waited reasons.open_rows
    reasons.closed_rows reasons.rows reasons.open_rules answer_at answer_by closing stop_by reason_by position_by state_by starts_by given effect requested released sum held_after
    peak_up_to ones ones_in cells.registers_for cells.lanes_for cells.columns_for cells.miscounted instruction.decoded shared.decoded
starts = refl

pub worked : Worked
unfolding judged_of lines_of byte_columns byte_column lines.upto lines.text_of lines.ended_of lines.rest lines.after lines.count_from lines.line_count lines.headed lines.warp_byte
    lines.warp_of lines.plain lines.laid_out lines.content_of lines.oversize
    reading.read_of reading.whole_c reading.answer_of reading.operands_c reading.row_c reading.more_row_c name_c number_c quantity_c expression_c goes_on factor_c chain_c links_c sum_c product_c plain_c ranged negated times plus reading.in_brackets_c reading.offset_c
    reading.inside_c reading.address_c reading.operand_c reading.more_c reading.names_c end_c mark_c recognise opcodes word opcode_byte word_byte letter after_blanks blank
    token_of token_len after_token is_name sigil packed is_number value_of spells worth digit_of after_comma after_commas operand_from name_from
    operand_place name_place every least s.is_live s.columns_of s.without s.total s.covers s.is_free s.free_from s.slot s.lowest s.is_bound s.width_of s.number_of s.bind s.is_by s.is_busy s.after_wait s.after_release
    cells.counted reasons.named reasons.roomed reasons.lane_of_warp reasons.laned reasons.warped reasons.sized reasons.permitted reasons.placed
    reasons.instruction_of reasons.reads reasons.m_listed reasons.n_listed reasons.types_listed reasons.inside reasons.cleared reasons.waited reasons.open_rows
    reasons.closed_rows reasons.rows reasons.open_rules answer_at answer_by closing stop_by reason_by position_by state_by starts_by given effect requested released sum held_after
    peak_up_to ones ones_in cells.registers_for cells.lanes_for cells.columns_for cells.miscounted instruction.decoded shared.decoded
worked =
    record {
      headers_are = refl;
      ends_are = refl;
      passes_are = refl;
      layouts_are = refl;
      stops_are = refl;
      requests_are = refl;
      accesses_are = refl;
      mmas_are = refl;
      sums_are = refl;
      wholes_are = wholes;
      starts_are = starts;
    }
