-- The tables of worked expressions are computed. Assumes nothing.
use mathlib.Core.Path.{refl}
use Rattle.tokens.specs.Bytes.{letter, word_byte, opcode_byte, blank, after_blanks, token_len, token_of, after_token}
use Rattle.tokens.specs.Names.{sigil, is_name, packed, low_bytes, strip, name_bytes}
use Rattle.tokens.specs.Numbers.{digit_of, spells, worth, is_number, value_of, low_digits, trimmed, decimal}
use Rattle.tokens.specs.Cursors.{mark_c, end_c, name_c, number_c}
use Rattle.expression.specs.Amounts.{ranged, negated, times, plus}
use Rattle.expression.specs.Expressions.{plain_c, sum_c, product_c, links_c, chain_c, factor_c, expression_c, goes_on, quantity_c}
use Rattle.statement.specs.Forms.{word}
use Rattle.statement.specs.Opcodes.{opcodes, recognise}
use Rattle.statement.specs.Reading.{in_brackets_c, offset_c, inside_c, address_c, operand_c, more_c, names_c, more_row_c, row_c, answer_of, operands_c, whole_c, read_of, registers_of}
use Rattle.statement.specs.Canonical.{address_text, operand_text, more_names_text, names_text, more_row_text, row_text, text_of}
use Rattle.grammar.specs.WorkedExpressions.{WorkedExpressions}

pub worked_expressions : WorkedExpressions
unfolding read_of registers_of whole_c answer_of operands_c row_c more_row_c name_c number_c quantity_c expression_c goes_on factor_c chain_c links_c sum_c product_c plain_c ranged negated times plus offset_c inside_c address_c operand_c more_c names_c in_brackets_c end_c mark_c recognise opcodes word opcode_byte word_byte letter after_blanks blank token_of token_len after_token is_name sigil packed is_number value_of spells worth digit_of
    low_bytes strip name_bytes low_digits trimmed decimal address_text operand_text more_names_text names_text more_row_text row_text text_of
worked_expressions = record { moved_are = refl; depths_are = refl; places_are = refl; rewritten_are = refl }
