-- The worked examples hold, by computation. Assumes nothing.
use mathlib.Core.Path.{refl}
use Rattle.tokens.specs.Bytes.{letter, word_byte, opcode_byte, blank, after_blanks, token_len, token_of, after_token}
use Rattle.tokens.specs.Names.{sigil, is_name, packed}
use Rattle.tokens.specs.Numbers.{digit_of, spells, worth, is_number, value_of}
use Rattle.tokens.specs.Cursors.{mark_c, end_c, name_c, number_c}
use Rattle.expression.specs.Amounts.{ranged, negated, times, plus}
use Rattle.expression.specs.Expressions.{plain_c, sum_c, product_c, links_c, chain_c, factor_c, expression_c, goes_on, quantity_c}
use Rattle.statement.specs.Forms.{word}
use Rattle.statement.specs.Opcodes.{opcodes, recognise}
use Rattle.statement.specs.Reading.{offset_c, inside_c, address_c, more_c, names_c, more_row_c, row_c, answer_of, operands_c, whole_c, read_of}
use Rattle.statement.specs.Cells.{registers_for, miscounted, counted}
use Rattle.canonical.specs.Worked.{Worked}

pub worked : Worked
unfolding read_of whole_c answer_of operands_c row_c more_row_c name_c number_c quantity_c expression_c goes_on factor_c chain_c links_c sum_c product_c plain_c ranged negated times plus offset_c inside_c address_c more_c names_c end_c mark_c recognise opcodes word opcode_byte word_byte letter after_blanks blank token_of token_len after_token is_name sigil packed is_number value_of spells worth digit_of counted miscounted registers_for
worked = record { alone = refl }
