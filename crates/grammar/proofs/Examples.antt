-- The worked examples hold: antt computes each table from the definitions; that of the statements by their canonical texts, which read
-- back. Assumes nothing.
use Prim.Native.Nat.{ℕ}
use Prim.Native.String.{String}
use mathlib.Core.Path.{◌≡◌, refl, subst}
use mathlib.Core.List.{List, [], ◌∷◌, ◌++◌, map}
use mathlib.Core.Bool.{Bool, true}
use Rattle.tokens.specs.declared.Name.{Name}
use Rattle.tokens.specs.Text.{bytes}
use Rattle.tokens.specs.Bytes.{letter, word_byte, opcode_byte, blank, after_blanks, token_len, token_of, after_token}
use Rattle.tokens.specs.Names.{sigil, is_name, packed, low_bytes, strip, name_bytes, name_given}
use Rattle.tokens.specs.Numbers.{digit_of, spells, worth, is_number, value_of, low_digits, trimmed, decimal}
use Rattle.tokens.specs.Cursors.{mark_c, end_c, name_c, number_c}
use Rattle.expression.specs.Amounts.{ranged, negated, times, plus}
use Rattle.expression.specs.Expressions.{plain_c, sum_c, product_c, links_c, chain_c, factor_c, expression_c, goes_on, quantity_c}
use Rattle.statement.specs.declared.Statement.{Statement}
use Rattle.statement.specs.Forms.{word}
use Rattle.statement.specs.Opcodes.{opcodes, recognise}
use Rattle.statement.specs.Reading.{in_brackets_c, offset_c, inside_c, address_c, operand_c, more_c, names_c, more_row_c, row_c, answer_of, operands_c, whole_c, read_of, registers_of}
use Rattle.statement.specs.Positions.{after_comma, after_commas, operand_from, name_from, operand_place, name_place}
use Rattle.statement.specs.Canonical.{address_text, operand_text, more_names_text, names_text, more_row_text, row_text, text_of, row_given, given}
use Rattle.grammar.specs.Claims.{Reads}
use Rattle.grammar.proofs.Trip.{trip}
use Rattle.grammar.specs.Examples.{Examples, AllRead, typed, accesses, mmas}

-- a row of the statements: its text, and the statement's canonical text
abbrev Row : Type 0
Row = String × Statement × List Name

abbrev shown : Row → List ℕ
shown (text, t, regs) = bytes text

abbrev spelled : Row → List ℕ
spelled (text, t, regs) = text_of t regs

abbrev allowed : Row → Bool
allowed (text, t, regs) = given t regs

-- a text that is the canonical text of a statement reads as it
all_read : (l : List Row) → map spelled l ≡ map shown l → map allowed l ≡ map (λ r. true) l → AllRead l
all_read [] e g = tt
all_read ((text, t, regs) ∷ l) e g =
    let p : text_of t regs ≡ bytes text = cc in
    let q : given t regs ≡ true = cc in
    let e : map spelled l ≡ map shown l = cc in
    let g : map allowed l ≡ map (λ r. true) l = cc in
    (subst (λ (w : List ℕ). Reads w t regs) p (trip t regs q).back, all_read l e g)

statements_read : AllRead (typed ++ (accesses ++ mmas))
unfolding given row_given text_of row_text more_row_text names_text more_names_text operand_text address_text word name_given name_bytes strip low_bytes is_name sigil letter word_byte packed decimal trimmed low_digits
statements_read = all_read (typed ++ (accesses ++ mmas)) refl refl

pub examples : Examples
unfolding read_of registers_of whole_c answer_of operands_c row_c more_row_c name_c number_c quantity_c expression_c goes_on factor_c chain_c links_c sum_c product_c plain_c ranged negated times plus in_brackets_c offset_c inside_c address_c operand_c more_c names_c end_c mark_c recognise opcodes word opcode_byte word_byte letter after_blanks blank token_of token_len after_token is_name sigil packed is_number value_of spells worth digit_of
    low_bytes strip name_bytes low_digits trimmed decimal address_text operand_text more_names_text names_text more_row_text row_text text_of
    after_comma after_commas operand_from name_from operand_place name_place
examples = record { reasons = refl; limits_are = refl; statements = statements_read; stops = refl; numbers_stop = refl; long = refl; operands = refl; canonicals_are = refl; decimals_are = refl }
