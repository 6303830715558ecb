-- `writer::operand::names` meets its contract: a count that does not fit is refused, as it is not given. Assumes nothing.
use Rattle.std.proofs.Common.{take, ap, sym, ◌∙◌}
use Rattle.std.proofs.lemmas.Slice.{first_rest}
use Rattle.statement.specs.Canonical.{names_text, all_names}
use Rattle.pieces.proofs.Texts.{added_none}
use Rattle.writer.specs.Outputs.{capacity, add_c}
use Rattle.writer.proofs.Rows.{names_empty, names_none, names_all}
use Rattle.writer.proofs.operand.names.Goals as goal

pub returns-then-count-gt-NAMES : goal.returns-then-count-gt-NAMES
returns-then-count-gt-NAMES c =
    let a = c.args in
    rw (names_none a.names.now a.count c.then-count-gt-NAMES.either) (c.refuse.ensures ∙ added_none capacity (names_text (take a.count a.names.now)) a.t.now)

pub returns-in-empty : goal.returns-in-empty
returns-in-empty c =
    let a = c.args in
    let ns = take a.count a.names.now in
    rw (names_empty a.count ns c.in-empty.len_below) (c.refuse-in-empty.ensures ∙ added_none capacity (names_text ns) a.t.now)

pub returns-in-len1-up : goal.returns-in-len1-up
returns-in-len1-up c =
    let a = c.args in
    let ns = take a.count a.names.now in
    rw (names_all a.names.now a.count c.if-count-gt-NAMES.false c.if-names-count.false c.in-len1-up.len_at_least)
    (c.listed.ensures ∙ ap (λ l. add_c (names_text l) (all_names l) a.t.now) (sym (first_rest ns _ c.in-len1-up.len_at_least)))
