-- `pieces::text::Text::name` meets its contract: the halves without the zeros that lead are the bytes of the name. Assumes nothing.
use Rattle.std.proofs.Common.{◌∙◌}
use Rattle.tokens.specs.Names.{name_bytes}
use Rattle.laws.proofs.StoreLaws.{tail_is}
use Rattle.pieces.proofs.Texts.{join}
use Rattle.pieces.proofs.text.Text.name.Goals as goal

pub returns : goal.returns
unfolding name_bytes
returns g c =
    let i = c.spread-i in
    let j = c.spread-j in
    rw (c.put-2.ensures, c.put.ensures, tail_is j.new.out 8 j.result j.array_long ∙ j.ensures.2, tail_is i.new.out 8 i.result i.array_long ∙ i.ensures.2, join)
