-- `writer::output::name` meets its contract: the halves without the zeros that lead are the bytes of the name, and decide whether it is given; a second one
-- with no bytes adds nothing. Assumes nothing.
use Rattle.std.proofs.Common.{◌≡◌, [], true, false, arith, sym, ◌∙◌}
use lib.ListN.{drop_of_length-le}
use mathlib.Core.List.{append-nil}
use Rattle.tokens.specs.Names.{name_bytes, name_given, strip, low_bytes}
use Rattle.laws.proofs.StoreLaws.{tail_is}
use Rattle.pieces.proofs.Texts.{added_none, join}
use Rattle.writer.specs.Outputs.{capacity}
use Rattle.writer.proofs.Halves.{given_law}
use Rattle.writer.proofs.output.name.Goals as goal

pub returns-then-b-lt8 : goal.returns-then-b-lt8
unfolding name_bytes
returns-then-b-lt8 c =
    let h = c.spread-a in
    let l = c.spread-b in
    let first = tail_is h.new.out 8 h.result h.array_long ∙ h.ensures.2 in
    let second = tail_is l.new.out 8 l.result l.array_long ∙ l.ensures.2 in
    let given : name_given c.args.n ≡ true = rw (given_law c.args.n (omega arith) (omega arith), ← first, ← second) (sym c.halves.ensures ∙ c.if-halves.true) in
    rw (given, c.put-then-b-lt8.ensures, c.put.ensures, first, second, join)

pub returns-else-b-lt8 : goal.returns-else-b-lt8
unfolding name_bytes
returns-else-b-lt8 c =
    let h = c.spread-a in
    let l = c.spread-b in
    let first = tail_is h.new.out 8 h.result h.array_long ∙ h.ensures.2 in
    let second = tail_is l.new.out 8 l.result l.array_long ∙ l.ensures.2 in
    let given : name_given c.args.n ≡ true = rw (given_law c.args.n (omega arith) (omega arith), ← first, ← second) (sym c.halves.ensures ∙ c.if-halves.true) in
    let none : strip (low_bytes 8 c.args.n.lo) ≡ [] = sym l.ensures.2 ∙ drop_of_length-le l.new.out (omega (arith, l.array_long, c.if-b-lt8.false)) in
    rw (given, c.put.ensures, first, none, append-nil)

pub returns-else-halves : goal.returns-else-halves
returns-else-halves c =
    let h = c.spread-a in
    let l = c.spread-b in
    let first = tail_is h.new.out 8 h.result h.array_long ∙ h.ensures.2 in
    let second = tail_is l.new.out 8 l.result l.array_long ∙ l.ensures.2 in
    let given : name_given c.args.n ≡ false = rw (given_law c.args.n (omega arith) (omega arith), ← first, ← second) (sym c.halves.ensures ∙ c.if-halves.false) in
    rw given (c.refuse.ensures ∙ added_none capacity (name_bytes c.args.n) c.args.t.now)
