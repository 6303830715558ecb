-- `staplehorn::words::judge_fields` meets its contract: the opcode decides. Assumes nothing.
use mathlib.Core.Path.{◌≡◌, ap, ◌∙◌}
use Rattle.std.specs.Prelude.{Option, Some}
use Rattle.std.proofs.Common.{rules}
use Rattle.instruction.specs.declared.Opcode.{Opcode}
use Rattle.staplehorn.specs.Words.{opcode_of, listed_for}
use Rattle.staplehorn.proofs.words.judge_fields.Goals as goal

pub returns : goal.returns
returns c =
    let x = c.args in
    let e : Some c.in_ok-opcode.opcode ≡ opcode_of x.kind x.ws x.sp = search rules in
    c.listed_fields.ensures ∙ ap (λ (o : Option Opcode). listed_for o x.f) e
