-- `checks::mma_reason` meets its contract: what is found of its operands is what the state has. Assumes nothing.
use Rattle.std.proofs.Common.{ap, sym, ◌∙◌}
use Rattle.std.specs.Prelude.{is_some}
use Rattle.ledger.specs.Booking.{columns_in}
use Rattle.ledger.proofs.FoundLaws.{finds_in}
use Rattle.checks.proofs.MmaLaws.{word_width, word_number}
use Rattle.checks.proofs.mma_reason.Goals as goal

pub returns : goal.returns
returns c s held w h =
    let f = finds_in c.args.ledger.now s.live h.live in
    let word = rw c.find.ensures at c.word_of-word.ensures in
    c.operands_reason.ensures s held w (record {
      live = ap is_some c.find-d.ensures.found ∙ f.live c.args.m.d.base;
      size = ap columns_in c.find-d.ensures.found ∙ f.size c.args.m.d.base;
      operand = c.operand_tested-a.ensures s h;
      descriptor = c.descriptor_tested-b.ensures s h.values;
      metadata = c.metadata_tested-e.ensures s h.live;
      width = ap is_some word ∙ word_width _ s h.values c.args.m.idesc;
      number = λ x p. word_number _ s h.values c.args.m.idesc x (sym word ∙ p);
    })
