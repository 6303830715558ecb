-- `blame::mma` meets its contract: what was tested of the operands is what the state has. Assumes nothing.
use Rattle.std.proofs.Common.{◌∙◌}
use Rattle.blame.proofs.BlameLaws.{above_0, n_is, mma-blamed}
use Rattle.blame.proofs.mma.Goals as goal

pub returns : goal.returns
returns c s held w h e =
    mma-blamed s held w c.args.m _ (above_0 c.args.reason) e _ _ _ _ _
    (λ u. rw (c.n_of-n.ensures, c.word_of.ensures, c.find.ensures) (n_is s _ _ h c.args.m u))
    (c.address_tested-d.ensures s h.live) (c.operand_tested-a.ensures s h) (c.descriptor_tested-b.ensures s h.values)
    (c.metadata_tested-e.ensures s h.live) _ c.idesc_at.ensures _ c.pointed.ensures
