-- `pieces::text::Text::put` meets its contract: the bytes are added exactly where the buffer has room for them. Assumes nothing.
use Rattle.std.proofs.Common.{sym, ◌∙◌}
use Rattle.pieces.proofs.Texts.{put_none, put_some, put_fits}
use Rattle.pieces.proofs.text.Text.put.Goals as goal

pub returns-then-is_err : goal.returns-then-is_err
returns-then-is_err g c =
    rw (← c.self.view_is) (put_none g.row.N c.args.w.now c.self.inside.bytes.items c.self.inside.refused c.self.invariant c.try_extend_from_slice.result c.try_extend_from_slice.ensures.variant (sym c.is_err.ensures.value ∙ c.if-is_err.true))

pub returns-else-is_err : goal.returns-else-is_err
returns-else-is_err g c =
    rw (← c.self.view_is) (put_some g.row.N c.args.w.now c.self.inside.bytes.items c.self.inside.refused c.self.invariant c.try_extend_from_slice.result _ c.try_extend_from_slice.ensures.variant c.try_extend_from_slice.ensures.ok (sym c.is_err.ensures.value ∙ c.if-is_err.false))

pub invariant_of-self : goal.invariant_of-self
invariant_of-self g c =
    let e = c.try_extend_from_slice.ensures in
    put_fits g.row.N c.args.w.now (λ b. b.items) c.self.inside.bytes c.try_extend_from_slice.new.self c.try_extend_from_slice.result c.self.invariant e.variant e.ok e.err
