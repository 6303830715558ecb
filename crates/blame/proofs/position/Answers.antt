-- `blame::position` meets its contract: 15 and 5 point alike in every statement, any other reason by the statement. Assumes nothing.
use Rattle.std.proofs.Common.{sym, ◌∙◌}
use Rattle.blame.proofs.BlameLaws.{above_0, no_15, no_5, points, at_mov, at_booking, at_load, at_store, at-mma, at_rest}
use Rattle.blame.proofs.position.Goals as goal

pub returns-in-Exit : goal.returns-in-Exit
returns-in-Exit c s held w h e = sym (points s held w c.args.t _ (above_0 c.args.reason) e ∙ rw c.in-Exit.is)

pub returns-in-Registers : goal.returns-in-Registers
returns-in-Registers c s held w h e = sym (points s held w c.args.t _ (above_0 c.args.reason) e ∙ rw c.in-Registers.is)

pub returns-in-Mov32 : goal.returns-in-Mov32
returns-in-Mov32 c s held w h e =
    let r = c.args.reason in
    at_mov s _ c.args.t c.in-Mov32.in-Mov32-own.keys1 (no_15 r c.in_default.not-Exit) (no_5 r c.in_default.not-Registers) ∙ sym (points s held w c.args.t _ (above_0 r) e)

pub returns-in-Alloc : goal.returns-in-Alloc
returns-in-Alloc c s held w h e =
    let r = c.args.reason in
    c.booking.ensures ∙ at_booking s _ c.args.t c.in-Alloc.in-Alloc-own.keys2 (no_15 r c.in_default.not-Exit) (no_5 r c.in_default.not-Registers) ∙ sym (points s held w c.args.t _ (above_0 r) e)

pub returns-in-Load : goal.returns-in-Load
returns-in-Load c s held w h e =
    let r = c.args.reason in
    c.access.ensures ∙ at_load s _ c.args.t c.in-Load.in-Load-own.keys3 (no_15 r c.in_default.not-Exit) (no_5 r c.in_default.not-Registers) ∙ sym (points s held w c.args.t _ (above_0 r) e)

pub returns-in-Store : goal.returns-in-Store
returns-in-Store c s held w h e =
    let r = c.args.reason in
    c.access-in-Store.ensures ∙ at_store s _ c.args.t c.in-Store.in-Store-own.keys4 (no_15 r c.in_default.not-Exit) (no_5 r c.in_default.not-Registers) ∙ sym (points s held w c.args.t _ (above_0 r) e)

pub returns-in-Multiply : goal.returns-in-Multiply
returns-in-Multiply c s held w h e =
    let r = c.args.reason in
    at-mma s held w c.args.t _ c.in-Multiply.is _ (no_15 r c.in_default.not-Exit) (no_5 r c.in_default.not-Registers) (above_0 r) e _ (λ _. c.mma.ensures s held w h)

pub returns-in-WaitLoad : goal.returns-in-WaitLoad
returns-in-WaitLoad c s held w h e =
    let r = c.args.reason in
    at_rest s _ c.args.t c.in-WaitLoad.in-WaitLoad-own.keys6 (no_15 r c.in_default.not-Exit) (no_5 r c.in_default.not-Registers) ∙ sym (points s held w c.args.t _ (above_0 r) e)
