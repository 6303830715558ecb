-- `bindings::Bindings::entry` meets its contract: none of the entries passed so far ends the search (EntryLaws.antt). Assumes nothing.
use Rattle.std.proofs.Common.{sym, ◌∙◌, ap, ◌+◌, ◌*◌, ◌%◌, arith}
use Rattle.bindings.proofs.EntryLaws.{entry_start, entry_here, entry_more, entry_end}
use Rattle.bindings.proofs.Bindings.entry.Goals as goal

pub loop-i-init : goal.loop-i-init
loop-i-init c = entry_start _ _

pub returns-then-is_stop : goal.returns-then-is_stop
returns-then-is_stop c =
    (entry_here _ _ c.loop-i.i _ c.loop-i.invariant (omega arith) (ap (λ n. (n + c.loop-i.i * 11) % 128) c.home-start.ensures.0) (sym c.if-is_stop.true ∙ c.is_stop.ensures), omega arith)

pub loop-i-preserved : goal.loop-i-preserved
loop-i-preserved c =
    entry_more _ _ c.loop-i.i _ c.loop-i.invariant (omega arith) (ap (λ n. (n + c.loop-i.i * 11) % 128) c.home-start.ensures.0) (sym c.if-is_stop.false ∙ c.is_stop.ensures)

pub returns : goal.returns
returns c = (entry_end _ _ c.loop-i.i c.loop-i.invariant (omega arith), tt)
