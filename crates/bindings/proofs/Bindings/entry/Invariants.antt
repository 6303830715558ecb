-- `bindings::Bindings::entry` meets its contract: none of the entries passed so far ends the search (EntryLaws.antt). Assumes nothing.
use Rattle.bindings.proofs.EntryLaws.{Passed}
use Rattle.bindings.proofs.Bindings.entry.Given as goal

abbrev pub invariant-loop-i : goal.invariant-loop-i
invariant-loop-i l = Passed l.self l.name l.i
