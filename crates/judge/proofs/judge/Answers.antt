-- `judge::judge` meets its contract: reason 1, then line 1, then what `judge_headed` gives. Assumes nothing.
use mathlib.Core.Path.{sym, ◌∙◌}
use Rattle.judge.proofs.Whole.{too_large, headless}
use Rattle.judge.proofs.judge.Goals as goal

pub returns-then-size_fault : goal.returns-then-size_fault
returns-then-size_fault c =
    let both = too_large c.args.sheet.now c.args.starts.now (sym c.size_fault.ensures ∙ c.if-size_fault.true) _ c.refused.ensures in
    record { answer = both.0; count = both.1.0; places = both.1.1.0; run = both.1.1.1 }

pub returns-then-not-is_headed : goal.returns-then-not-is_headed
returns-then-not-is_headed c =
    let o = sym c.size_fault.ensures ∙ c.if-size_fault.false in
    let h = sym c.is_headed.ensures ∙ c.if-not-is_headed.true in
    let both = headless c.args.sheet.now c.args.starts.now o h _ c.refused-then-not-is_headed.ensures in
    record { answer = both.0; count = both.1.0; places = both.1.1.0; run = both.1.1.1 }

pub judge_headed-requires : goal.judge_headed-requires
judge_headed-requires c = record { small = sym c.size_fault.ensures ∙ c.if-size_fault.false; headed = sym c.is_headed.ensures ∙ c.if-not-is_headed.false }
