-- `staplehorn::sheets::staplehorn_judge` meets its contract: the answer is taken apart; its line, its column and its count of starts are small numbers. Assumes nothing.
use native.Mathlib.Omega.{arith}
use mathlib.Core.Path.{ap}
use lib.ListN.{length}
use Rattle.rules.specs.declared.Answer.{Answer}
use Rattle.staplehorn.specs.Sheets.{numbers}
use Rattle.staplehorn.proofs.SheetLaws.{answer_small, count_most}
use Rattle.staplehorn.proofs.sheets.staplehorn_judge.Goals as goal

pub overflow_cast-line : goal.overflow_cast-line
overflow_cast-line c =
    let p = c.judge-judged.ensures in
    let a = c.args in
    omega (arith, ap (λ (x : Answer). x.line) p.answer, (answer_small a.sheet.now (length a.starts.now)).line)

pub overflow_cast-column : goal.overflow_cast-column
overflow_cast-column c =
    let p = c.judge-judged.ensures in
    let a = c.args in
    omega (arith, ap (λ (x : Answer). x.column) p.answer, (answer_small a.sheet.now (length a.starts.now)).column)

pub overflow_cast-count : goal.overflow_cast-count
overflow_cast-count c =
    let p = c.judge-judged.ensures in
    let a = c.args in
    omega (arith, p.count, count_most a.sheet.now (length a.starts.now))

pub returns : goal.returns
returns c =
    let p = c.judge-judged.ensures in
    (record { reason = ap (λ (x : Answer). x.reason) p.answer; answer = (λ i. numbers (p.answer i) (p.count i)); places = p.places; run = p.run })
