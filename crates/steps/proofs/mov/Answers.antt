-- `steps::mov` meets its contract. Whether the name is live, and what the table answers, is the rules' reason (StepLaws.antt). Assumes nothing.
use Rattle.std.proofs.Common.{sym, ◌∙◌}
use Rattle.std.proofs.lemmas.Result.{err_from_is_err_and}
use Rattle.steps.proofs.StepLaws.{tested, mov_6, mov_no, mov_yes}
use Rattle.steps.proofs.mov.Goals as goal

pub returns-then-is_some-clause-done : goal.returns-then-is_some-clause-done
returns-then-is_some-clause-done c held w = mov_6 held w c.args.books.now c.args.name _ (tested c.find.ensures.found c.is_some.ensures c.if-is_some.true)

pub returns-in_err-bind-clause-done : goal.returns-in_err-bind-clause-done
returns-in_err-bind-clause-done c held w =
    let p = err_from_is_err_and c.from_residual.result c.from_residual.ensures.1 in
    rw (p.1, p.2, c.bind.ensures.table)
    (mov_no held w c.args.books.now c.args.name (tested c.find.ensures.found c.is_some.ensures c.if-is_some.false) c.args.value _ (sym c.bind.ensures.answer ∙ c.in_err-bind.was))

pub returns-clause-done : goal.returns-clause-done
returns-clause-done c held w =
    rw c.bind.ensures.table
    (mov_yes held w c.args.books.now c.args.name (tested c.find.ensures.found c.is_some.ensures c.if-is_some.false) c.args.value (sym c.bind.ensures.answer ∙ c.in_ok-bind.was))
