-- `reader::form::answer` meets its contract. Each way out rewrites the definition by the cursor's tests and that of the length. Assumes nothing.
use lib.ListN.{length}
use borrow.Author.Tests.{le-leb, lt-leb, not-true, not-false}
use Rattle.statement.specs.Reading.{answer_of}
use Rattle.reader.proofs.form.answer.Goals as goal

pub returns-then-not-k : goal.returns-then-not-k
unfolding answer_of
returns-then-not-k c = rw (not-true c.args.k.ok c.if-not-k.true, c.place.ensures)

pub returns-then-s-gt-LONGEST : goal.returns-then-s-gt-LONGEST
unfolding answer_of
returns-then-s-gt-LONGEST c =
    let a = c.args in
    rw (not-false a.k.ok c.if-not-k.false, lt-leb (length a.s.now) 4096 c.if-s-gt-LONGEST.true)

pub returns-then-k : goal.returns-then-k
unfolding answer_of
returns-then-k c =
    let a = c.args in
    rw (not-false a.k.ok c.if-not-k.false, le-leb (length a.s.now) 4096 c.if-s-gt-LONGEST.false, c.if-k.true, c.place-then-k.ensures)

pub returns : goal.returns
unfolding answer_of
returns c =
    let a = c.args in
    rw (not-false a.k.ok c.if-not-k.false, le-leb (length a.s.now) 4096 c.if-s-gt-LONGEST.false, c.if-k.false)
