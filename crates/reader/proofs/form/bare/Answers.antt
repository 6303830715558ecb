-- `reader::form::bare` meets its contract. The end's contract and the answer's are the definition. Assumes nothing.
use Rattle.reader.proofs.form.bare.Goals as goal

pub returns : goal.returns
returns c = rw (← c.end.ensures.rest) c.answer.ensures
