-- `lexer::bytes::is_word` meets its contract: each way out is one range of bytes, in which the definition's tests are known. Assumes nothing.
use Rattle.lexer.proofs.Laws.{word_high, word_low, word_mid}
use Rattle.lexer.proofs.bytes.is_word.Goals as goal

pub returns-then-x-ge97 : goal.returns-then-x-ge97
returns-then-x-ge97 c = word_high c.args.x c.if-x-ge97.true

pub returns-then-x-le57 : goal.returns-then-x-le57
returns-then-x-le57 c = word_low c.args.x c.if-x-le57.true

pub returns : goal.returns
returns c = rw c.is_ascii_uppercase.ensures.value (word_mid c.args.x c.if-x-le57.false c.if-x-ge97.false)
