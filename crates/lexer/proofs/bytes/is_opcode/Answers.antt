-- `lexer::bytes::is_opcode` meets its contract: each way out is one range of bytes, in which the definition's tests are known. Assumes nothing.
use Rattle.lexer.proofs.Laws.{opcode_high, opcode_low, opcode_mid}
use Rattle.lexer.proofs.bytes.is_opcode.Goals as goal

pub returns-then-x-ge97 : goal.returns-then-x-ge97
returns-then-x-ge97 c = opcode_high c.args.x c.if-x-ge97.true

pub returns-then-x-le58 : goal.returns-then-x-le58
returns-then-x-le58 c = opcode_low c.args.x c.if-x-le58.true

pub returns : goal.returns
returns c = rw c.is_ascii_uppercase.ensures.value (opcode_mid c.args.x c.if-x-le58.false c.if-x-ge97.false)
