-- `lines::is_headed` meets its contract: the header and its LF stand at the start exactly when line 1 is the header, and ended. Assumes nothing.
use Rattle.std.proofs.Common.{sym, ◌∙◌}
use Rattle.lines.proofs.HeaderLaws.{headed_starts}
use Rattle.lines.proofs.is_headed.Goals as goal

pub returns : goal.returns
returns c = c.starts_with.ensures.value ∙ sym (headed_starts c.args.sheet.now)
