-- `writer::output::all_words` meets its contract: `all` asks each byte. Assumes nothing.
use Rattle.std.proofs.Common.{◌∙◌, rules, tests}
use Rattle.std.proofs.lemmas.Iterator.{YieldsList-from_slice}
use Rattle.std.proofs.lemmas.Iterator.Search.{all_from_yields_List}
use Rattle.tokens.specs.Bytes.{word_byte}
use Rattle.writer.proofs.Laws.{all_is}
use Rattle.writer.proofs.output.all_words.Goals as goal

pub returns : goal.returns
returns c =
    all_from_yields_List word_byte _ _ c.all.result c.all.ensures.ran (YieldsList-from_slice c.args.d.now cc) (λ x b q k. search (rules, tests)) ∙ all_is word_byte c.args.d.now
