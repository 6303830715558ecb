-- `judge::judge_headed` meets its contract: the answer of the loop over the lines; as many places are put as it has starts. Assumes nothing.
use mathlib.Core.Path.{sym, ◌∙◌}
use lib.Seq.{length-take-le}
use native.Mathlib.Omega.{arith}
use Rattle.judge.proofs.Whole.{few_lines, few, put}
use Rattle.judge.proofs.judge_headed.Goals as goal

pub judge_lines-judged-requires : goal.judge_lines-judged-requires
judge_lines-judged-requires c = record { headed = c.requires.headed; few = few_lines c.args.sheet.now c.requires.small }

pub slice_bounds-copy_from_slice-end : goal.slice_bounds-copy_from_slice-end
slice_bounds-copy_from_slice-end c =
    let j = c.judge_lines-judged in
    few c.args.sheet.now c.args.starts.now c.requires.small j.result j.ensures.answer j.ensures.count _ j.ensures.starts

pub slice_bounds-copy_from_slice-end-2 : goal.slice_bounds-copy_from_slice-end-2
slice_bounds-copy_from_slice-end-2 c =
    let j = c.judge_lines-judged in
    let m = few c.args.sheet.now c.args.starts.now c.requires.small j.result j.ensures.answer j.ensures.count _ j.ensures.starts in
    sym (length-take-le j.result.starts c.args.starts.now m)

pub copy_from_slice-requires : goal.copy_from_slice-requires
copy_from_slice-requires c =
    let j = c.judge_lines-judged in
    let m = few c.args.sheet.now c.args.starts.now c.requires.small j.result j.ensures.answer j.ensures.count _ j.ensures.starts in
    length-take-le j.result.starts c.args.starts.now m ∙ sym (length-take-le j.result.starts j.new.given (omega (arith, j.ensures.size, j.array_long)))

pub returns : goal.returns
returns c =
    let j = c.judge_lines-judged in
    let both = put c.args.sheet.now c.args.starts.now c.requires.small j.result j.ensures.answer j.ensures.count _ j.ensures.starts in
    rw c.copy_from_slice.ensures.after (record { answer = both.0; count = both.1.0; places = both.1.1.0; run = both.1.1.1 })
