-- `judge::judge_lines` meets its contract: before each line the judge stands where `Standing` says. The measure is what is left of the sheet. Assumes
-- nothing.
use mathlib.Core.Path.{ap, ◌∙◌}
use Rattle.judge.proofs.Standing.{begins, less_left, ready, refuses, refused_count, goes, goes_on, ends-counted, ends}
use Rattle.judge.proofs.judge_lines.Goals as goal

pub loop-at-init : goal.loop-at-init
loop-at-init c = begins c.args.sheet.now c.args.given.now _ _ c.new-books.ensures c.opening-p.ensures c.requires.headed

pub advance-done-requires : goal.advance-done-requires
advance-done-requires c = ready c.args.sheet.now _ _ _ _ _ c.loop-at.invariant c.loop-at-test.true c.requires.few

pub returns-in-Err : goal.returns-in-Err
returns-in-Err c =
    let s = c.args.sheet.now in
    let r = c.refused.ensures in
    let both = refused_count s _ c.refused.result.answer _ (ap (λ y. y.reason) r.0) r.1 in
    record {
      answer = r.0 ∙ refuses s _ _ _ _ _ c.loop-at.invariant c.loop-at-test.true _ _ _ _ c.advance-done.ensures.went _ c.in-Err.is c.args.room c.requires.headed;
      count = both.0;
      size = both.1.0;
      starts = λ e. absurd (both.1.1 e);
    }

pub loop-at-smaller : goal.loop-at-smaller
loop-at-smaller c =
    let s = c.args.sheet.now in
    let l = c.loop-at in
    let t = c.loop-at-test.true in
    let x = c.advance-done in
    less_left s l.at x.result.next t (goes s _ _ _ _ _ l.invariant t _ _ _ _ x.ensures.went c.in_default.is _ x.ensures.next)

pub loop-at-preserved : goal.loop-at-preserved
loop-at-preserved c =
    let x = c.advance-done.ensures in
    goes_on c.args.sheet.now _ _ _ _ _ c.loop-at.invariant c.loop-at-test.true _ _ _ _ x.went c.in_default.is _ x.next

pub returns : goal.returns
returns c =
    let s = c.args.sheet.now in
    let l = c.loop-at in
    let t = c.loop-at-test.false in
    let r = c.finish in
    let counted = ends-counted s _ _ _ _ _ l.invariant t c.requires.few c.told-given r.result.answer r.result.starts r.ensures.starts in
    record {
      answer = r.ensures.answer ∙ ends s _ _ _ _ _ l.invariant t c.args.room c.requires.headed;
      count = counted.0;
      size = counted.1.0;
      starts = counted.1.1;
    }
