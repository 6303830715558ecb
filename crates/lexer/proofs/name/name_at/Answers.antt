-- `lexer::name::name_at` meets its contract: nothing is left, no name starts so, or the run of word bytes ends within the first word, within the second, or after it. Assumes nothing.
use Prim.Native.Nat.{◌+◌}
use mathlib.Core.Path.{sym, ◌∙◌}
use native.Mathlib.Omega.{arith}
use lib.ListN.{length-drop, drop}
use Rattle.tokens.specs.Bytes.{word_byte}
use Rattle.tokens.proofs.Runs.{run_le}
use Rattle.lexer.proofs.Names.{name-past, name-not, short_none, short_end, short_name, long_none, long_end, long_name}
use Rattle.lexer.proofs.name.name_at.Goals as goal

pub returns-then-s-at-clause-value : goal.returns-then-s-at-clause-value
returns-then-s-at-clause-value c = name-past c.args.s.now c.args.at c.if-s-at.true

pub returns-then-not-starts-clause-value : goal.returns-then-not-starts-clause-value
returns-then-not-starts-clause-value c =
    let a = c.args in
    name-not a.s.now a.at c.if-s-at.false (sym c.starts.ensures ∙ c.if-not-starts.true)

pub pack-h-requires : goal.pack-h-requires
pack-h-requires c = (omega arith, omega arith, omega (arith, c.from.ensures))

pub returns-then-is_letter-at : goal.returns-then-is_letter-at
returns-then-is_letter-at c =
    let a = c.args in
    let h = c.pack-h in
    let p = c.if-s-at.false in
    let q = sym c.starts.ensures ∙ c.if-not-starts.false in
    rw (h.ensures.value, c.from.ensures) (record { value = short_name a.s.now a.at p q h.result.end h.ensures.end c.if-e-at.true (rw c.is_letter.ensures at c.if-is_letter-at.true); end = short_end a.s.now a.at p q h.result.end h.ensures.end c.if-e-at.true })

pub returns-then-e-at-clause-value : goal.returns-then-e-at-clause-value
returns-then-e-at-clause-value c =
    let a = c.args in
    let h = c.pack-h in
    short_none a.s.now a.at c.if-s-at.false (sym c.starts.ensures ∙ c.if-not-starts.false) h.result.end h.ensures.end c.if-e-at.true (rw c.is_letter.ensures at c.if-is_letter-at.false)

pub pack-l-requires : goal.pack-l-requires
pack-l-requires c =
    let a = c.args in
    let m = drop (a.at + 1) a.s.now in
    (omega (arith, c.pack-h.ensures.end, run_le word_byte m, length-drop (a.at + 1) a.s.now), omega arith, omega arith)

pub returns-then-at-end-clause-value : goal.returns-then-at-end-clause-value
returns-then-at-end-clause-value c =
    let a = c.args in
    let l = c.pack-l in
    let g = rw c.pack-h.ensures.end at c.if-e-at.false in
    long_none a.s.now a.at c.if-s-at.false (sym c.starts.ensures ∙ c.if-not-starts.false) g l.result.end l.ensures.end (rw c.word_at.ensures at c.if-at-end.true)

pub returns : goal.returns
returns c =
    let a = c.args in
    let h = c.pack-h in
    let l = c.pack-l in
    let p = c.if-s-at.false in
    let q = sym c.starts.ensures ∙ c.if-not-starts.false in
    let g = rw h.ensures.end at c.if-e-at.false in
    let k = rw c.word_at.ensures at c.if-at-end.false in
    rw (h.ensures.value, l.ensures.value, c.from.ensures) (record { value = long_name a.s.now a.at p q g l.result.end l.ensures.end k; end = long_end a.s.now a.at p q g l.result.end l.ensures.end k })
