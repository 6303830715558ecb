-- `lexer::name::pack` meets its contract. The loop's invariant: the bytes from here, after the value, are the bytes from the start after v, and end where these do; the value has at most eight bits for each byte there was room for. Assumes nothing.
use Prim.Native.Nat.{◌+◌, ◌-◌, ◌<◌}
use mathlib.Core.Path.{◌≡◌, refl, sym, ◌∙◌}
use lib.ListN.{length, drop, length-drop}
use native.Mathlib.Omega.{arith}
use Rattle.tokens.specs.Bytes.{word_byte}
use Rattle.lexer.specs.Runs.{words_len}
use Rattle.tokens.proofs.Runs.{run_le, run_step, run_stop}
use Rattle.lexer.proofs.Names.{pack-start, pack_step, pack-none, cap_next, cap_step, cap_small}
use Rattle.lexer.proofs.name.pack.Goals as goal

pub loop-i-init : goal.loop-i-init
loop-i-init c =
    let a = c.args in
    let p = pack-start a.at a.room in
    rw (p.0, p.1) (omega arith, omega arith, c.requires.2, refl, refl)

pub returns-then-not-is_word : goal.returns-then-not-is_word
returns-then-not-is_word c =
    let a = c.args in
    let l = c.loop-i in
    let d : l.i < length a.s.now = omega arith in
    let r = run_stop word_byte a.s.now l.i d (sym c.is_word.ensures ∙ c.if-not-is_word.true) in
    let z : words_len (a.at + a.room - l.i) (drop l.i a.s.now) ≡ 0 = omega arith in
    (record { value = sym (pack-none (drop l.i a.s.now) l.value _ z) ∙ l.invariant.3; end = omega arith })

pub overflow_mul-value : goal.overflow_mul-value
overflow_mul-value c = omega (arith, cap_small (8 - c.args.room + (c.loop-i.i - c.args.at)) (omega arith))

pub overflow_add-value : goal.overflow_add-value
overflow_add-value c = omega (arith, c.from.ensures, cap_small (8 - c.args.room + (c.loop-i.i - c.args.at)) (omega arith), c.shared_slice_known-in-loop-i-1.given c.loop-i.i)

pub loop-i-preserved : goal.loop-i-preserved
loop-i-preserved c =
    let a = c.args in
    let l = c.loop-i in
    let d : l.i < length a.s.now = omega arith in
    let q : l.i < a.at + a.room = omega arith in
    let b = sym c.is_word.ensures ∙ c.if-not-is_word.false in
    let k = 8 - a.room + (l.i - a.at) in
    rw c.from.ensures (
      omega arith,
      omega arith,
      rw (cap_next a.room a.at l.i l.invariant.0) (omega (arith, cap_step k, c.shared_slice_known-in-loop-i-1.given l.i)),
      sym (pack_step a.s.now l.value (a.at + a.room) l.i q d b) ∙ l.invariant.3,
      omega (arith, run_step word_byte a.s.now l.i d b),
    )

pub returns : goal.returns
returns c =
    let a = c.args in
    let l = c.loop-i in
    let z : words_len (a.at + a.room - l.i) (drop l.i a.s.now) ≡ 0 = omega (arith, run_le word_byte (drop l.i a.s.now), length-drop l.i a.s.now) in
    (record { value = sym (pack-none (drop l.i a.s.now) l.value _ z) ∙ l.invariant.3; end = omega arith })
