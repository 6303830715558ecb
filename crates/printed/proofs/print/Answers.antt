-- `printed::print` meets its contract: the first line is put, and on a pass the rows after it, which are the whole report. Assumes nothing.
use mathlib.Core.Path.{refl}
use Rattle.printed.proofs.PrintLaws.{none_19, too_short, refused_printed, rows_ready, passed_printed}
use Rattle.printed.proofs.print.Goals as goal

pub returns-then-room-lt-ROOM : goal.returns-then-room-lt-ROOM
returns-then-room-lt-ROOM c =
    let w = too_short c.args.sheet.now c.args.room.now c.if-room-lt-ROOM.true in
    rw c.number.ensures (record { answer = w.0; places = w.1.0; fits = w.1.1; run = λ p. none_19 _ p })

pub returns-then-answer-ne0 : goal.returns-then-answer-ne0
returns-then-answer-ne0 c =
    let a = c.args in
    let h = c.head-at.ensures in
    let j = c.judge.ensures in
    let w = refused_printed a.sheet.now a.room.now c.if-room-lt-ROOM.false 4096 refl _ j.answer _ _ _ _ _
    c.from.ensures refl refl c.from-2.ensures c.from-3.ensures _ _ h.next h.places c.if-answer-ne0.true in
    (record { answer = w.0; places = w.1.0; fits = w.1.1; run = λ p. (j.run p).demand })

pub rows-length-requires : goal.rows-length-requires
rows-length-requires c =
    let a = c.args in
    let h = c.head-at.ensures in
    let j = c.judge.ensures in
    let both = rows_ready a.sheet.now a.room.now c.if-room-lt-ROOM.false 4096 refl _ j.answer _ _ _ _ _
    c.from.ensures refl refl c.from-2.ensures c.from-3.ensures _ _ h.next h.places c.if-answer-ne0.false _ j.places in
    record { passed = both.0; fits = both.1 }

pub returns : goal.returns
returns c =
    let h = c.head-at.ensures in
    let j = c.judge.ensures in
    let a = c.args in
    let t = c.rows-length.ensures in
    let w = passed_printed a.sheet.now a.room.now c.if-room-lt-ROOM.false 4096 refl _ j.answer _ _ _ _ _
    c.from.ensures refl refl c.from-2.ensures c.from-3.ensures _ _ h.next h.places c.if-answer-ne0.false _ j.places _ _ t.next t.places in
    (record { answer = w.0; places = w.1.0; fits = w.1.1; run = λ p. (j.run p).demand })
