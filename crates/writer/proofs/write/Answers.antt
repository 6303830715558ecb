-- `writer::write` meets its contract: the composed text is whole exactly where the statement is given, since a given text fits; it is copied if the room has it. Assumes nothing.
use Rattle.std.proofs.Common.{take, length, refl, arith}
use Rattle.statement.specs.Canonical.{count_of}
use Rattle.pieces.proofs.Texts.{copied}
use Rattle.writer.proofs.Answers.{not_given, no_room, all_written}
use Rattle.writer.proofs.write.Goals as goal

pub returns-in_default : goal.returns-in_default
returns-in_default c =
    let a = c.args in
    let both = not_given a.statement (take (count_of a.statement) a.names.now) a.room.now (rw (c.compose.ensures, c.new-t.ensures) at c.in_default.ensures) in
    record { answer = both.0; left = both.1 }

pub returns-then-room-text : goal.returns-then-room-text
returns-then-room-text c =
    let a = c.args in
    let both = no_room a.statement (take (count_of a.statement) a.names.now) a.room.now c.in-Some.text.now (rw (c.compose.ensures, c.new-t.ensures) at c.in-Some.ensures) c.if-room-text.true in
    record { answer = both.0; left = both.1 }

pub returns : goal.returns
returns c =
    let a = c.args in
    let u = c.in-Some.text.now in
    let both =
    all_written a.statement (take (count_of a.statement) a.names.now) a.room.now u (rw (c.compose.ensures, c.new-t.ensures) at c.in-Some.ensures) c.if-room-text.false _
    (copied a.room.now u c.copy_from_slice.new.self 0 (length u) c.copy_from_slice.ensures.after refl (omega arith))
    in
    record { answer = both.0; left = both.1 }
