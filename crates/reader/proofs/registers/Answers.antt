-- `reader::registers` meets its contract. One law for each way out: where the text does not read nothing is stored, and else the list of its opcode.
-- Assumes nothing.
use Rattle.statement.specs.Reading.{registers_of}
use Rattle.reader.specs.Lists.{list_c}
use Rattle.reader.proofs.Laws.{none-stored, whole_is, whole-none, registers_none, registers_unread, registers_got}
use Rattle.reader.proofs.registers.Goals as goal

pub returns-in_default : goal.returns-in_default
returns-in_default c =
    let a = c.args in
    let both = none-stored a.names.now (registers_of a.s.now) (registers_none a.s.now (whole-none a.s.now c.in_default.ensures)) in
    record { count = both.0; stored = both.1 }

pub returns-in_default-t : goal.returns-in_default-t
returns-in_default-t c =
    let a = c.args in
    let t = c.operands-t in
    let both = none-stored a.names.now (registers_of a.s.now) (registers_unread a.s.now _ t.result (whole_is a.s.now c.in-Some.head c.in-Some.ensures) t.ensures c.in_default-t.not-Ok) in
    record { count = both.0; stored = both.1 }

pub returns : goal.returns
unfolding list_c
returns c =
    let a = c.args in
    let t = c.operands-t in
    rw (registers_got a.s.now _ t.result (whole_is a.s.now c.in-Some.head c.in-Some.ensures) t.ensures _ c.in-Ok.is)
    (record { count = c.list_of.ensures.count; stored = c.list_of.ensures.stored })
