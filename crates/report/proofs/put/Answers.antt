-- `report::put` meets its contract: it tests that there is room for all before it writes. Assumes nothing.
use Rattle.std.proofs.Common.{arith, ◌≡◌, ◌+◌, ◌-◌, ◌<◌, ◌≤◌, length, refl}
use Rattle.pieces.proofs.Texts.{copied}
use Rattle.report.proofs.ReportLaws.{put_no, put_yes}
use Rattle.report.proofs.put.Goals as goal
use Rattle.report.proofs.put.Goals.{then-room-at-via-then-room-at, then-room-at-via-else-room-at+then-room-at-2}

pub returns-then-room-at : goal.returns-then-room-at
returns-then-room-at c =
    let a = c.args in
    let h : length a.room.now < a.at + length a.w.now = elim c.then-room-at.branch [ then-room-at-via-then-room-at w ↦ omega arith | then-room-at-via-else-room-at+then-room-at-2 w ↦ omega arith ] in
    let both = put_no a.room.now a.at a.w.now h in
    record { next = both.0; places = both.1 }

pub returns : goal.returns
returns c =
    let a = c.args in
    let h : a.at + length a.w.now ≤ length a.room.now = omega arith in
    let k : a.at + length a.w.now - a.at ≡ length a.w.now = omega arith in
    let both = put_yes a.room.now a.at a.w.now h _ _ (refl, copied a.room.now a.w.now _ a.at _ c.copy_from_slice.ensures.after k h) in
    record { next = both.0; places = both.1 }
