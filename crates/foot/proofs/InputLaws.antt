-- What is printed. Assumes nothing.
use Rattle.std.proofs.Common.{ℕ, ◌≤◌, ◌≡◌, List, true, length, take, ap, ◌∙◌, leb, arith}
use borrow.Author.Tests.{le-leb}
use Rattle.report.specs.Report.{report_room}
use Rattle.report.proofs.ReportLaws.{put_whole}
use Rattle.printed.specs.declared.Printed.{Printed}
use Rattle.printed.specs.Printed.{answered, report_of, printed_of, room_after}

-- a room that is large enough has the report in its first places
pub shown : (s room t : List ℕ) (p : Printed) → report_room ≤ length room → p ≡ printed_of s (length room) → t ≡ room_after s room → p.length ≤ report_room
    → (p.length ≡ length (report_of s)) × (take p.length t ≡ report_of s)
unfolding printed_of room_after
shown s room t p h a b f =
    let e : leb report_room (length room) ≡ true = le-leb report_room (length room) h in
    let q : p ≡ record { reason = (answered s).reason; length = length (report_of s) } = a ∙ rw e in
    let n : p.length ≡ length (report_of s) = ap (λ (x : Printed). x.length) q in
    (n, put_whole room t (report_of s) p.length (b ∙ rw e) n (omega (arith, f, h)))
