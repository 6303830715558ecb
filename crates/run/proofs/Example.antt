-- The sheet of docs/FORMAT.md, 'A sheet and its report', by computation: the answer, the starts, and the run under them. Assumes nothing.
use mathlib.Core.Path.{◌≡◌, refl}
use mathlib.Core.Bool.{Bool, true, false, cond}
use mathlib.Core.List.{List, [], ◌∷◌, ◌++◌}
use lib.Count.{ones, ones_in}
use lib.ListN.{get_or, length}
use Rattle.tokens.specs.declared.Name.{Name}
use Rattle.statement.specs.declared.Shape.TheVariants.{S32x32}
use Rattle.statement.specs.declared.Num.TheVariants.{X2}
use Rattle.statement.specs.declared.Position.{Position}
use Rattle.statement.specs.declared.Position.TheVariants as position
use Rattle.statement.specs.declared.Transfer.TheVariants as transfer
use Rattle.statement.specs.declared.Statement.TheVariants.{Alloc, Dealloc, Load, WaitLoad, Exit}
use Rattle.statement.specs.Cells as cells
use Rattle.rules.specs.Counting.{count, every, least}
use Rattle.rules.specs.State as s
use Rattle.rules.specs.Reasons as reasons
use Rattle.rules.specs.Sheet.{Line, no_form, statement, Sheet, answer, answer_of, answer_at, answer_by, closing, stop_by, reason_by, position_by, state_by, starts_by, starts_of, given, effect, requested, released, sum, held_after, peak_up_to}
use Rattle.run.specs.Run as run
use Rattle.run.specs.Demand3.{turns_of}

-- t and a digit
t0 : Name
t0 = record { hi = 29744; lo = 0 }

t1 : Name
t1 = record { hi = 29745; lo = 0 }

t2 : Name
t2 = record { hi = 29746; lo = 0 }

-- the column of an opcode tells it from the other positions
is_opcode : Position → Bool
is_opcode position.Start = false
is_opcode position.Token = false
is_opcode position.Opcode = true
is_opcode (position.Name i) = false
is_opcode (position.Operand i) = false

-- lines 2 to 6, which end in a load by warp 1; and from the dealloc of what it reads
upper : List Line
upper =
    statement 0 (Alloc t0 64)
    ∷ statement 0 (Alloc t1 32)
    ∷ statement 0 (Dealloc t0 64)
    ∷ statement 0 (Alloc t2 32)
    ∷ statement 1 (Load (record { shape = S32x32; num = X2; registers = 2; address = record { base = t1; offset = 2097152 } }))
    ∷ []

lower : List Line
lower = statement 0 (Dealloc t1 32) ∷ statement 0 (Dealloc t2 32) ∷ statement 0 Exit ∷ []

sheet_of : List Line → Sheet
sheet_of lines = record { header = true; line = λ k. get_or lines k no_form; count = length lines; column = λ l p. cond (is_opcode p) 3 0 }

-- with the wait of warp 1 between them
sheet : Sheet
sheet = sheet_of (upper ++ statement 1 WaitLoad ∷ lower)

-- without it
unwaited : Sheet
unwaited = sheet_of (upper ++ lower)

passes : answer_of sheet 3 ≡ answer 0 10 0 0 96
unfolding t0 t1 t2 upper lower sheet_of sheet unwaited is_opcode count every least s.is_live s.columns_of s.without s.total s.covers s.is_free s.free_from s.slot s.lowest s.is_bound
    s.width_of s.number_of s.bind s.is_by s.is_busy s.after_wait s.after_release cells.counted reasons.named reasons.roomed reasons.lane_of_warp reasons.laned reasons.warped reasons.sized
    reasons.permitted reasons.placed reasons.reads reasons.m_listed reasons.n_listed reasons.types_listed reasons.inside reasons.cleared reasons.waited reasons.open_rows
    reasons.closed_rows reasons.rows answer_at answer_by closing stop_by reason_by position_by state_by starts_by given effect requested released sum held_after
    peak_up_to ones ones_in cells.registers_for cells.lanes_for cells.columns_for cells.miscounted
passes = refl

starts_are : starts_of sheet ≡ 0 ∷ 64 ∷ 0 ∷ []
unfolding t0 t1 t2 upper lower sheet_of sheet every least s.is_live s.without s.covers s.is_free s.free_from s.slot s.lowest state_by starts_by given effect
starts_are = refl

exits : run.outcome (0 ∷ 64 ∷ 0 ∷ []) (turns_of sheet) 9 ≡ run.exited
unfolding t0 t1 t2 upper lower sheet_of sheet unwaited count every run.outcome run.finish run.after run.go run.able run.done run.start_at run.may_use run.usable run.held run.within run.has
    run.has_name run.has_both run.without run.held_columns run.booked_by run.known run.all_lie run.lies run.begun run.waited_for run.forgotten cells.lanes_for cells.columns_for
exits = refl

-- under starts of which the third may not be used, it stops at line 5
stops : run.outcome (0 ∷ 64 ∷ 64 ∷ []) (turns_of sheet) 9 ≡ run.stopped_at 5
unfolding t0 t1 t2 upper lower sheet_of sheet unwaited count every run.outcome run.finish run.after run.go run.able run.done run.start_at run.may_use run.usable run.held run.within run.has
    run.has_name run.has_both run.without run.held_columns run.booked_by run.known run.all_lie run.lies run.begun run.waited_for run.forgotten cells.lanes_for cells.columns_for
stops = refl

-- without the wait the rules refuse the dealloc at line 7
refuses : answer_of unwaited 3 ≡ answer 18 7 3 64 96
unfolding t0 t1 t2 upper lower sheet_of sheet unwaited is_opcode count every least s.is_live s.columns_of s.without s.total s.covers s.is_free s.free_from s.slot s.lowest s.is_bound
    s.width_of s.number_of s.bind s.is_by s.is_busy s.after_wait s.after_release cells.counted reasons.named reasons.roomed reasons.lane_of_warp reasons.laned reasons.warped reasons.sized
    reasons.permitted reasons.placed reasons.reads reasons.m_listed reasons.n_listed reasons.types_listed reasons.inside reasons.cleared reasons.waited reasons.open_rows
    reasons.closed_rows reasons.rows answer_at answer_by closing stop_by reason_by position_by state_by starts_by given effect requested released sum held_after
    peak_up_to ones ones_in cells.registers_for cells.lanes_for cells.columns_for cells.miscounted
refuses = refl

-- the run goes on to its exit all the same, but it comes to that line with the load noted; with the wait it does not
goes_on : run.outcome (0 ∷ 64 ∷ 0 ∷ []) (turns_of unwaited) 8 ≡ run.exited
unfolding t0 t1 t2 upper lower sheet_of sheet unwaited count every run.outcome run.finish run.after run.go run.able run.done run.start_at run.may_use run.usable run.held run.within run.has
    run.has_name run.has_both run.without run.held_columns run.booked_by run.known run.all_lie run.lies run.begun run.waited_for run.forgotten cells.lanes_for cells.columns_for
goes_on = refl

noted : (run.after (0 ∷ 64 ∷ 0 ∷ []) (turns_of unwaited) 5).pending t1 1 transfer.Load ≡ true
unfolding t0 t1 t2 upper lower sheet_of sheet unwaited count every run.outcome run.finish run.after run.go run.able run.done run.start_at run.may_use run.usable run.held run.within run.has
    run.has_name run.has_both run.without run.held_columns run.booked_by run.known run.all_lie run.lies run.begun run.waited_for run.forgotten cells.lanes_for cells.columns_for
noted = refl

waited : (run.after (0 ∷ 64 ∷ 0 ∷ []) (turns_of sheet) 6).pending t1 1 transfer.Load ≡ false
unfolding t0 t1 t2 upper lower sheet_of sheet unwaited count every run.outcome run.finish run.after run.go run.able run.done run.start_at run.may_use run.usable run.held run.within run.has
    run.has_name run.has_both run.without run.held_columns run.booked_by run.known run.all_lie run.lies run.begun run.waited_for run.forgotten cells.lanes_for cells.columns_for
waited = refl

-- nor once its holding is gone
gone : (run.after (0 ∷ 64 ∷ 0 ∷ []) (turns_of unwaited) 6).pending t1 1 transfer.Load ≡ false
unfolding t0 t1 t2 upper lower sheet_of sheet unwaited count every run.outcome run.finish run.after run.go run.able run.done run.start_at run.may_use run.usable run.held run.within run.has
    run.has_name run.has_both run.without run.held_columns run.booked_by run.known run.all_lie run.lies run.begun run.waited_for run.forgotten cells.lanes_for cells.columns_for
gone = refl
