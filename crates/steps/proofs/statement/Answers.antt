-- `steps::statement` meets its contract: after exit a statement is closed, and before it each arm is one law (StepLaws.antt). Assumes nothing.
use Rattle.std.proofs.Common.{Ok}
use Rattle.steps.specs.Steps.{quiet}
use Rattle.steps.proofs.StepLaws.{open_done, closed_done, fence_done}
use Rattle.steps.proofs.statement.Goals as goal

pub returns-then-books : goal.returns-then-books
returns-then-books c = closed_done _ _ _ _ _ c.if-books.true c.closed_reason.ensures

pub returns-in-Mov32 : goal.returns-in-Mov32
returns-in-Mov32 c = rw c.in-Mov32.is (open_done _ _ _ _ _ _ c.if-books.false (c.mov.ensures.done _ _))

pub returns-in-Mov64 : goal.returns-in-Mov64
returns-in-Mov64 c = rw c.in-Mov64.is (open_done _ _ _ _ _ _ c.if-books.false (c.mov-in-Mov64.ensures.done _ _))

pub returns-in-Alloc : goal.returns-in-Alloc
returns-in-Alloc c = rw c.in-Alloc.is (open_done _ _ _ _ _ _ c.if-books.false (c.alloc.ensures.done _))

pub returns-in-Dealloc : goal.returns-in-Dealloc
returns-in-Dealloc c = rw c.in-Dealloc.is (open_done _ _ _ _ _ _ c.if-books.false (c.release.ensures.done _))

pub returns-in-Relinquish : goal.returns-in-Relinquish
returns-in-Relinquish c = rw c.in-Relinquish.is (open_done _ _ _ _ _ _ c.if-books.false (c.relinquish.ensures.done _))

pub returns-in-Load : goal.returns-in-Load
returns-in-Load c = rw c.in-Load.is (open_done _ _ _ _ _ _ c.if-books.false (c.access.ensures.done _))

pub returns-in-Store : goal.returns-in-Store
returns-in-Store c = rw c.in-Store.is (open_done _ _ _ _ _ _ c.if-books.false (c.access-in-Store.ensures.done _))

pub returns-in-WaitLoad : goal.returns-in-WaitLoad
returns-in-WaitLoad c = rw c.in-WaitLoad.is (open_done _ _ _ _ _ _ c.if-books.false (c.wait.ensures.done _))

pub returns-in-WaitStore : goal.returns-in-WaitStore
returns-in-WaitStore c = rw c.in-WaitStore.is (open_done _ _ _ _ _ _ c.if-books.false (c.wait-in-WaitStore.ensures.done _))

pub returns-in-FenceBefore : goal.returns-in-FenceBefore
returns-in-FenceBefore c =
    let a = c.args in
    open_done a.held a.warp a.t a.books.now (Ok quiet) a.books.now c.if-books.false (fence_done a.held a.warp a.t a.books.now c.in-FenceBefore.in-FenceBefore-own.keys10)

pub returns-in-Multiply : goal.returns-in-Multiply
returns-in-Multiply c = rw c.in-Multiply.is (open_done _ _ _ _ _ _ c.if-books.false (c.multiply.ensures _ _))

pub returns-in-Exit : goal.returns-in-Exit
returns-in-Exit c = rw c.in-Exit.is (open_done _ _ _ _ _ _ c.if-books.false (c.leave.ensures.done _))
