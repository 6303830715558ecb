-- `reader::operands` meets its contract. In each arm the opcode is known, and the arm's form is the opcode's row. Assumes nothing.
use mathlib.Core.Path.{◌∙◌}
use Rattle.tokens.specs.Cursors.{seen}
use Rattle.statement.specs.declared.Opcode.TheVariants.{Mov32, Mov64, Alloc, Dealloc}
use Rattle.statement.specs.Forms.{max32, max64}
use Rattle.statement.specs.Reading.{operands_c, row_c}
use Rattle.reader.specs.Rows.{pair_seen}
use Rattle.reader.proofs.Laws.{row_told}
use Rattle.reader.proofs.operands.Goals as goal

pub returns-in-Mov32 : goal.returns-in-Mov32
returns-in-Mov32 c = rw c.in-Mov32.is (c.answer.ensures ∙ row_told c.args.s.now (seen c.args.s.now c.args.k) Mov32 (pair_seen c.args.s.now max32 _) c.name_number-p.ensures.read)

pub returns-in-Mov64 : goal.returns-in-Mov64
returns-in-Mov64 c = rw c.in-Mov64.is (c.answer-in-Mov64.ensures ∙ row_told c.args.s.now (seen c.args.s.now c.args.k) Mov64 (pair_seen c.args.s.now max64 _) c.name_number-p-in-Mov64.ensures.read)

pub returns-in-Alloc : goal.returns-in-Alloc
returns-in-Alloc c = rw c.in-Alloc.is (c.answer-in-Alloc.ensures ∙ row_told c.args.s.now (seen c.args.s.now c.args.k) (Alloc _) (pair_seen c.args.s.now max32 _) c.name_number-p-in-Alloc.ensures.read)

pub returns-in-Dealloc : goal.returns-in-Dealloc
returns-in-Dealloc c = rw c.in-Dealloc.is (c.answer-in-Dealloc.ensures ∙ row_told c.args.s.now (seen c.args.s.now c.args.k) Dealloc (pair_seen c.args.s.now max32 _) c.name_number-p-in-Dealloc.ensures.read)

pub returns-in-Relinquish : goal.returns-in-Relinquish
unfolding operands_c row_c
returns-in-Relinquish c = rw c.in-Relinquish.is c.bare.ensures

pub returns-in-Load : goal.returns-in-Load
unfolding operands_c row_c
returns-in-Load c = rw c.in-Load.is c.load.ensures

pub returns-in-Store : goal.returns-in-Store
unfolding operands_c row_c
returns-in-Store c = rw c.in-Store.is c.store.ensures

pub returns-in-WaitLoad : goal.returns-in-WaitLoad
unfolding operands_c row_c
returns-in-WaitLoad c = rw c.in-WaitLoad.is c.bare-in-WaitLoad.ensures

pub returns-in-WaitStore : goal.returns-in-WaitStore
unfolding operands_c row_c
returns-in-WaitStore c = rw c.in-WaitStore.is c.bare-in-WaitStore.ensures

pub returns-in-FenceBefore : goal.returns-in-FenceBefore
unfolding operands_c row_c
returns-in-FenceBefore c = rw c.in-FenceBefore.is c.bare-in-FenceBefore.ensures

pub returns-in-FenceAfter : goal.returns-in-FenceAfter
unfolding operands_c row_c
returns-in-FenceAfter c = rw c.in-FenceAfter.is c.bare-in-FenceAfter.ensures

pub returns-in-Multiply : goal.returns-in-Multiply
unfolding operands_c row_c
returns-in-Multiply c = rw c.in-Multiply.is c.multiply.ensures

pub returns-in-Exit : goal.returns-in-Exit
unfolding operands_c row_c
returns-in-Exit c = rw c.in-Exit.is c.bare-in-Exit.ensures
