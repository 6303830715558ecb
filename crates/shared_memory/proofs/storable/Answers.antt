-- `shared_memory::storable` meets its contract: a multiple of 16 has room below 262144 as up to 262128, by `room`. Assumes nothing.
use Rattle.shared_memory.proofs.SharedLaws.{room}
use Rattle.shared_memory.proofs.storable.Goals as goal

pub returns : goal.returns
returns c = room c.args.x
