-- `table::expiry::row_stands` meets its contract. Assumes nothing.
use Rattle.map.specs.Deadline.{expired}
use Rattle.table.specs.Memory.{entry, entry_of}
use Rattle.table.proofs.expiry.row_stands.Goals as goal

pub returns : goal.returns
unfolding expired entry_of entry
returns c = rw c.get64-d.ensures at c.in_time.ensures
