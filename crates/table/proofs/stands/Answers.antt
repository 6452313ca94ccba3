-- `table::stands` meets its contract. Assumes nothing.
use Rattle.map.specs.Deadline.{expired}
use Rattle.table.proofs.stands.Goals as goal

pub returns : goal.returns
unfolding expired
returns c = rw c.deadline_at.ensures at c.in_time.ensures
