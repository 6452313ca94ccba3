-- `reply_reader::read::read_listed` meets its contract. Assumes nothing.
use Rattle.reply_reader.proofs.BulkLaws.{ends-behind}
use Rattle.reply_reader.proofs.read.read_listed.Goals as goal

pub overflow_sub-part : goal.overflow_sub-part
overflow_sub-part c = ends-behind _ _ _ _ _ (rw c.in-Some.is at c.in_ok-count.ensures)
