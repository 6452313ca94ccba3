-- `statistics::put::statistics_len` meets its contract: `Summed` says what is counted. Assumes nothing.
use Rattle.statistics.specs.Statistics.{list_of}
use Rattle.statistics.proofs.Writing.{Summed}
use Rattle.statistics.proofs.put.statistics_len.Given as goal

abbrev pub invariant-loop-n : goal.invariant-loop-n
invariant-loop-n l = Summed (list_of l.fn.x) l.n-index l.size
