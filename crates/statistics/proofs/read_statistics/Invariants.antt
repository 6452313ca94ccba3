-- `statistics::read_statistics` meets its contract. The loop's invariant: the statistics before i are told. Assumes nothing.
use Rattle.statistics.proofs.Reading.{Told}
use Rattle.statistics.proofs.read_statistics.Given as goal

abbrev pub invariant-loop-i : goal.invariant-loop-i
invariant-loop-i l = Told l.s l.fn.c.at l.i l.here.at l.ns
