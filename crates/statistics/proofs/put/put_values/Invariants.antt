-- `statistics::put::put_values` meets its contract. The loop's invariant: those before i are written. Assumes nothing.
use Rattle.statistics.proofs.Writing.{Begun}
use Rattle.statistics.proofs.put.put_values.Given as goal

abbrev pub invariant-loop-i : goal.invariant-loop-i
invariant-loop-i l = Begun l.n-items l.initial.out l.at l.out l.i l.here
