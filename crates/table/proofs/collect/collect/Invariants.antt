-- `table::collect::collect` meets its contract. The loop's invariant: the keys passed that stand are named. Assumes nothing.
use Rattle.table.proofs.KeyWalk.{Walked}
use Rattle.table.proofs.collect.collect.Given as goal

abbrev pub invariant-loop-p : goal.invariant-loop-p
invariant-loop-p l = Walked l.t l.second.0 l.initial.p l.numbers l.many l.p
