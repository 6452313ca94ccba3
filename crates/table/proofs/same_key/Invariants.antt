-- `table::same_key` meets its contract. The loop's invariant: the pairs compared are alike. Assumes nothing.
use Rattle.table.proofs.Compare.{Alike}
use Rattle.table.proofs.same_key.Given as goal

abbrev pub invariant-loop-alike : goal.invariant-loop-alike
invariant-loop-alike l = Alike l.a l.b l.alike
