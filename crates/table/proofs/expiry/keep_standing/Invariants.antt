-- `table::expiry::keep_standing` meets its contract. The loop's invariant: the rows passed that stand are kept. Assumes nothing.
use Rattle.table.proofs.KeepStanding.{Sifted}
use Rattle.table.proofs.expiry.keep_standing.Given as goal

abbrev pub invariant-loop-p : goal.invariant-loop-p
invariant-loop-p l = Sifted l.second.0 l.initial.t l.t l.kept l.p
