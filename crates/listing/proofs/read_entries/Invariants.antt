-- `listing::read_entries` meets its contract. The loop's invariant: n entries are read, up to `here`. Assumes nothing.
use Rattle.listing.proofs.Reading.{Passed}
use Rattle.listing.proofs.read_entries.Given as goal

abbrev pub invariant-loop-n : goal.invariant-loop-n
invariant-loop-n l = Passed l.values l.s l.fn.c.at l.n l.here.at
