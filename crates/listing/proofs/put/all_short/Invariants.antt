-- `listing::put::all_short` meets its contract. The loop's invariant: those before i have a written form. Assumes nothing.
use Rattle.listing.proofs.Writing.{Judged}
use Rattle.listing.proofs.put.all_short.Given as goal

abbrev pub invariant-loop-i : goal.invariant-loop-i
invariant-loop-i l = Judged l.numbers l.i
