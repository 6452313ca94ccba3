-- `hexadecimal::spread` meets its contract: from the last byte to the first, the loop knows what `Spread` says. Assumes nothing.
use Rattle.hexadecimal.proofs.InPlace.{Spread}
use Rattle.hexadecimal.proofs.spread.Given as goal

abbrev pub invariant-loop-i : goal.invariant-loop-i
invariant-loop-i l = Spread l.initial.out l.at l.n l.out l.i

abbrev pub decreases-loop-i : goal.decreases-loop-i
decreases-loop-i l = l.i
