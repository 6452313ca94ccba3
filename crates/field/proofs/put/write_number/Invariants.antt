-- `field::put::write_number` meets its contract: between two bytes the loop knows what `Left` says. The measure is the number that is left.
-- Assumes nothing.
use Rattle.wire.proofs.NumberWrite.{Left}
use Rattle.field.proofs.put.write_number.Given as goal

abbrev pub invariant-loop-x : goal.invariant-loop-x
invariant-loop-x l = Left 2 127 8 l.v l.at l.initial.out l.out l.i l.x

abbrev pub decreases-loop-x : goal.decreases-loop-x
decreases-loop-x l = l.x
