-- `field::read_number` meets its contract: between two bytes the loop knows what `Going` says, for either kind. Assumes nothing.
use Rattle.wire.proofs.NumberRead.{Going}
use Rattle.field.specs.FieldRead.{refusal_of, top_of, most_of}
use Rattle.field.proofs.read_number.Given as goal

abbrev pub invariant-loop-i : goal.invariant-loop-i
invariant-loop-i l = Going (refusal_of l.k) (top_of l.k) l.s (most_of l.k) l.fn.c.at l.i l.left l.low l.p l.acc
