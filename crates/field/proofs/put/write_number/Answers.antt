-- `field::put::write_number` meets its contract: between two bytes the loop knows what `Left` says. The measure is the number that is left.
-- Assumes nothing.
use native.Mathlib.Omega.{arith}
use lib.ListN.{length-set}
use lib.Dec.{lit≤}
use Rattle.wire.specs.Number.{number, v_long}
use Rattle.wire.proofs.NumberWrite.{begin, room, on, end}
use Rattle.field.proofs.put.write_number.Goals as goal

pub loop-x-init : goal.loop-x-init
loop-x-init c = begin 2 127 8 _ _ _ (omega arith)

pub bounds-out-i : goal.bounds-out-i
unfolding v_long number
bounds-out-i c = omega (arith, c.requires, room 2 127 8 _ _ _ _ _ _ c.loop-x.invariant, c.loop-x.invariant.long)

pub overflow_add-i : goal.overflow_add-i
overflow_add-i c = omega (arith, bounds-out-i c)

pub loop-x-preserved : goal.loop-x-preserved
loop-x-preserved c = on 2 127 8 _ _ _ _ _ _ (lit≤ tt) c.loop-x.invariant c.loop-x-test.true

pub bounds-out-i-2 : goal.bounds-out-i-2
unfolding v_long number
bounds-out-i-2 c = omega (arith, c.requires, room 2 127 8 _ _ _ _ _ _ c.loop-x.invariant, c.loop-x.invariant.long)

pub overflow_add-result : goal.overflow_add-result
overflow_add-result c = omega (arith, bounds-out-i-2 c)

pub shape_of-out : goal.shape_of-out
shape_of-out c = simp length-set c.loop-x.invariant.long

pub returns : goal.returns
unfolding v_long number
returns c = end 2 127 8 _ _ _ _ _ _ 0 c.loop-x.invariant c.loop-x-test.false
