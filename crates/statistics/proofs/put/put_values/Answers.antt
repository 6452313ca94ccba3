-- `statistics::put::put_values` meets its contract. The loop's invariant: those before i are written. Assumes nothing.
use native.Mathlib.Omega.{arith}
use Rattle.statistics.proofs.Writing.{valid_length, on-valid, on_room, on, written}
use Rattle.statistics.proofs.put.put_values.Goals as goal

pub put_named-here-requires-clause-valid : goal.put_named-here-requires-clause-valid
put_named-here-requires-clause-valid c =
    rw c.title_at.ensures (on-valid _ _ _ (valid_length _ c.requires.valid) _ _ _ c.loop-i.invariant c.loop-i-test.true)

pub put_named-here-requires-clause-room : goal.put_named-here-requires-clause-room
put_named-here-requires-clause-room c =
    rw c.title_at.ensures (on_room _ _ _ (valid_length _ c.requires.valid) _ _ _ c.loop-i.invariant c.loop-i-test.true c.requires.room)

pub loop-i-preserved : goal.loop-i-preserved
loop-i-preserved c =
    on _ _ _ (valid_length _ c.requires.valid) _ _ _ c.loop-i.invariant c.loop-i-test.true _ _ (rw c.title_at.ensures at c.put_named-here.ensures)

pub returns : goal.returns
returns c = written _ _ _ (valid_length _ c.requires.valid) _ c.loop-i.i _ (omega arith) c.loop-i.invariant
