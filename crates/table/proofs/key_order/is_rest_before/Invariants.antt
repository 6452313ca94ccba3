-- `table::key_order::is_rest_before` meets its contract. The loop's invariant: the bytes passed are alike. Assumes nothing.
use mathlib.Core.Path.{◌≡◌}
use Prim.Native.Nat.{◌≤◌, min}
use lib.ListN.{length}
use Rattle.wire.proofs.Words.{from}
use Rattle.table.proofs.key_order.is_rest_before.Given as goal

abbrev pub invariant-loop-i : goal.invariant-loop-i
invariant-loop-i l = (l.i ≤ l.i-end) × (l.i-end ≡ min (length l.a) (length l.b)) × (from l.a l.b l.from ≡ from l.a l.b l.i)
