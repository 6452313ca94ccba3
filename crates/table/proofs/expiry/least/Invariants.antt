-- `table::expiry::least` meets its contract. The loop's invariant: the least deadline of the first i entries. Assumes nothing.
use mathlib.Core.Path.{◌≡◌}
use Prim.Native.Nat.{◌≤◌}
use Rattle.table.specs.Sweep.{least_of}
use Rattle.table.proofs.expiry.least.Given as goal

abbrev pub invariant-loop-i : goal.invariant-loop-i
invariant-loop-i l = (l.i ≤ l.i-end) × (l.low ≡ least_of l.t l.i)
