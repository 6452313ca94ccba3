-- `table::expiry::count_standing` meets its contract. The loop's invariant: those of the first i entries that stand are counted. Assumes nothing.
use mathlib.Core.Path.{◌≡◌}
use Prim.Native.Nat.{◌≤◌}
use Rattle.table.proofs.Sweeps.{standing_of}
use Rattle.table.proofs.expiry.count_standing.Given as goal

abbrev pub invariant-loop-i : goal.invariant-loop-i
invariant-loop-i l = (l.i ≤ l.i-end) × (l.many ≤ l.i) × (l.many ≡ standing_of l.second.0 l.t l.i)
