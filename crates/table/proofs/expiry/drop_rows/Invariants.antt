-- `table::expiry::drop_rows` meets its contract. The loop's invariant: what is left to be done to the first i entries gives the whole. Assumes nothing.
use mathlib.Core.Path.{◌≡◌}
use Prim.Native.Nat.{◌≤◌}
use lib.ListN.{length}
use Rattle.table.specs.Memory.{count_of}
use Rattle.table.specs.Sweep.{less_all}
use Rattle.table.proofs.expiry.drop_rows.Given as goal

abbrev pub invariant-loop-i : goal.invariant-loop-i
invariant-loop-i l = (length l.t ≡ length l.initial.t) × (l.i ≤ count_of l.t) × (less_all l.second.0 l.i l.t ≡ less_all l.second.0 (count_of l.initial.t) l.initial.t)

abbrev pub decreases-loop-i : goal.decreases-loop-i
decreases-loop-i l = l.i
