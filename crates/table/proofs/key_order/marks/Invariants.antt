-- `table::key_order::marks` meets its contract. The loop's invariant: the bytes marked are those passed. Assumes nothing.
use mathlib.Core.Path.{◌≡◌}
use Prim.Native.Nat.{◌≤◌}
use lib.ListN.{length}
use Rattle.table.specs.Check.{Marked}
use Rattle.table.proofs.key_order.marks.Given as goal

abbrev pub invariant-loop-i : goal.invariant-loop-i
invariant-loop-i l = (l.i ≤ l.n) × (length l.seen ≡ 256) × Marked l.t l.start l.i l.seen
