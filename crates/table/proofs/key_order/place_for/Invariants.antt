-- `table::key_order::place_for` meets its contract. The loop's invariant: the search goes on in the part that is left. Assumes nothing.
use mathlib.Core.Path.{◌≡◌}
use Prim.Native.Nat.{◌+◌, ◌≤◌}
use Rattle.table.specs.Memory.{count_of}
use Rattle.wire.specs.Before.{before}
use Rattle.table.specs.Order.{name_at, halved, insertion_place}
use Rattle.table.proofs.key_order.place_for.Given as goal

abbrev pub invariant-loop-many : goal.invariant-loop-many
invariant-loop-many l =
    (insertion_place l.t l.k ≡ halved (λ p. before (name_at l.t p) l.k) (count_of l.t) l.low l.many) × (l.low + l.many ≤ count_of l.t) × (count_of l.t ≤ 128)

abbrev pub decreases-loop-many : goal.decreases-loop-many
decreases-loop-many l = l.many
