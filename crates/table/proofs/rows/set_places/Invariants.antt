-- `table::rows::set_places` meets its contract. The loop's invariant: the first i places are in order. Assumes nothing.
use mathlib.Core.Path.{◌≡◌}
use Prim.Native.Nat.{ℕ, ◌≤◌}
use lib.ListN.{length}
use lib.Seq.{sets}
use Rattle.table.specs.Bytes.{upto}
use Rattle.table.specs.Memory.{places_at}
use Rattle.table.proofs.rows.set_places.Given as goal

abbrev pub invariant-loop-i : goal.invariant-loop-i
invariant-loop-i l = (l.i ≤ 128) × (length l.t ≡ length l.initial.t) × (l.t ≡ sets l.initial.t places_at (upto (λ (k : ℕ). k) l.i))
