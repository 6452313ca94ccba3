-- Those before i are written.
use Prim.Native.Nat.{ℕ}
use Rattle.wire.proofs.ListedWrite.{Begun}
use Rattle.message.specs.Listing.{item_of}
use Rattle.table.specs.Memory.{state_of}
use Rattle.server.specs.Bulk.{listed_pairs, Listable}
use Rattle.server.proofs.bulk.put_entries.Given as goal

abbrev pub invariant-loop-i : goal.invariant-loop-i
invariant-loop-i l =
    (n : ℕ) → Listable l.values n l.m l.t l.at l.initial.out → Begun (item_of l.values) 128 (listed_pairs l.values n (state_of l.t)) l.initial.out l.at l.out l.i l.here
