-- `listing::put::entries_len` meets its contract. The loop's invariant: those before i have a written form, and are counted. Assumes nothing.
use Prim.Native.Nat.{◌+◌, ◌*◌, ◌≤◌}
use Rattle.wire.proofs.ListedWrite.{Measured}
use Rattle.message.specs.Listing.{item_of}
use Rattle.listing.specs.EntryWrite.{listed_in}
use Rattle.listing.proofs.put.entries_len.Given as goal

abbrev pub invariant-loop-i : goal.invariant-loop-i
invariant-loop-i l = Measured (item_of l.values) 128 (listed_in l.bytes l.numbers) l.i l.size × (l.size ≤ 1 + 324 * l.i)
