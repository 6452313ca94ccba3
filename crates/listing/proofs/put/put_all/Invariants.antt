-- `listing::put::put_all` meets its contract. The loop's invariant: those before i are written. Assumes nothing.
use Rattle.wire.proofs.ListedWrite.{Begun}
use Rattle.message.specs.Listing.{item_of}
use Rattle.listing.specs.EntryWrite.{listed_in}
use Rattle.listing.proofs.put.put_all.Given as goal

abbrev pub invariant-loop-i : goal.invariant-loop-i
invariant-loop-i l = Begun (item_of l.values) 128 (listed_in l.bytes l.numbers) l.initial.out l.at l.out l.i l.here
