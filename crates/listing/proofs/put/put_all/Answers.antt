-- `listing::put::put_all` meets its contract. The loop's invariant: those before i are written. Assumes nothing.
use mathlib.Core.Path.{◌≡◌, refl}
use mathlib.Core.List.{[]}
use native.Mathlib.Omega.{arith}
use lib.ListN.{length}
use Rattle.wire.specs.Codec.{byte}
use Rattle.wire.proofs.ListedEnc.{listed-few}
use Rattle.wire.proofs.ListedWrite.{begun, on-valid, on_room, on, end-room, written}
use Rattle.wire.proofs.WriteLaws.{put-wrote}
use Rattle.message.specs.Listing.{item_of, listing}
use Rattle.listing.specs.EntryWrite.{listed_in}
use Rattle.listing.proofs.Writing.{listed_length, named}
use Rattle.listing.proofs.put.put_all.Goals as goal

pub loop-i-init : goal.loop-i-init
unfolding listing
loop-i-init c = begun _ _ _ _ _ c.requires.valid

pub put_entry-here-requires-clause-valid : goal.put_entry-here-requires-clause-valid
unfolding listing
put_entry-here-requires-clause-valid c =
    rw (named _ _ c.loop-i.i c.loop-i-test.true c.part-key.ensures c.span_at.ensures c.part-value.ensures c.span_at-in-loop-i.ensures)
    (on-valid (item_of _) 128 _ (listed-few (item_of _) 128 _ c.requires.valid) ([], []) c.loop-i.i (omega (arith, c.loop-i-test.true, listed_length c.args.bytes.now c.args.numbers.now)) _ _ _ _ c.loop-i.invariant)

pub put_entry-here-requires-clause-room : goal.put_entry-here-requires-clause-room
unfolding listing
put_entry-here-requires-clause-room c =
    rw (named _ _ c.loop-i.i c.loop-i-test.true c.part-key.ensures c.span_at.ensures c.part-value.ensures c.span_at-in-loop-i.ensures)
    (on_room (item_of _) 128 _ (listed-few (item_of _) 128 _ c.requires.valid) ([], []) c.loop-i.i (omega (arith, c.loop-i-test.true, listed_length c.args.bytes.now c.args.numbers.now)) _ _ _ _ c.loop-i.invariant c.requires.room)

pub loop-i-preserved : goal.loop-i-preserved
unfolding listing
loop-i-preserved c =
    on (item_of _) 128 _ (listed-few (item_of _) 128 _ c.requires.valid) ([], []) c.loop-i.i (omega (arith, c.loop-i-test.true, listed_length c.args.bytes.now c.args.numbers.now)) _ _ _ _ c.loop-i.invariant _ _
    (rw (named _ _ c.loop-i.i c.loop-i-test.true c.part-key.ensures c.span_at.ensures c.part-value.ensures c.span_at-in-loop-i.ensures) at c.put_entry-here.ensures)

pub returns : goal.returns
unfolding listing byte
returns c =
    let i : c.loop-i.i ≡ length (listed_in c.args.bytes.now c.args.numbers.now) = omega (arith, listed_length c.args.bytes.now c.args.numbers.now) in
    let r = end-room (item_of c.args.values) 128 _ c.loop-i.i i _ _ _ _ c.loop-i.invariant c.requires.room in
    written (item_of c.args.values) 128 _ c.loop-i.i i _ _ _ _ c.loop-i.invariant _ _ (put-wrote byte 0 _ _ refl r _ _ c.put_byte.ensures)
