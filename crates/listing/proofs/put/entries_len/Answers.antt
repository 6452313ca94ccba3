-- `listing::put::entries_len` meets its contract. The loop's invariant: those before i have a written form, and are counted. Assumes nothing.
use native.Mathlib.Omega.{arith}
use Rattle.wire.proofs.ListedEnc.{listed-over}
use Rattle.wire.proofs.ListedWrite.{measured_all}
use Rattle.message.specs.Listing.{item_of, listing}
use Rattle.listing.specs.EntryWrite.{listed_in}
use Rattle.listing.proofs.Writing.{length_good, length_bad, listed_length, named, entry-bad, entry-on, entry-most}
use Rattle.listing.proofs.put.entries_len.Goals as goal

pub returns-then-n-gt-MOST : goal.returns-then-n-gt-MOST
unfolding listing
returns-then-n-gt-MOST c =
    let a = c.args in
    length_bad (listing a.values) _ (listed-over (item_of a.values) 128 _ (omega (arith, c.if-n-gt-MOST.true, listed_length a.bytes.now a.numbers.now)))

pub returns-in_err-size : goal.returns-in_err-size
returns-in_err-size c =
    rw c.from_residual.ensures (entry-bad _ _ c.args.values c.if-n-gt-MOST.false c.loop-i.i c.loop-i-test.true
    (named _ _ c.loop-i.i c.loop-i-test.true c.part-key.ensures c.span_at.ensures c.part-value.ensures c.span_at-in-loop-i.ensures) _ c.loop-i.invariant.0 c.in_err-size.ensures)

pub overflow_add-size : goal.overflow_add-size
overflow_add-size c = omega (arith, entry-most _ _ _ c.in_ok-size.ensures)

pub overflow_add-size-in-loop-i : goal.overflow_add-size-in-loop-i
overflow_add-size-in-loop-i c = omega (arith, entry-most _ _ _ c.in_ok-size.ensures, c.loop-i.invariant.1, c.if-n-gt-MOST.false)

pub loop-i-preserved : goal.loop-i-preserved
loop-i-preserved c = (
  entry-on _ _ c.args.values c.if-n-gt-MOST.false c.loop-i.i c.loop-i-test.true
      (named _ _ c.loop-i.i c.loop-i-test.true c.part-key.ensures c.span_at.ensures c.part-value.ensures c.span_at-in-loop-i.ensures) _ c.loop-i.invariant.0 _ c.in_ok-size.ensures,
  omega (arith, entry-most _ _ _ c.in_ok-size.ensures, c.loop-i.invariant.1),
)

pub returns : goal.returns
unfolding listing
returns c =
    let a = c.args in
    let xs = listed_in a.bytes.now a.numbers.now in
    let m = measured_all (item_of a.values) 128 xs c.loop-i.i (omega (arith, listed_length a.bytes.now a.numbers.now)) c.loop-i.size c.loop-i.invariant.0 in
    length_good (listing a.values) xs c.loop-i.size m.0 m.1
