-- `listing::put::all_short` meets its contract. The loop's invariant: those before i have a written form. Assumes nothing.
use native.Mathlib.Omega.{arith}
use Rattle.listing.proofs.Writing.{judged-on, judged-all}
use Rattle.listing.proofs.put.all_short.Goals as goal

pub loop-i-preserved : goal.loop-i-preserved
loop-i-preserved c =
    judged-on _ c.if-n-gt-MOST.false c.loop-i.i c.loop-i-test.true (rw c.span_at-key.ensures at c.if-key-gt-KEY.false) (rw c.span_at-value.ensures at c.if-value-gt-VALUE.false) c.loop-i.invariant

pub returns : goal.returns
returns c e = judged-all _ c.loop-i.i (omega arith) c.loop-i.invariant
