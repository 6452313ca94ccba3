-- `field::put::put_raw` meets its contract. Assumes nothing.
-- a slice holds bytes
use native.Mathlib.Omega.{arith}
use lib.ListN.{length}
use Rattle.wire.specs.Codec.{Valid, raw}
use Rattle.wire.proofs.Laws.{raw-good}
use Rattle.wire.proofs.WriteLaws.{put-short, put-done, wrote_part}
use Rattle.field.proofs.put.put_raw.Goals as goal

pub returns-then-out-at : goal.returns-then-out-at
unfolding raw
returns-then-out-at c = put-short (raw _) _ _ _ ((let good' : let s = c.args.s.now in Valid (raw (length s)) s = raw-good c.args.s.now (λ i. omega (arith, c.shared_slice_known-1.given i)) in good')) (omega arith)

pub returns-then-out-at-2 : goal.returns-then-out-at-2
unfolding raw
returns-then-out-at-2 c = put-short (raw _) _ _ _ ((let good' : let s = c.args.s.now in Valid (raw (length s)) s = raw-good c.args.s.now (λ i. omega (arith, c.shared_slice_known-1.given i)) in good')) (omega arith)

pub returns : goal.returns
unfolding raw
returns c =
    let a = c.args in
    put-done (raw _) _ _ _ (raw-good a.s.now (λ i. omega (arith, c.shared_slice_known-1.given i))) (omega (arith, c.if-out-at-2.false)) _ _
    (wrote_part (length a.s.now) a.at a.s.now a.out.now _ (omega (arith, c.if-out-at-2.false)) c.copy_from_slice.ensures.after)
