-- `server::many::serve_parts` meets its contract: between two connections the loop knows what `Among` says. Assumes nothing.
use native.Mathlib.Omega.{arith}
use borrow.Author.Rules.{rules}
use Rattle.server.proofs.PartLaws.{begin-all, end-all, first-end, fits, one_more}
use Rattle.server.proofs.many.serve_parts.Goals as goal

pub loop-i-init : goal.loop-i-init
loop-i-init c = begin-all _ _ _ _ _ _ c.requires

pub stream_at-a-requires : goal.stream_at-a-requires
stream_at-a-requires c =
    let v = c.loop-i.invariant in
    let f = first-end _ _ _ _ c.loop-i-test.true v.ascend in
    record { sound = v.sound; from = f.from; to = f.to; sized = v.sized; room = omega (arith, v.room, v.long) }

pub overflow_add-size : goal.overflow_add-size
overflow_add-size c =
    omega
    (arith, fits _ _ _ _ _ _ c.loop-i.invariant (λ i. search rules) (omega (arith, c.well_formed)) c.loop-i-test.true c.stream_at-a.ensures, c.loop-i.invariant.long, c.well_formed)

pub loop-i-preserved : goal.loop-i-preserved
loop-i-preserved c =
    rw c.tell_share.ensures (one_more _ _ _ _ _ _ c.loop-i.invariant (λ i. search rules) (omega (arith, c.well_formed)) c.loop-i-test.true c.stream_at-a.ensures)

pub returns : goal.returns
returns c = end-all _ _ _ _ _ _ c.loop-i.invariant c.loop-i-test.false
