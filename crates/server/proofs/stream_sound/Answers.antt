-- `server::stream_sound` meets its contract: between two calls the loop knows what `Between` says. Assumes nothing.
use mathlib.Core.Path.{sym, ◌∙◌}
use native.Mathlib.Omega.{arith}
use borrow.Author.Rules.{rules}
use Rattle.server.proofs.StreamLaws.{no_room, call-takes, call-sends, call-on, call_ends, call-waits}
use Rattle.server.proofs.stream_sound.Goals as goal
use Rattle.server.proofs.stream_sound.Goals.{else-loop-reply-test, then-loop-reply-test+then-waits}

pub overflow_add-taken : goal.overflow_add-taken
overflow_add-taken c = omega (arith, call-takes _ _ _ _ _ c.loop-reply.invariant (λ i. search rules) (omega (arith, c.well_formed)) c.call_at-a.ensures c.loop-reply-test.true, c.well_formed)

pub overflow_add-size : goal.overflow_add-size
overflow_add-size c = omega (arith, call-sends _ _ _ _ _ c.loop-reply.invariant (λ i. search rules) (omega (arith, c.well_formed)) c.call_at-a.ensures c.loop-reply-test.true, c.loop-reply.invariant.long, c.well_formed)

pub returns-then-a-eq0 : goal.returns-then-a-eq0
returns-then-a-eq0 c =
    rw c.all_calls.ensures (call_ends _ _ _ _ _ c.loop-reply.invariant (λ i. search rules) (omega (arith, c.well_formed)) c.call_at-a.ensures c.loop-reply-test.true (sym c.waits.ensures ∙ c.if-waits.false) c.if-a-eq0.true)

pub loop-reply-smaller : goal.loop-reply-smaller
loop-reply-smaller c = omega (arith, c.if-a-eq0.false, call-takes _ _ _ _ _ c.loop-reply.invariant (λ i. search rules) (omega (arith, c.well_formed)) c.call_at-a.ensures c.loop-reply-test.true)

pub loop-reply-preserved : goal.loop-reply-preserved
loop-reply-preserved c =
    call-on _ _ _ _ _ c.loop-reply.invariant (λ i. search rules) (omega (arith, c.well_formed)) c.call_at-a.ensures c.loop-reply-test.true (sym c.waits.ensures ∙ c.if-waits.false) (omega (arith, c.if-a-eq0.false))

pub returns : goal.returns
returns c =
    elim c.loop-reply-test.branch [
      | else-loop-reply-test w ↦ rw (c.all_calls-2.ensures, w.table-is, w.reply-is) (no_room _ _ _ _ _ c.loop-reply.invariant c.requires.roomy w.loop-reply-test.false)
      | then-loop-reply-test+then-waits w ↦
          rw (c.all_calls-2.ensures, w.table-is, w.reply-is) (call-waits _ _ _ _ _ c.loop-reply.invariant (λ i. search rules) (omega (arith, c.well_formed)) w.call_at-a.ensures w.loop-reply-test.true (sym w.waits.ensures ∙ w.if-waits.true))
    ]
