-- `server::lines::serve_frame` meets its contract: what is read says what the line gives. Assumes nothing.
use native.Mathlib.Omega.{arith}
use borrow.Author.Rules.{rules}
use Rattle.hexadecimal.specs.Hex.{line}
use Rattle.message.proofs.RequestLaws.{request_laws}
use Rattle.message.proofs.Refusals.{refusals}
use Rattle.request_reader.proofs.Spans.{request-in}
use Rattle.server.proofs.LineLaws.{gives_as, gives_same, frame-more, frame-cut, frame-whole, frame_refused}
use Rattle.server.proofs.lines.serve_frame.Goals as goal

pub send_reply-requires-clause-valid : goal.send_reply-requires-clause-valid
send_reply-requires-clause-valid c =
    (request_laws.exact _ _ _ (λ i. search rules) (request-in _ (λ i. search rules) _ _ c.read_request.ensures (rw c.in-Ok-Some.field-0-is at c.in-Ok-Some.is))).good

pub send_error-requires-clause-refusal_bound : goal.send_error-requires-clause-refusal_bound
send_error-requires-clause-refusal_bound c =
    let small = refusals _ _ (request-in _ (λ i. search rules) _ _ c.read_request.ensures c.in-Err.is) in omega (arith, small.1)

pub returns-then-n-frame : goal.returns-then-n-frame
returns-then-n-frame c =
    gives_same (frame-cut _ _ (request-in _ (λ i. search rules) _ _ c.read_request.ensures (rw c.in-Ok-Some.field-0-is at c.in-Ok-Some.is)) c.if-n-frame.true) c.put_text.ensures

pub returns-else-n-frame : goal.returns-else-n-frame
returns-else-n-frame c =
    gives_as (frame-whole _ _ (request-in _ (λ i. search rules) _ _ c.read_request.ensures (rw c.in-Ok-Some.field-0-is at c.in-Ok-Some.is)) c.if-n-frame.false) c.send_reply.ensures

pub returns-in-Ok-None : goal.returns-in-Ok-None
returns-in-Ok-None c =
    gives_same (frame-more _ _ (request-in _ (λ i. search rules) _ _ c.read_request.ensures (rw c.in-Ok-None.field-0-is at c.in-Ok-None.is))) c.put_text-in-Ok-None.ensures

pub returns-in-Err : goal.returns-in-Err
unfolding line
returns-in-Err c = gives_same (frame_refused _ _ (request-in _ (λ i. search rules) _ _ c.read_request.ensures c.in-Err.is)) c.send_error.ensures
