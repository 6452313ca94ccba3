-- `server::act::serve_sound` meets its contract: what is read says what the call does. Assumes nothing.
use mathlib.Core.Path.{refl}
use native.Mathlib.Omega.{arith}
use borrow.Author.Rules.{rules}
use Rattle.message.proofs.RequestLaws.{request_laws}
use Rattle.message.proofs.Refusals.{refusals}
use Rattle.request_reader.proofs.Spans.{request-in}
use Rattle.service.specs.Serve.{on_read, within}
use Rattle.service.proofs.Ids.{id-small}
use Rattle.server.proofs.StepLaws.{does, does-still, serves-read}
use Rattle.server.proofs.act.serve_sound.Goals as goal

pub perform_within-requires-clause-valid : goal.perform_within-requires-clause-valid
perform_within-requires-clause-valid c =
    (request_laws.exact _ _ _ (λ i. search rules) (request-in _ (λ i. search rules) _ _ c.read_request.ensures (rw c.in-Ok-Some.field-0-is at c.in-Ok-Some.is))).good

pub refuse-requires-clause-id_bound : goal.refuse-requires-clause-id_bound
refuse-requires-clause-id_bound c = rw c.read_id.ensures (id-small c.args.input.now (λ i. search rules))

pub refuse-requires-clause-refusal_bound : goal.refuse-requires-clause-refusal_bound
refuse-requires-clause-refusal_bound c =
    let small = refusals _ _ (request-in _ (λ i. search rules) _ _ c.read_request.ensures c.in-Err.is) in omega (arith, small.1)

pub returns-in-Ok-Some : goal.returns-in-Ok-Some
unfolding on_read within
returns-in-Ok-Some c =
    serves-read _ _ _ _ c.requires.sound c.requires.room_in_bounds
    (request-in _ (λ i. search rules) _ _ c.read_request.ensures (rw c.in-Ok-Some.field-0-is at c.in-Ok-Some.is)) c.perform_within.ensures

pub returns-in-Ok-None : goal.returns-in-Ok-None
unfolding on_read within
returns-in-Ok-None c =
    serves-read _ _ _ _ c.requires.sound c.requires.room_in_bounds
    (request-in _ (λ i. search rules) _ _ c.read_request.ensures (rw c.in-Ok-None.field-0-is at c.in-Ok-None.is)) (does-still c.unsent.ensures)

pub returns-in-Err : goal.returns-in-Err
unfolding on_read within
returns-in-Err c =
    serves-read _ _ _ _ c.requires.sound c.requires.room_in_bounds (request-in _ (λ i. search rules) _ _ c.read_request.ensures c.in-Err.is)
    (does (rw c.read_id.ensures at c.refuse.ensures) refl)
