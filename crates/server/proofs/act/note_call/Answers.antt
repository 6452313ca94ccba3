-- `server::act::note_call` meets its contract: what has expired goes, and the call is counted as the map counts it. Assumes nothing.
use Rattle.message.specs.Request.{request_of}
use Rattle.server.specs.CallDone.{as_context}
use Rattle.server.proofs.StepLaws.{call_noted}
use Rattle.server.proofs.act.note_call.Goals as goal

pub returns : goal.returns
returns c name key value s h =
    call_noted (as_context c.args.context) (request_of c.args.h name key value) _ s _ h c.args.context.admissible _ c.is_none.ensures c.arrive.ensures.1
