-- `server::act::respond` meets its contract: the reply written is the one that the map gives. Assumes nothing.
use Rattle.server.specs.CallDone.{as_context}
use Rattle.server.proofs.SendLaws.{reply-sent}
use Rattle.server.proofs.act.respond.Goals as goal

pub returns : goal.returns
returns c name key value g =
    reply-sent (as_context c.args.context) g _ c.args.context.admissible c.requires.room_in_bounds (c.write-w.ensures name key value c.requires.room_in_bounds g) c.ended.ensures
