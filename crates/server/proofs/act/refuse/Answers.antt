-- `server::act::refuse` meets its contract: the error reply of a refusal is written. Assumes nothing.
use Rattle.server.proofs.SendLaws.{error-sent}
use Rattle.server.proofs.act.refuse.Goals as goal

pub returns : goal.returns
returns c =
    error-sent c.args.refusal c.args.id c.requires.refusal_bound c.requires.id_bound c.requires.room_in_bounds (rw c.from.ensures at c.write_error-w.ensures) c.ended.ensures
