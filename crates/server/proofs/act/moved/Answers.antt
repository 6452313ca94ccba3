-- `server::act::moved` meets its contract: the entry found has the version held. Assumes nothing.
use Rattle.plan.proofs.PlanLaws.{found-version, found-held-none}
use Rattle.server.proofs.act.moved.Goals as goal

pub returns-in_err-version : goal.returns-in_err-version
returns-in_err-version c e = absurd (found-held-none _ _ _ _ e c.in_ok-row.ensures c.in_err-version.was)

pub returns : goal.returns
returns c e = found-version _ _ _ _ e c.in_ok-row.ensures c.in_ok-version.was
