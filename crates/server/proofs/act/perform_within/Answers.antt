-- `server::act::perform_within` meets its contract: a request that asks for more room than there is changes nothing. Assumes nothing.
use native.Mathlib.Omega.{arith}
use Rattle.server.proofs.StepLaws.{performs_short, performs_fits}
use Rattle.server.proofs.act.perform_within.Goals as goal

pub returns-then-out-room_of : goal.returns-then-out-room_of
returns-then-out-room_of c = performs_short _ _ _ _ _ (omega (arith, c.if-out-room_of.true, c.room_of.ensures)) c.unsent.ensures

pub returns : goal.returns
returns c = performs_fits _ _ _ _ _ (omega (arith, c.if-out-room_of.false, c.room_of.ensures)) c.perform.ensures
