-- `exports::fq_read_request` meets its contract. Assumes nothing.
use native.Mathlib.Omega.{arith}
use Rattle.exports.proofs.CodeLaws.{no_room, in-room}
use Rattle.exports.proofs.fq_read_request.Goals as goal

pub returns-then-answer-lt-REQUEST : goal.returns-then-answer-lt-REQUEST
returns-then-answer-lt-REQUEST c = no_room _ _ _ (omega arith)

pub returns : goal.returns
returns c = in-room _ _ _ (omega arith) c.read_request.ensures
