-- `exports::fq_read_reply` meets its contract. Assumes nothing.
use native.Mathlib.Omega.{arith}
use Rattle.exports.proofs.CodeLaws.{no_room, in-room}
use Rattle.exports.proofs.fq_read_reply.Goals as goal

pub returns-then-answer-lt-REPLY : goal.returns-then-answer-lt-REPLY
returns-then-answer-lt-REPLY c = no_room _ _ _ (omega arith)

pub returns : goal.returns
returns c = in-room _ _ _ (omega arith) c.read_reply.ensures
