-- `exports::fq_next_entry` meets its contract. Assumes nothing.
use native.Mathlib.Omega.{arith}
use Rattle.exports.proofs.CodeLaws.{no_room, in-room}
use Rattle.exports.proofs.fq_next_entry.Goals as goal

pub returns-then-answer-lt-ENTRY : goal.returns-then-answer-lt-ENTRY
returns-then-answer-lt-ENTRY c = no_room _ _ _ (omega arith)

pub returns : goal.returns
returns c = in-room _ _ _ (omega arith) c.next_entry.ensures
