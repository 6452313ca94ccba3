-- `exports::calls::read_reply` meets its contract, by each answer of the reader. Assumes nothing.
use native.Mathlib.Omega.{arith}
use Rattle.message.proofs.ReplyLaws.{reply_laws}
use Rattle.reply_reader.specs.ReplyRead.{reply_at}
use Rattle.exports.specs.Codes.{told}
use Rattle.exports.proofs.CodeLaws.{whole-fits}
use Rattle.exports.proofs.calls.read_reply.Goals as goal

pub overflow_add-result : goal.overflow_add-result
overflow_add-result c = record { fits = whole-fits _ (reply_laws _) _ (omega (arith, c.well_formed.0.1)) reply_at _ _ (rw (c.in-Ok-Some.is, c.in-Ok-Some.field-0-is) at c.read_reply.ensures) }

pub returns-in-Ok-Some : goal.returns-in-Ok-Some
unfolding told
returns-in-Ok-Some c = rw (← c.read_reply.ensures, c.in-Ok-Some.is, c.in-Ok-Some.field-0-is, c.reply.ensures)

pub returns-in-Ok-None : goal.returns-in-Ok-None
unfolding told
returns-in-Ok-None c = rw (← c.read_reply.ensures, c.in-Ok-None.is, c.in-Ok-None.field-0-is)

pub returns-in-Err : goal.returns-in-Err
unfolding told
returns-in-Err c = rw (← c.read_reply.ensures, c.in-Err.is, c.from.ensures)
