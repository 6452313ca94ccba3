-- `reply_reader::read::read_message` meets its contract: after each field, what follows decides. Assumes nothing.
use Rattle.std.proofs.Common.{rules}
use Rattle.wire.specs.Number.{v_long}
use Rattle.field.specs.Refusal.{number_of}
use Rattle.reply_reader.proofs.ReadLaws.{at_message}
use Rattle.reply_reader.proofs.BulkLaws.{bulk-form}
use Rattle.reply_reader.proofs.read.read_message.Goals as goal

pub returns-in_err-c1 : goal.returns-in_err-c1
returns-in_err-c1 c = search (rules, at_message, c.in_err-c1.ensures number_of)

pub returns-in_default : goal.returns-in_default
returns-in_default c = search (rules, at_message, c.in_ok-c1.ensures number_of)

pub returns-in_err-id : goal.returns-in_err-id
unfolding v_long
returns-in_err-id c = search (rules, at_message, c.in_ok-c1.ensures number_of)

pub returns-in_default-2 : goal.returns-in_default-2
unfolding v_long
returns-in_default-2 c = search (rules, at_message, c.in_ok-c1.ensures number_of)

pub returns-in_default-read_byte : goal.returns-in_default-read_byte
unfolding v_long
returns-in_default-read_byte c = search (rules, at_message, c.in_ok-c1.ensures number_of)

pub returns-then-not-is_awaited : goal.returns-then-not-is_awaited
unfolding v_long
returns-then-not-is_awaited c = search (rules, at_message, c.in_ok-c1.ensures number_of)

pub returns-in_default-read_byte-2 : goal.returns-in_default-read_byte-2
unfolding v_long
returns-in_default-read_byte-2 c = search (rules, at_message, c.in_ok-c1.ensures number_of)

pub returns-then-is_none : goal.returns-then-is_none
unfolding v_long
returns-then-is_none c = search (rules, at_message, c.in_ok-c1.ensures number_of)

pub returns-in_err-c5 : goal.returns-in_err-c5
unfolding v_long
returns-in_err-c5 c = search (rules, at_message, c.in_ok-c1.ensures number_of, c.in_err-c5.ensures number_of)

pub returns-in_default-3 : goal.returns-in_default-3
unfolding v_long
returns-in_default-3 c = search (rules, at_message, c.in_ok-c1.ensures number_of, c.in_ok-c5.ensures number_of)

pub read_body-requires-clause-op_value : goal.read_body-requires-clause-op_value
read_body-requires-clause-op_value c = search (rules, bulk-form)

pub returns : goal.returns
unfolding v_long
returns c = search (rules, at_message, c.in_ok-c1.ensures number_of, c.in_ok-c5.ensures number_of)
