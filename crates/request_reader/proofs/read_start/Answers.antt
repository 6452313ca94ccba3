-- `request_reader::read_start` meets its contract. Assumes nothing.
use Rattle.std.proofs.Common.{rules}
use Rattle.wire.specs.Number.{v_long}
use Rattle.field.specs.Refusal.{number_of}
use Rattle.request_reader.proofs.Read.{at_start}
use Rattle.request_reader.proofs.read_start.Goals as goal

pub returns-in_err-next : goal.returns-in_err-next
returns-in_err-next c = search (rules, at_start)

pub returns-in_default : goal.returns-in_default
returns-in_default c = search (rules, at_start, c.in_ok-next.ensures number_of)

pub returns : goal.returns
unfolding v_long
returns c = search (rules, at_start, c.in_ok-next.ensures number_of)
