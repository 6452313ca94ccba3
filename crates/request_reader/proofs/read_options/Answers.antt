-- `request_reader::read_options` meets its contract: after each field, the next one decides. Assumes nothing.
use Rattle.std.proofs.Common.{rules}
use Rattle.wire.specs.Number.{v_int}
use Rattle.field.specs.Refusal.{number_of}
use Rattle.request_reader.proofs.Read.{at_options}
use Rattle.request_reader.proofs.read_options.Goals as goal

pub returns-in_err-intelligence : goal.returns-in_err-intelligence
unfolding v_int
returns-in_err-intelligence c = search (rules, at_options, c.in_err-intelligence.ensures number_of)

pub returns-in_default-3 : goal.returns-in_default-3
unfolding v_int
returns-in_default-3 c = search (rules, at_options, c.in_ok-intelligence.ensures number_of)

pub returns-in_err-topology : goal.returns-in_err-topology
unfolding v_int
returns-in_err-topology c = search (rules, at_options, c.in_ok-intelligence.ensures number_of)

pub returns-in_default-4 : goal.returns-in_default-4
unfolding v_int
returns-in_default-4 c = search (rules, at_options, c.in_ok-intelligence.ensures number_of)

pub returns-in_err-c5 : goal.returns-in_err-c5
unfolding v_int
returns-in_err-c5 c = search (rules, at_options, c.in_ok-intelligence.ensures number_of)

pub returns-in_default-5 : goal.returns-in_default-5
unfolding v_int
returns-in_default-5 c = search (rules, at_options, c.in_ok-intelligence.ensures number_of)

pub returns : goal.returns
unfolding v_int
returns c = search (rules, at_options, c.in_ok-intelligence.ensures number_of)
