-- `exports::fq_write_statistics` meets its contract: a list of another length is 16, and what the writer answers is told. Assumes nothing.
use mathlib.Core.Path.{ap}
use native.Mathlib.Omega.{arith}
use borrow.Author.Tests.{eq-eqb, ne_eqb}
use Rattle.exports.specs.Codes.{coded}
use Rattle.exports.specs.Messages.{send_statistics}
use Rattle.exports.proofs.CodeLaws.{sent-fits}
use Rattle.exports.proofs.fq_write_statistics.Goals as goal

pub returns-in_default : goal.returns-in_default
unfolding send_statistics
returns-in_default c = rw (ne_eqb _ 9 c.in_default.ensures.1)

pub sent-requires : goal.sent-requires
sent-requires c = sent-fits _ _ _ (omega (arith, c.well_formed.0.1)) _ _ c.write_statistics.ensures

pub returns : goal.returns
unfolding send_statistics
returns c =
    rw (eq-eqb _ 9 c.in-Ok.ensures.1.long, c.sent.ensures)
    (rw (c.into.ensures, c.in-Ok.ensures.1.same) at (ap coded c.write_statistics.ensures))
