-- `exports::fq_write_entries` meets its contract: what the writer answers is told. Assumes nothing.
use mathlib.Core.Path.{ap}
use native.Mathlib.Omega.{arith}
use Rattle.exports.specs.Codes.{coded}
use Rattle.exports.specs.Messages.{send_entries}
use Rattle.exports.proofs.CodeLaws.{sent-fits, asks-values}
use Rattle.exports.proofs.fq_write_entries.Goals as goal

pub sent-requires : goal.sent-requires
sent-requires c =
    sent-fits _ _ _ (omega (arith, c.well_formed.0.1)) _ _ c.write_entries.ensures

pub returns : goal.returns
unfolding send_entries
returns c =
    rw c.sent.ensures (rw (asks-values c.args.values) at (rw (c.from.ensures, c.bulk.ensures) at (ap coded c.write_entries.ensures)))
