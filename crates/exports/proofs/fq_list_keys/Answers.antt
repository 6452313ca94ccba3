-- `exports::fq_list_keys` meets its contract: what the listing answers is told. Assumes nothing.
use native.Mathlib.Omega.{arith}
use Rattle.message.specs.Sent.{as_sent}
use Rattle.exports.proofs.CodeLaws.{listing-fits}
use Rattle.exports.proofs.fq_list_keys.Goals as goal

pub sent-requires : goal.sent-requires
sent-requires c =
    listing-fits _ _ _ _ _ _ _ (omega (arith, c.well_formed.1.1.1.1.0.1)) c.list_keys.ensures

pub returns : goal.returns
returns c = record { sent = as_sent c.list_keys.result; lists = c.list_keys.ensures; code = c.sent.ensures }
