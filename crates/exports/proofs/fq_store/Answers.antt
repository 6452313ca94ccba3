-- `exports::fq_store` meets its contract: what storing answers is told. Assumes nothing.
use native.Mathlib.Omega.{arith}
use Rattle.message.specs.Sent.{as_sent}
use Rattle.exports.proofs.CodeLaws.{storing-fits}
use Rattle.exports.proofs.fq_store.Goals as goal

pub sent-requires : goal.sent-requires
sent-requires c =
    storing-fits _ _ _ _ (omega (arith, c.well_formed.1.0.1)) c.store.ensures

pub returns : goal.returns
returns c = record { sent = as_sent c.store.result; storing = c.store.ensures; code = c.sent.ensures }
