-- `exports::fq_write_reply` meets its contract: numbers that are none of a reply are 16, and what the writer answers is told. Assumes nothing.
use mathlib.Core.Path.{sym, ap, ◌∙◌}
use native.Mathlib.Omega.{arith}
use Rattle.exports.specs.Codes.{coded}
use Rattle.exports.specs.Messages.{send_reply}
use Rattle.exports.proofs.CodeLaws.{reply_head_fits, sent-fits}
use Rattle.exports.proofs.fq_write_reply.Goals as goal

pub returns-then-not-is_reply_head : goal.returns-then-not-is_reply_head
unfolding send_reply
returns-then-not-is_reply_head c = rw (sym c.is_reply_head.ensures ∙ c.if-not-is_reply_head.true)

pub reply_head-h-requires : goal.reply_head-h-requires
reply_head-h-requires c = reply_head_fits _ (sym c.is_reply_head.ensures ∙ c.if-not-is_reply_head.false)

pub sent-requires : goal.sent-requires
sent-requires c =
    sent-fits _ _ _ (omega (arith, c.well_formed.0.1)) _ _ c.write_reply.ensures

pub returns : goal.returns
unfolding send_reply
returns c =
    rw (sym c.is_reply_head.ensures ∙ c.if-not-is_reply_head.false, c.sent.ensures)
    (rw c.reply_head-h.ensures at (ap coded c.write_reply.ensures))
