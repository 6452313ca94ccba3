-- `exports::fq_write_request` meets its contract: numbers that are none of a request are 16, and what the writer answers is told. Assumes nothing.
use mathlib.Core.Path.{sym, ap, ◌∙◌}
use native.Mathlib.Omega.{arith}
use Rattle.message.proofs.Codes.{found-some, found-none}
use Rattle.exports.specs.Codes.{coded}
use Rattle.exports.specs.Messages.{send_request}
use Rattle.exports.proofs.CodeLaws.{head_fits, sent-fits}
use Rattle.exports.proofs.fq_write_request.Goals as goal

pub returns-then-not-is_head : goal.returns-then-not-is_head
unfolding send_request
returns-then-not-is_head c = rw (sym c.is_head.ensures ∙ c.if-not-is_head.true)

pub bounds-numbers-2 : goal.bounds-numbers-2
bounds-numbers-2 c = omega (arith, (head_fits c.args.numbers.now (sym c.is_head.ensures ∙ c.if-not-is_head.false)).long)

pub overflow_cast-numbers : goal.overflow_cast-numbers
overflow_cast-numbers c = omega (arith, (head_fits c.args.numbers.now (sym c.is_head.ensures ∙ c.if-not-is_head.false)).op)

pub returns-in_default : goal.returns-in_default
unfolding send_request
returns-in_default c = rw (sym c.is_head.ensures ∙ c.if-not-is_head.false, (found-none _ _ c.in_default.ensures).0)

pub head-h-requires : goal.head-h-requires
head-h-requires c = head_fits _ (sym c.is_head.ensures ∙ c.if-not-is_head.false)

pub sent-requires : goal.sent-requires
sent-requires c = sent-fits _ _ _ (omega (arith, c.well_formed.0.1)) _ _ c.write_request.ensures

pub returns : goal.returns
unfolding send_request
returns c =
    rw (sym c.is_head.ensures ∙ c.if-not-is_head.false, found-some _ _ c.in-Ok.ensures, c.sent.ensures)
    (rw c.head-h.ensures at (ap coded c.write_request.ensures))
