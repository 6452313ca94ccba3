-- `reply_writer::write::limited_len` meets its contract. Assumes nothing.
use native.Mathlib.Omega.{arith}
use Rattle.reply_writer.proofs.SendLaws.{limited-sized, limited-unsized}
use Rattle.reply_writer.proofs.write.limited_len.Goals as goal

pub returns-then-n-le4294967295-clause-size : goal.returns-then-n-le4294967295-clause-size
returns-then-n-le4294967295-clause-size c =
    limited-sized _ _ (λ i. omega (arith, c.type_inv.s i)) c.if-n-lim.true c.if-n-le4294967295.true c.number_len.ensures.0

pub returns-else-n-lim-clause-size : goal.returns-else-n-lim-clause-size
returns-else-n-lim-clause-size c = limited-unsized _ _ (λ i. omega (arith, c.type_inv.s i)) c.else-n-lim.either
