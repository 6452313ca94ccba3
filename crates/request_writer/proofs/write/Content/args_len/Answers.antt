-- `request_writer::write::Content::args_len` meets its contract: the limits say which arguments are sent. Assumes nothing.
use native.Mathlib.Omega.{arith}
use Rattle.request_writer.proofs.write.Content.args_len.Goals as goal

pub returns : goal.returns
returns c = (
  rw (← c.limits_of-l.ensures, ← c.size.ensures.0, ← c.size-2.ensures.0, ← c.number_len.ensures.0, ← c.number_len-2.ensures.0, ← c.number_len-3.ensures.0)
      (omega (arith, c.sent.ensures, c.sent-2.ensures, c.sent-3.ensures, c.sent-4.ensures, c.sent-5.ensures)),
  omega arith,
)
