-- `reply_reader::read_reply` meets its contract: what is not awaited is refused before any byte is looked at. Assumes nothing.
use Rattle.std.proofs.Common.{rules}
use mathlib.Core.Path.{ap, ◌∙◌}
use Rattle.wire.specs.Codec.{refuse, mapped}
use Rattle.message.specs.Reply.{reply}
use Rattle.wire.proofs.At.{at_front}
use Rattle.reply_reader.specs.ReplyRead.{reply_at}
use Rattle.reply_reader.proofs.read_reply.Goals as goal

pub returns-in_err-operation : goal.returns-in_err-operation
unfolding reply refuse mapped
returns-in_err-operation c = search rules

pub returns : goal.returns
unfolding reply
returns c = rw (← c.in_ok-operation.ensures, ← c.with_old-old.ensures) (c.read_message.ensures ∙ ap (mapped reply_at) (at_front _ _))
