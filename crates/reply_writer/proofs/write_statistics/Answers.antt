-- `reply_writer::write_statistics` meets its contract: operation and status are those of the reply table. Assumes nothing.
use mathlib.Core.Path.{refl, sym, ◌∙◌}
use Rattle.statistics.specs.Statistics.{list_of}
use Rattle.message.specs.declared.Operation.TheVariants.{Stats}
use Rattle.message.specs.ReplyTable as m
use Rattle.message.specs.ReplyTable.{body_at}
use Rattle.message.specs.Payload.{fields_of}
use Rattle.message.specs.Reply.{statistics_reply}
use Rattle.reply_writer.proofs.SendLaws.{send_unawaited, send-awaited}
use Rattle.reply_writer.proofs.write_statistics.Goals as goal

pub returns-then-not-is_reply : goal.returns-then-not-is_reply
returns-then-not-is_reply c =
    send_unawaited c.args.asked (statistics_reply c.args.id (list_of c.args.x)) c.args.out.now (sym c.is_reply.ensures ∙ c.if-not-is_reply.true)

pub returns : goal.returns
unfolding fields_of body_at
returns c =
    c.write_counted.ensures
    ∙ send-awaited c.args.asked Stats (statistics_reply c.args.id (list_of c.args.x)) c.args.out.now m.statistics refl (λ with_old. refl)
    (sym c.is_reply.ensures ∙ c.if-not-is_reply.false)
