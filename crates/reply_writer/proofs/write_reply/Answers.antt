-- `reply_writer::write_reply` meets its contract: the operation and the status are judged first. Assumes nothing.
use mathlib.Core.Path.{sym, ap, ◌∙◌}
use mathlib.Core.Bool.{◌&&◌}
use Rattle.wire.specs.Codec.{refuse}
use Rattle.wire.specs.Write.{send}
use Rattle.message.specs.Request.{edition_at}
use Rattle.message.specs.ReplyTable.{is_allowed}
use Rattle.message.specs.Reply.{reply, reply_of, is_awaited, statuses_of}
use Rattle.reply_writer.proofs.SendLaws.{allowed-some, send-other, send-unlisted, send-framed}
use Rattle.reply_writer.proofs.write_reply.Goals as goal

pub returns-in_default : goal.returns-in_default
unfolding reply refuse send
returns-in_default c = rw (← c.in_default.ensures)

pub returns-then-not-is_awaited : goal.returns-then-not-is_awaited
unfolding reply
returns-then-not-is_awaited c =
    let a = c.args in
    let o = c.in-Ok.o in
    rw (← c.in-Ok.ensures)
    (send-other (is_awaited o) (statuses_of ((edition_at a.asked.version).old_statuses && a.asked.flag) o) a.asked.flag (reply_of a.head a.value.now a.text.now) a.out.now
    (sym c.is_awaited.ensures ∙ c.if-not-is_awaited.true))

pub returns-then-is_none : goal.returns-then-is_none
unfolding reply
returns-then-is_none c =
    let a = c.args in
    let o = c.in-Ok.o in
    rw (← c.in-Ok.ensures)
    (send-unlisted (is_awaited o) (statuses_of ((edition_at a.asked.version).old_statuses && a.asked.flag) o) a.asked.flag (reply_of a.head a.value.now a.text.now) a.out.now
    (rw (← c.with_old-old.ensures) (ap is_allowed (sym c.body_at-b.ensures) ∙ allowed-some _ ∙ c.if-is_none.ensures)))

pub returns : goal.returns
unfolding reply
returns c =
    let a = c.args in
    let o = c.in-Ok.o in
    rw (← c.in-Ok.ensures, ← c.with_old-old.ensures)
    (c.write_formed.ensures
    ∙ (rw (← c.with_old-old.ensures, ← c.body_at-b.ensures, ← c.form_of.ensures) at
    (send-framed (is_awaited o) (statuses_of ((edition_at a.asked.version).old_statuses && a.asked.flag) o) a.asked.flag (reply_of a.head a.value.now a.text.now) a.out.now
    (sym c.is_awaited.ensures ∙ c.if-not-is_awaited.false)
    (rw (← c.with_old-old.ensures) (ap is_allowed (sym c.body_at-b.ensures) ∙ allowed-some _ ∙ c.if-is_none.ensures)))))
