-- `reply_writer::write_entries` meets its contract: operation and status are those of the reply table. Assumes nothing.
use mathlib.Core.Path.{sym, ◌∙◌}
use lib.Dec.{eqb}
use Rattle.listing.specs.EntryWrite.{listed_in}
use Rattle.message.specs.Reply.{entries_reply}
use Rattle.reply_writer.proofs.SendLaws.{send_unawaited, send-bulk}
use Rattle.reply_writer.proofs.write_entries.Goals as goal

pub returns-then-not-is_reply : goal.returns-then-not-is_reply
returns-then-not-is_reply c =
    let b = rw c.from.ensures at c.bulk_code.ensures in
    send_unawaited c.args.asked (entries_reply c.args.asked c.args.id (listed_in c.args.bytes.now c.args.numbers.now)) c.args.out.now
    (rw (← b) (sym c.is_reply.ensures ∙ c.if-not-is_reply.true))

pub returns : goal.returns
returns c =
    let b = rw c.from.ensures at c.bulk_code.ensures in
    rw c.from.ensures at c.write_listed.ensures
    ∙ send-bulk c.args.asked (eqb c.args.asked.op 0x19) c.args.id (listed_in c.args.bytes.now c.args.numbers.now) c.args.out.now
    (rw (← b) (sym c.is_reply.ensures ∙ c.if-not-is_reply.false))
