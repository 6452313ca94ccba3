-- `reply_writer::listed::write_head` meets its contract: it judges the header, and then writes it. Assumes nothing.
use mathlib.Core.List.{[]}
use native.Mathlib.Omega.{arith}
use lib.Dec.{lit<}
use borrow.Author.Rules.{rules}
use Rattle.wire.proofs.WriteLaws.{send-done}
use Rattle.message.specs.Payload.{no_body}
use Rattle.message.specs.Reply.{bulk_reply}
use Rattle.reply_writer.specs.Frame.{framed}
use Rattle.reply_writer.proofs.SendLaws.{judgement, framed_length, no-body-sized, bulk-small}
use Rattle.reply_writer.proofs.listed.write_head.Goals as goal

pub returns-in_err-judge : goal.returns-in_err-judge
returns-in_err-judge c =
    search (rules, judgement no_body (bulk_reply c.args.values c.args.id []) (bulk-small c.args.values) (lit< tt) _ no-body-sized c.args.out.now _ c.in_err-judge.ensures)

pub returns : goal.returns
returns c =
    let j = judgement no_body (bulk_reply c.args.values c.args.id []) (bulk-small c.args.values) (lit< tt) _ no-body-sized c.args.out.now _ c.in_ok-judge.ensures in
    send-done (framed no_body) _ _ j.valid (omega (arith, j.room, framed_length no_body (bulk_reply c.args.values c.args.id []))) _ _ (rw c.bulk_code.ensures at c.put_header.ensures)
