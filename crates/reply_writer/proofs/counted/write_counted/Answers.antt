-- `reply_writer::counted::write_counted` meets its contract: it judges, then measures, then writes. Assumes nothing.
use mathlib.Core.Path.{◌≡◌, refl, sym, ◌∙◌}
use lib.Dec.{lit<}
use borrow.Author.Rules.{rules}
use Rattle.wire.specs.Write.{kept, send}
use Rattle.field.specs.Refusal.{number_of}
use Rattle.reply_writer.specs.Frame.{framed}
use Rattle.statistics.specs.Statistics.{list_of}
use Rattle.message.specs.Sent.{as_sent}
use Rattle.message.specs.Payload.{statistics_body}
use Rattle.message.specs.Reply.{statistics_reply}
use Rattle.reply_writer.proofs.SendLaws.{unsent-id, judgement, behind-header, framed-sent, counted-sized, counted-unsized, put-counted}
use Rattle.reply_writer.proofs.counted.write_counted.Goals as goal

pub returns-then-id-gt9223372036854775807 : goal.returns-then-id-gt9223372036854775807
returns-then-id-gt9223372036854775807 c =
    unsent-id statistics_body (statistics_reply c.args.id (list_of c.args.x)) (lit< tt) (lit< tt) c.if-id-gt9223372036854775807.true c.args.out.now

pub returns-then-not-can_send : goal.returns-then-not-can_send
returns-then-not-can_send c =
    judgement statistics_body (statistics_reply c.args.id (list_of c.args.x)) (lit< tt) (lit< tt) _
    (counted-unsized _ (sym c.if-not-can_send.true ∙ c.can_send.ensures)) c.args.out.now _ refl

pub returns-in_err-judge : goal.returns-in_err-judge
returns-in_err-judge c =
    let r = statistics_reply c.args.id (list_of c.args.x) in
    let v = sym c.if-not-can_send.false ∙ c.can_send.ensures in
    let j : (kept (number_of c.in_err-judge.field-0.0), c.args.out.now) ≡ send (framed statistics_body) r c.args.out.now =
    judgement statistics_body r (lit< tt) (lit< tt) _ (counted-sized _ v c.statistics_len.ensures.0) c.args.out.now _ c.in_err-judge.ensures in
    let e : as_sent c.from_residual.result ≡ kept (number_of c.in_err-judge.field-0.0) = search rules in
    rw e j

pub returns : goal.returns
returns c =
    let r = statistics_reply c.args.id (list_of c.args.x) in
    let v = sym c.if-not-can_send.false ∙ c.can_send.ensures in
    let j = judgement statistics_body r (lit< tt) (lit< tt) _ (counted-sized _ v c.statistics_len.ensures.0) c.args.out.now _ c.in_ok-judge.ensures in
    framed-sent statistics_body r c.put_header-at.ensures j
    (put-counted _ v (behind-header statistics_body r c.put_header-at.ensures j) c.put_statistics.ensures)
