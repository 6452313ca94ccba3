-- `reply_writer::write::Answer::write` meets its contract: it judges, then measures, then writes. Assumes nothing.
use mathlib.Core.Path.{◌∙◌}
use Prim.Native.Nat.{◌<◌, ◌^◌}
use native.Mathlib.Omega.{arith}
use borrow.Author.Rules.{rules}
use Rattle.message.specs.Payload.{fields_of}
use Rattle.reply_writer.specs.Answer.{reply_in}
use Rattle.reply_writer.proofs.SendLaws.{unsent-id, judgement, behind-header, framed-sent, sized}
use Rattle.reply_writer.proofs.write.Answer.write.Goals as goal

pub returns-then-h-gt9223372036854775807 : goal.returns-then-h-gt9223372036854775807
returns-then-h-gt9223372036854775807 c =
    unsent-id (fields_of c.args.self.form) (reply_in c.args.self) (omega arith) (omega arith) c.if-h-gt9223372036854775807.true c.args.out.now

pub returns-in_err-judge : goal.returns-in_err-judge
returns-in_err-judge c =
    let fits : c.args.self.head.entry.0 < 256 ^ 8 = omega arith in
    search (rules, judgement (fields_of c.args.self.form) (reply_in c.args.self) (omega arith) (omega arith) _ (c.body_len.ensures ∙ sized _ _ _ _ fits) c.args.out.now _ c.in_err-judge.ensures)

pub put_body-requires : goal.put_body-requires
put_body-requires c =
    let fits : c.args.self.head.entry.0 < 256 ^ 8 = omega arith in
    let j = judgement (fields_of c.args.self.form) (reply_in c.args.self) (omega arith) (omega arith) _ (c.body_len.ensures ∙ sized _ _ _ _ fits) c.args.out.now _ c.in_ok-judge.ensures in
    record { valid = j.body; room = behind-header _ _ c.put_header-at.ensures j }

pub returns : goal.returns
returns c =
    let fits : c.args.self.head.entry.0 < 256 ^ 8 = omega arith in
    let j = judgement (fields_of c.args.self.form) (reply_in c.args.self) (omega arith) (omega arith) _ (c.body_len.ensures ∙ sized _ _ _ _ fits) c.args.out.now _ c.in_ok-judge.ensures in
    framed-sent _ _ c.put_header-at.ensures j c.put_body.ensures
