-- `reply_writer::write_text` meets its contract: an error reply is judged by its status alone. Assumes nothing.
use mathlib.Core.Path.{refl, sym, ap, ◌∙◌}
use mathlib.Core.Bool.{false}
use lib.Dec.{eqb}
use Rattle.message.specs.declared.Operation.TheVariants.{Ping}
use Rattle.message.specs.Operation.{find_code}
use Rattle.message.specs.Edition.{edition_of}
use Rattle.message.specs.ReplyTable.{error_code, errors, is_allowed}
use Rattle.message.specs.Reply.{is_awaited, statuses_of, awaited, reply, error_reply}
use Rattle.rules.proofs.BodyLaws.{error-text}
use Rattle.reply_writer.specs.Frame.{error_of}
use Rattle.reply_writer.proofs.SendLaws.{send-framed}
use Rattle.reply_writer.proofs.write_text.Goals as goal

pub returns : goal.returns
unfolding error_reply reply awaited edition_of find_code
returns c =
    let r = error_of c.args.id c.args.status c.args.text.now in
    let e = ap is_allowed (sym (error-text c.args.status c.requires.le_status c.requires.status_bound)) in
    c.write_reply.ensures
    ∙ sym (send-framed (is_awaited Ping) (statuses_of false Ping) false r c.args.out.now refl e)
    ∙ send-framed (λ op. eqb op error_code) (λ op. errors) false r c.args.out.now refl e
