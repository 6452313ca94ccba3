-- `server::act::write_held` meets its contract: the reply written is the one that the map gives. Assumes nothing.
use mathlib.Core.Path.{◌≡◌, ap, ◌∙◌}
use mathlib.Core.Bool.{Bool, not, ◌&&◌}
use Rattle.message.specs.declared.Asked.{Asked}
use Rattle.message.specs.Request.{edition_at, request_of}
use Rattle.message.specs.ReplyTable.{reply_status}
use Rattle.map.specs.Step.{wants_old, with_old, is_none}
use Rattle.plan.specs.Plan.{held_at}
use Rattle.server.proofs.SendLaws.{form, held_same, held_framed}
use Rattle.server.proofs.act.write_held.Goals as goal

pub returns : goal.returns
returns c x name key value n g =
    let a = c.args in
    let r = request_of a.h name key value in
    let l : c.asked_by-flag.result.flag ≡ wants_old r = ap (λ (y : Asked). y.flag) (c.asked_by-flag.ensures name key value) in
    let m : c.with_old-old.result ≡ with_old r = c.with_old-old.ensures ∙ ap (λ (y : Bool). (edition_at a.h.version).old_statuses && y) l in
    let p : c.reply_status-status.result ≡ reply_status (with_old r) r.op (not (is_none (held_at a.t.now key))) a.status =
    c.reply_status-status.ensures ∙ rw (m, c.is_some.ensures, held_same a.t.now key a.held g.holds) in
    let f : c.form_of-form.result ≡ form r c.reply_status-status.result = c.form_of-form.ensures ∙ rw (c.body_at.ensures, c.from-op.ensures, m, l) in
    held_framed x g _ n c.from-op.ensures p (rw f at (c.shown_version.ensures a.t.now key g.holds))
    (c.value_at-value.ensures ∙ (rw f at (c.shown_row.ensures a.t.now key g.sound g.holds))) (rw f at c.write_formed.ensures)
