-- `server::bulk::write_bulk` meets its contract: the header, and the entries behind it. Assumes nothing.
use mathlib.Core.Path.{◌≡◌, refl, ap, ◌∙◌}
use borrow.Author.Rules.{rules}
use Rattle.wire.specs.Write.{kept}
use Rattle.field.specs.Refusal.{number_of}
use native.Mathlib.Omega.{arith}
use lib.Dec.{eqb}
use Rattle.message.specs.Sent.{as_sent}
use Rattle.message.proofs.Most.{v_long-most}
use Rattle.reply_writer.proofs.SendLaws.{head_sent, head_unsent, bulk-behind, send-bulk}
use Rattle.table.specs.Memory.{state_of}
use Rattle.server.specs.Bulk.{listed_pairs}
use Rattle.server.proofs.SendLaws.{listed-valid, listed-most}
use Rattle.server.proofs.bulk.write_bulk.Goals as goal

pub returns-in_err-at : goal.returns-in_err-at
returns-in_err-at c s v h =
    let a = c.args in
    let k = number_of c.in_err-at.field-0.0 in
    let e : as_sent c.from_residual.result ≡ kept k = search rules in
    rw e (head_unsent a.asked a.id a.out.now c.in_err-at.ensures k refl v (omega (arith, h, v_long-most.most a.id v)) _)

pub returns : goal.returns
returns c s v h =
    let a = c.args in
    let values = eqb a.asked.op 0x19 in
    let es = listed_pairs values a.n (state_of a.t.now) in
    let g = listed-valid a.n a.t.now values s in
    let q = head_sent a.asked a.id a.out.now c.write_bulk_head.ensures _ (ap as_sent c.in_ok-at.was) in
    let p = rw c.from.ensures at c.put_entries.ensures in
    bulk-behind values a.id es a.out.now v g (omega (arith, h, v_long-most.most a.id v, listed-most a.n a.t.now values s)) q.1
    (λ r. p a.n (record { many = c.many.ensures; valid = g; room = r }))
    ∙ send-bulk a.asked values a.id es a.out.now q.0
