-- `request_writer::write_request` meets its contract: it judges, then measures, then writes. Assumes nothing.
use native.Mathlib.Omega.{arith}
use Rattle.wire.proofs.WriteLaws.{send-broken, send-short, send-done}
use Rattle.message.specs.Request.{request}
use Rattle.request_writer.proofs.Rules.{judged}
use Rattle.request_writer.proofs.write_request.Goals as goal

pub returns-then-not-keeps_rules : goal.returns-then-not-keeps_rules
returns-then-not-keeps_rules c =
    send-broken request _ _
    (judged _ (omega arith) (λ i. omega (arith, c.type_inv.name i)) (λ i. omega (arith, c.type_inv.key i)) (λ i. omega (arith, c.type_inv.value i)) c.keeps_rules.ensures c.if-not-keeps_rules.true)

pub returns-then-out-length : goal.returns-then-out-length
returns-then-out-length c =
    send-short request _ _ (judged _ (omega arith) (λ i. omega (arith, c.type_inv.name i)) (λ i. omega (arith, c.type_inv.key i)) (λ i. omega (arith, c.type_inv.value i)) c.keeps_rules.ensures c.if-not-keeps_rules.false) (omega (arith, c.length.ensures))

pub put-requires : goal.put-requires
put-requires c =
    record {
      good = judged _ (omega arith) (λ i. omega (arith, c.type_inv.name i)) (λ i. omega (arith, c.type_inv.key i)) (λ i. omega (arith, c.type_inv.value i)) c.keeps_rules.ensures c.if-not-keeps_rules.false;
      room = omega (arith, c.length.ensures, c.if-out-length.false);
    }

pub returns : goal.returns
returns c =
    send-done request _ _
    (judged _ (omega arith) (λ i. omega (arith, c.type_inv.name i)) (λ i. omega (arith, c.type_inv.key i)) (λ i. omega (arith, c.type_inv.value i)) c.keeps_rules.ensures c.if-not-keeps_rules.false)
    (omega (arith, c.length.ensures, c.if-out-length.false)) _ _ c.put.ensures
