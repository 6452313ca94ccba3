-- `table::key_order::is_before` meets its contract. The loop's invariant: the bytes passed are alike. Assumes nothing.
use mathlib.Core.Path.{sym, ap₂, ◌∙◌}
use lib.Dec.{ltb}
use native.Mathlib.Omega.{arith}
use Rattle.wire.proofs.Words.{words}
use Rattle.table.proofs.key_order.is_before.Goals as goal

pub returns-then-x-y : goal.returns-then-x-y
returns-then-x-y c =
    let l = c.before.before.before.before in
    let p = l.before.before in
    let s = p in
    let w = words s.args.a.now s.args.b.now (λ i. omega (arith, p.shared_slice_known-1.given i)) (λ i. omega (arith, p.shared_slice_known-2-1.given i)) 8 l.loop-i.i (omega arith) (omega arith) in
    let x = c.get64-x.ensures in
    let y = c.get64-y.ensures in
    ap₂ ltb x y ∙ sym (l.loop-i.invariant.2 ∙ w.unlike (λ e. c.if-x-y.true (x ∙ e ∙ sym y)))

pub loop-i-preserved : goal.loop-i-preserved
loop-i-preserved c =
    let l = c.before.before.before.before in
    let p = l.before.before in
    let s = p in
    let w = words s.args.a.now s.args.b.now (λ i. omega (arith, p.shared_slice_known-1.given i)) (λ i. omega (arith, p.shared_slice_known-2-1.given i)) 8 l.loop-i.i (omega arith) (omega arith) in
    (omega arith, l.loop-i.invariant.1, l.loop-i.invariant.2 ∙ w.alike (sym c.get64-x.ensures ∙ c.if-x-y.false ∙ c.get64-y.ensures))
