-- `table::expiry::least` meets its contract. The loop's invariant: the least deadline of the first i entries. Assumes nothing.
use mathlib.Core.Path.{sym}
use native.Mathlib.Omega.{arith}
use Rattle.table.proofs.Bounds.{least-none, least-next}
use Rattle.table.proofs.expiry.least.Goals as goal

pub loop-i-init : goal.loop-i-init
loop-i-init c = (omega arith, sym (least-none c.args.t.now))

pub loop-i-preserved : goal.loop-i-preserved
loop-i-preserved c =
    let d = c.before in
    let l = d in
    (omega arith, least-next l.args.t.now l.loop-i.i _ _ _ d.deadline.ensures l.loop-i.invariant.1 c.lesser-low.ensures)
