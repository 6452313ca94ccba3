-- `table::expiry::count_standing` meets its contract. The loop's invariant: those of the first i entries that stand are counted. Assumes nothing.
use mathlib.Core.Path.{sym, ap, ◌∙◌}
use native.Mathlib.Omega.{arith}
use Rattle.table.proofs.Sweeps.{standing_of, standing-none, standing-more, standing-same, standing-held, stands_at, gone_at}
use Rattle.table.proofs.expiry.count_standing.Goals as goal
use Rattle.table.proofs.expiry.count_standing.Goals.{then-in_time, else-in_time}

pub loop-i-init : goal.loop-i-init
loop-i-init c = let s = c.args in
    (omega arith, omega arith, sym (standing-none s.second.0 s.t.now))

pub loop-i-preserved : goal.loop-i-preserved
loop-i-preserved c =
    let a = c in
    let d = a in
    let l = d in
    let s = l.args in
    let n = s.second.0 in
    let t = s.t.now in
    let i = l.loop-i.i in
    elim c.if-in_time.branch [
      | then-in_time x ↦ (omega arith, omega (arith, x.many-is), omega (arith, x.many-is, l.loop-i.invariant.2, standing-more n t i (stands_at n t i _ _ d.deadline.ensures a.in_time.ensures x.if-in_time.true)))
      | else-in_time x ↦ (omega arith, omega (arith, x.many-is), omega (arith, x.many-is, l.loop-i.invariant.2, standing-same n t i (gone_at n t i _ _ d.deadline.ensures a.in_time.ensures x.if-in_time.false)))
    ]

pub returns : goal.returns
returns c =
    let l = c in
    let n = l in
    let s = n in
    l.loop-i.invariant.2 ∙ ap (standing_of s.args.second.0 s.args.t.now) (omega (arith, n.count-i-end.ensures.0)) ∙ standing-held s.args.second.0 s.args.t.now s.told-t
