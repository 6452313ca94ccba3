-- `table::expiry::drop_expired` meets its contract. Assumes nothing.
use mathlib.Core.Path.{sym, ◌∙◌}
use native.Mathlib.Omega.{arith}
use Rattle.table.proofs.RowLaws.{count_most}
use Rattle.table.proofs.Sweeps.{stands_at, gone_at, less_yes, less_no}
use Rattle.table.proofs.expiry.drop_expired.Goals as goal

pub deadline-requires : goal.deadline-requires
deadline-requires c = omega (arith, count_most c.args.t.now)

pub returns-then-not-in_time : goal.returns-then-not-in_time
returns-then-not-in_time c =
    let s = c.args in
    c.remove_row.ensures
    ∙ sym (less_yes s.second.0 s.i s.t.now (gone_at s.second.0 s.t.now s.i _ _ c.deadline.ensures c.in_time.ensures (c.if-not-in_time.true)))

pub returns-else-not-in_time : goal.returns-else-not-in_time
returns-else-not-in_time c =
    let s = c.args in
    sym (less_no s.second.0 s.i s.t.now (stands_at s.second.0 s.t.now s.i _ _ c.deadline.ensures c.in_time.ensures (c.if-not-in_time.false)))
