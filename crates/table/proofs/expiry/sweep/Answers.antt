-- `table::expiry::sweep` meets its contract. Assumes nothing.
use mathlib.Core.Path.{sym, ◌∙◌}
use Rattle.table.specs.Sweep.{rebound}
use Rattle.table.proofs.Sweeps.{swept_due, swept_not}
use Rattle.table.proofs.expiry.sweep.Goals as goal

pub returns-then-is_due : goal.returns-then-is_due
unfolding rebound
returns-then-is_due c =
    rw (c.set_header.ensures, c.least-low.ensures, c.drop_all.ensures)
    (sym (swept_due c.args.second.0 c.args.t.now c.told-t (sym c.is_due.ensures ∙ c.if-is_due.true)))

pub returns-else-is_due : goal.returns-else-is_due
returns-else-is_due c =
    sym (swept_not c.args.second.0 c.args.t.now c.told-t (sym c.is_due.ensures ∙ c.if-is_due.false))
