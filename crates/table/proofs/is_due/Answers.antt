-- `table::is_due` meets its contract. Assumes nothing.
use lib.ListN.{length}
use borrow.Author.Tests.{eq-eqb, ne_eqb}
use Rattle.table.specs.Memory.{size}
use Rattle.table.specs.Sweep.{is_due}
use Rattle.table.proofs.is_due.Goals as goal

pub returns-in_default : goal.returns-in_default
unfolding is_due
returns-in_default c = rw (ne_eqb (length c.args.t.now) size c.in_default.ensures)

pub returns : goal.returns
unfolding is_due
returns c =
    rw (eq-eqb (length c.args.t.now) size c.in-Some.ensures.1, c.header.ensures, c.in-Some.ensures.0)
