-- `table::start` meets its contract. Assumes nothing.
use Rattle.std.proofs.Common.{rules}
use Rattle.table.proofs.Restores.{started_yes, started-sized, started_large}
use Rattle.table.proofs.start.Goals as goal

pub returns-in_default : goal.returns-in_default
returns-in_default c = let s = c.args in
    started-sized s.last.0 s.t.now c.in_default.ensures.cases

pub returns-then-gt : goal.returns-then-gt
returns-then-gt c = let s = c.args in
    started_large s.last.0 s.t.now (search rules)

pub returns : goal.returns
returns c = let s = c.args in
    started_yes s.last.0 s.t.now _ c.in-Some.ensures.cases.1 (search rules) (rw (c.set_header-2.ensures, c.set_header.ensures, c.set_places.ensures, c.set_none.ensures, c.in-Some.ensures.cases.0))
