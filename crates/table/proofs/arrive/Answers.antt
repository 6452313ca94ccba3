-- `table::arrive` meets its contract. Assumes nothing.
use native.Mathlib.Omega.{arith}
use Rattle.table.proofs.Answers.{arrived_yes, arrived-sized, arrived-late, latest-is}
use Rattle.table.proofs.arrive.Goals as goal

pub returns-in_default : goal.returns-in_default
returns-in_default c = let s = c.args in
    arrived-sized s.op s.absent s.second.0 s.t.now c.in_default.ensures.cases

pub returns-then-second-gt-LAST_SECOND : goal.returns-then-second-gt-LAST_SECOND
returns-then-second-gt-LAST_SECOND c = let s = c.args in
    arrived-late s.op s.absent s.second.0 s.t.now (omega arith)

pub returns : goal.returns
returns c =
    let s = c.args in
    let h = c.in-Some.ensures.cases.1 in
    arrived_yes s.op s.absent s.second.0 s.t.now _ h (omega arith) (rw (c.set_header.ensures, c.tally.ensures, c.begin.ensures, c.sweep.ensures, c.present-present.ensures, latest-is s.t.now h, c.in-Some.ensures.cases.0))
