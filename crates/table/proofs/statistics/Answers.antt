-- `table::statistics` meets its contract. Assumes nothing.
use mathlib.Core.Path.{sym}
use Rattle.table.proofs.Answers.{statistics-none, statistics_are}
use Rattle.table.proofs.statistics.Goals as goal

pub returns-in_default : goal.returns-in_default
returns-in_default c = let s = c.args in
    statistics-none s.second.0 s.t.now c.in_default.ensures

pub returns : goal.returns
returns c =
    let h7 = c.before in
    let h6 = h7.before in
    let h5 = h6.before in
    let h4 = h5.before in
    let h3 = h4.before in
    let h2 = h3.before in
    let n = h2.before in
    let d = n.before in
    let h = d.before in
    let s = c.args in
    rw (c.header-8.ensures, h7.header-7.ensures, h6.header-6.ensures, h5.header-5.ensures, h4.header-4.ensures, h3.header-3.ensures, h2.header-2.ensures, n.count.ensures.0, d.since.ensures, h.header.ensures, c.in-Some.ensures.0)
    (sym (statistics_are s.second.0 s.t.now c.in-Some.ensures.1))
