-- `statistics::put::put_named` meets its contract: the name, and then the value. Assumes nothing.
use Rattle.statistics.proofs.Writing.{wrote-named}
use Rattle.statistics.proofs.put.put_named.Goals as goal

pub returns : goal.returns
returns c = let d = c.before.before in
    let l = d.before.before.before.before in
    let a = l in
    wrote-named _ _ _ _ a.requires.valid a.requires.room l.put_limited-next.ensures d.put_decimal.ensures
