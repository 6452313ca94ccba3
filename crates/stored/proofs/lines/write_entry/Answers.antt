-- `stored::lines::write_entry` meets its contract. Assumes nothing.
use native.Mathlib.Omega.{arith}
use Rattle.stored.specs.File.{form1}
use Rattle.table.specs.Found.{entry_at}
use Rattle.stored.proofs.StoreLaws.{held-good, entry-wrote}
use Rattle.stored.proofs.lines.write_entry.Goals as goal

pub returns : goal.returns
returns c =
    let s = c.args in
    entry-wrote (entry_at s.t.now s.i) (held-good form1 s.t.now s.i (λ j. omega (arith, c.type_inv.t j))) (omega arith)
    c.version_at.ensures c.put_version-a.ensures c.deadline_at.ensures c.put_second-b.ensures
    c.key_at.ensures c.put_limited-c.ensures c.value_at.ensures c.put_limited.ensures
