-- `stored::store` meets its contract. Assumes nothing.
use native.Mathlib.Omega.{arith}
use Rattle.stored.specs.File.{form1}
use Rattle.stored.proofs.FileLaws.{storing-done}
use Rattle.stored.proofs.store.Goals as goal

pub returns : goal.returns
returns c =
    let s = c.args in
    let w = c.write_file.ensures in
    storing-done form1 s.t.now s.out.now _ _ (c.is_table.ensures.0 (c.if-not-is_table.false)) (omega (arith, c.file_len.ensures)) w.0 w.1
