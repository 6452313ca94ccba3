-- `stored::lines::write_head` meets its contract. Assumes nothing.
use native.Mathlib.Omega.{arith}
use Rattle.stored.proofs.StoreLaws.{head_wrote}
use Rattle.stored.proofs.lines.write_head.Goals as goal

pub returns : goal.returns
returns c =
    rw (← c.last.ensures)
    (head_wrote c.last.result.0 (omega (arith, c.last.type_inv)) (omega arith) c.put_byte-a.ensures c.put_version.ensures)
