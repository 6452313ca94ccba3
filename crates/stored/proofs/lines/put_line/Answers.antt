-- `stored::lines::put_line` meets its contract. Assumes nothing.
use native.Mathlib.Omega.{arith}
use Rattle.hexadecimal.specs.Hex.{line}
use Rattle.wire.proofs.WriteLaws.{laid-short}
use Rattle.hexadecimal.proofs.HexLaws.{line_length}
use Rattle.stored.proofs.StoreLaws.{line-put}
use Rattle.stored.proofs.lines.put_line.Goals as goal

pub returns-then-out-at : goal.returns-then-out-at
returns-then-out-at c = let s = c.args in
    laid-short (line s.s.now) s.at s.out.now (omega (arith, line_length s.s.now))

pub returns : goal.returns
returns c =
    let s = c.args in
    line-put s.s.now s.out.now s.at (λ i. omega (arith, c.type_inv.s i)) (omega arith) c.put_raw.ensures c.make_line.ensures
