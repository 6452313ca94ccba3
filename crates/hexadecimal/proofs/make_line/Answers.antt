-- `hexadecimal::make_line` meets its contract. Assumes nothing.
use native.Mathlib.Omega.{arith}
use Rattle.hexadecimal.proofs.InPlace.{line-short, line_made}
use Rattle.hexadecimal.proofs.make_line.Goals as goal

pub returns-then-out-at-2 : goal.returns-then-out-at-2
returns-then-out-at-2 c = line-short _ _ _ (omega arith)

pub bounds-out-end : goal.bounds-out-end
bounds-out-end c =
    let m = line_made c.args.out.now c.args.at c.args.n (omega arith) c.spread-end.ensures in
    omega (arith, m.0, m.1)

pub returns : goal.returns
returns c = (line_made c.args.out.now c.args.at c.args.n (omega arith) c.spread-end.ensures).2
