-- `stored::has_line` meets its contract. Assumes nothing.
use mathlib.Core.Path.{ap, ◌∙◌}
use Prim.Native.Nat.{◌-◌}
use native.Mathlib.Omega.{arith}
use Rattle.table.specs.Memory.{state_of}
use Rattle.stored.specs.File.{form1}
use Rattle.stored.specs.StoreLoad.{line_at}
use Rattle.stored.proofs.StoreLaws.{line-none, line-where}
use Rattle.stored.proofs.has_line.Goals as goal

pub returns-then-count-i : goal.returns-then-count-i
returns-then-count-i c =
    let st = state_of c.args.t.now in
    ap (line_at form1 st) (omega arith) ∙ line-none form1 st (c.args.i - 1) (omega (arith, c.count.ensures))

pub returns : goal.returns
returns c =
    let s = c.args in
    ap (line_at form1 (state_of s.t.now)) (omega arith)
    ∙ line-where form1 s.t.now (s.i - 1) (omega (arith, c.count.ensures)) c.latest.ensures c.stands.ensures
