-- `stored::write_file` meets its contract. Assumes nothing.
use mathlib.Core.Path.{ap, ◌∙◌}
use Prim.Native.Nat.{◌+◌}
use native.Mathlib.Omega.{arith}
use lib.ListN.{length}
use lib.Seq.{sets}
use Rattle.stored.specs.File.{form1}
use Rattle.stored.proofs.FileLaws.{front-all, lines-begin, lines-on}
use Rattle.stored.proofs.write_file.Goals as goal

pub loop-i-init : goal.loop-i-init
loop-i-init c = lines-begin form1 _ _

pub loop-i-preserved : goal.loop-i-preserved
loop-i-preserved c = lines-on form1 c.args.t.now c.loop-i.i _ _ _ _ _ c.requires (omega arith) c.loop-i.invariant c.store_line-at.ensures

pub returns-2 : goal.returns-2
returns-2 c =
    let s = c.args in
    let l = lines-on form1 s.t.now c.loop-i.i _ _ _ _ _ c.requires (omega arith) c.loop-i.invariant c.store_line-at.ensures in
    let f = front-all form1 s.t.now (c.loop-i.i + 1) (omega arith) in
    (omega (arith, l.place, ap length f), l.list ∙ ap (sets s.out.now 0) f)
