-- `table::key_order::marks` meets its contract. The loop's invariant: the bytes marked are those passed. Assumes nothing.
use mathlib.Core.Path.{refl}
use native.Mathlib.Omega.{arith}
use Rattle.table.proofs.CheckLaws.{marked-none}
use Rattle.table.proofs.key_order.marks.Goals as goal

pub loop-i-init : goal.loop-i-init
loop-i-init c = (omega arith, refl, marked-none c.args.t.now c.args.start)
