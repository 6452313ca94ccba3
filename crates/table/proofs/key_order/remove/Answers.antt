-- `table::key_order::remove` meets its contract. Assumes nothing.
use mathlib.Core.Path.{◌≡◌, ◌∙◌}
use Prim.Native.Nat.{◌+◌, ◌-◌}
use native.Mathlib.Omega.{arith}
use Rattle.table.specs.Order.{removed_at}
use Rattle.table.proofs.Shifts.{moved}
use Rattle.table.proofs.key_order.remove.Goals as goal

pub returns : goal.returns
unfolding removed_at
returns c =
    let s = c.args in
    let t = s.t.now in
    let a = 224 + s.p in
    let n = s.n - s.p in
    let e : 224 + s.n + 1 - (a + 1) ≡ n = omega arith in
    c.copy_within.ensures.after ∙ rw e (moved t (a + 1) n a (omega arith) (omega arith))
