-- `table::key_order::key_of` meets its contract. Assumes nothing.
use mathlib.Core.Path.{◌≡◌}
use Prim.Native.Nat.{◌+◌, ◌-◌, ◌*◌}
use native.Mathlib.Omega.{arith}
use Rattle.table.specs.Memory.{entry, entry_of, name_of}
use Rattle.table.proofs.key_order.key_of.Goals as goal

pub returns : goal.returns
unfolding name_of entry_of entry
returns c =
    let n = c.capped.result in
    let s = 352 + 352 * c.args.r + 32 in
    let e : s + n - s ≡ n = omega arith in
    rw (e, c.capped.ensures)
