-- `table::rows::turn` meets its contract. Assumes nothing.
use native.Mathlib.Omega.{arith}
use Prim.Native.Nat.{◌+◌, ◌-◌}
use Rattle.table.specs.Memory.{place_of}
use Rattle.table.specs.Write.{turned}
use Rattle.table.proofs.Shifts.{rotated}
use Rattle.table.proofs.rows.turn.Goals as goal

pub returns : goal.returns
unfolding turned place_of
returns c = let s = c.args in
    rotated s.t.now _ (96 + s.i) (96 + s.j + 1 - (96 + s.i)) (s.j - s.i) (omega arith) (omega arith) c.rotate_left.ensures.after
