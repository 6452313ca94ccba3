-- `table::key_order::insert` meets its contract. Assumes nothing.
use mathlib.Core.Path.{◌≡◌, ap, ◌∙◌}
use mathlib.Core.List.{List}
use Prim.Native.Nat.{ℕ, ◌+◌, ◌-◌}
use native.Mathlib.Omega.{arith}
use lib.ListN.{set}
use Rattle.wire.specs.Write.{part}
use Rattle.table.specs.Order.{inserted}
use Rattle.table.proofs.Shifts.{set_front}
use Rattle.table.proofs.Shifts.{moved}
use Rattle.table.proofs.key_order.insert.Goals as goal

pub returns : goal.returns
unfolding inserted
returns c =
    let s = c.args in
    let t = s.t.now in
    let a = 224 + s.p in
    let n = s.n - s.p in
    let e : 224 + s.n - a ≡ n = omega arith in
    ap (λ (u : List ℕ). set u a s.row) (c.copy_within.ensures.after ∙ rw e (moved t a n (a + 1) (omega arith) (omega arith))) ∙ set_front t a s.row (part t a n)
