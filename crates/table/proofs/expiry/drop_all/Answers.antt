-- `table::expiry::drop_all` meets its contract. Assumes nothing.
use mathlib.Core.Path.{ap, ap₂, ◌∙◌}
use mathlib.Core.List.{List}
use Prim.Native.Nat.{ℕ}
use Rattle.table.specs.Memory.{count_of}
use Rattle.table.specs.Sweep.{less_all}
use Rattle.table.proofs.SweptOrder.{standing-count}
use Rattle.table.proofs.expiry.drop_all.Goals as goal

pub returns : goal.returns
returns c =
    let now = c.args.second.0 in
    let e = c.keep_standing.ensures in
    c.drop_rows.ensures
    ∙ ap₂ (λ (n : ℕ) (u : List ℕ). less_all now n u) (ap count_of e ∙ standing-count now c.args.t.now c.told-t) e
