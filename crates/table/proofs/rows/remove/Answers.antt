-- `table::rows::remove` meets its contract. Assumes nothing.
use mathlib.Core.Path.{ap, ◌∙◌}
use native.Mathlib.Omega.{arith}
use Rattle.table.specs.Memory.{place_of, count_of}
use Rattle.table.specs.Order.{place_of_row}
use Rattle.table.specs.Write.{less_row, less}
use Rattle.table.proofs.Grows.{removed_at-count}
use Rattle.table.proofs.rows.remove.Goals as goal

pub remove_row-requires : goal.remove_row-requires
remove_row-requires c =
    let e = c.remove_place.ensures in
    let w = removed_at-count (place_of_row c.args.t.now (place_of c.args.t.now c.args.i) (count_of c.args.t.now)) c.args.t.now c.told-t in
    omega (arith, ap count_of e, w.1, c.requires)

pub returns : goal.returns
unfolding less
returns c = c.remove_row.ensures ∙ ap (less_row c.args.i) c.remove_place.ensures
