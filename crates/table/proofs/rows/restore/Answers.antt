-- `table::rows::restore` meets its contract. Assumes nothing.
use mathlib.Core.Path.{ap, ◌∙◌}
use native.Mathlib.Omega.{arith}
use Rattle.table.specs.Memory.{count_of}
use Rattle.table.specs.Write.{with_row, with_entry}
use Rattle.table.proofs.Grows.{inserted-count}
use Rattle.table.proofs.rows.restore.Goals as goal

pub write_row-requires : goal.write_row-requires
write_row-requires c = let e = c.insert_place.ensures in
    let w = inserted-count c.args.t.now c.args.k.now c.told-t c.requires.room in record { room = omega (arith, ap count_of e, w.1, c.requires.room); k_len_bound = c.requires.k_len_bound }

pub returns : goal.returns
unfolding with_entry
returns c = c.write_row.ensures ∙ ap (with_row c.args.k.now c.args.v.now c.args.version.0 c.args.deadline.0) c.insert_place.ensures
