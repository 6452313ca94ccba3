-- `table::rows::copy_at` meets its contract. Assumes nothing.
use lib.ListN.{length}
use Rattle.wire.specs.Codec.{raw}
use Rattle.wire.proofs.WriteLaws.{wrote_part}
use Rattle.table.proofs.rows.copy_at.Goals as goal

pub returns : goal.returns
unfolding raw
returns c =
    let s = c.args in
    (wrote_part (length s.src.now) s.a s.src.now s.t.now _ c.requires c.copy_from_slice.ensures.after).list
