-- `table::rows::insert_place` meets its contract. Assumes nothing.
use native.Mathlib.Omega.{arith}
use Rattle.table.specs.Memory.{place_of}
use Rattle.table.proofs.Bisect.{insertion_is}
use Rattle.table.proofs.rows.insert_place.Goals as goal

pub insert-requires : goal.insert-requires
insert-requires c =
    let n = c.count-held.ensures.0 in
    (omega (arith, n, (insertion_is c.place_for-p.ensures).within), omega (arith, n))

pub returns : goal.returns
unfolding place_of
returns c =
    let p = c in
    rw (c.insert.ensures, p.place_for-p.ensures, p.count-held.ensures.0)
