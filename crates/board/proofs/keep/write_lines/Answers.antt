-- `board::keep::write_lines` is safe and ends: each call names a later line, and there is a last one. Assumes nothing.
use native.Mathlib.Omega.{arith}
use Rattle.board.proofs.FileLaws.{storing}
use Rattle.board.proofs.keep.write_lines.Goals as goal

pub is_stored-requires : goal.is_stored-requires
is_stored-requires c =
    storing c.store_next-r.new.out c.loop-n.line c.store_next-r.result (record { room = omega (arith, c.loop-n.invariant); sound = c.requires }) c.store_next-r.ensures

pub loop-n-smaller : goal.loop-n-smaller
loop-n-smaller c =
    let x = rw c.in-Write.is at c.store_next-r.ensures in
    omega (arith, x.order, x.most)
