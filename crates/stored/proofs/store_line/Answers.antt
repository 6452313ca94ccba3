-- `stored::store_line` meets its contract: the bytes of the line stand at the front of the room. Assumes nothing.
use native.Mathlib.Omega.{arith}
use Rattle.stored.proofs.StoreLaws.{line_head, head-front, entry-front}
use Rattle.stored.proofs.store_line.Goals as goal

pub slice_bounds-put_line-end : goal.slice_bounds-put_line-end
slice_bounds-put_line-end c = omega (arith, (head-front c.args.t.now (λ i. omega (arith, c.type_inv.t i)) (omega arith) c.write_head-n.ensures).1)

pub slice_bounds-put_line-end-2 : goal.slice_bounds-put_line-end-2
slice_bounds-put_line-end-2 c = omega (arith, (entry-front c.args.t.now _ (λ i. omega (arith, c.type_inv.t i)) (omega arith) c.write_entry-n.ensures).1)

pub returns-then-i-eq0 : goal.returns-then-i-eq0
returns-then-i-eq0 c =
    let t = c.args.t.now in
    let f = head-front t (λ i. omega (arith, c.type_inv.t i)) (omega arith) c.write_head-n.ensures in
    rw (c.if-i-eq0.true, line_head, ← f.0) c.put_line.ensures

pub returns : goal.returns
returns c =
    let f = entry-front c.args.t.now _ (λ i. omega (arith, c.type_inv.t i)) (omega arith) c.write_entry-n.ensures in
    rw (c.has_line.ensures, c.if-not-has_line.false, ← f.0) c.put_line-2.ensures
