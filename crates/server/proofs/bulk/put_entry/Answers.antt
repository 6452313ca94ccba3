-- `server::bulk::put_entry` meets its contract: the byte 1, the key, and the value where there is one. Assumes nothing.
use mathlib.Core.List.{[]}
use Rattle.listing.proofs.Writing.{wrote-key, wrote-pair}
use Rattle.table.specs.Found.{entry_at}
use Rattle.server.proofs.bulk.put_entry.Goals as goal

pub returns-then-not-values : goal.returns-then-not-values
returns-then-not-values c v h =
    let a = c.args in
    let f = c.if-not-values.true in
    rw f
    (wrote-key (entry_at a.t.now a.i).key [] _ _ c.put_byte-first.ensures (rw c.key_at.ensures at c.put_limited-next.ensures) (rw f at v) (rw f at h))

pub returns : goal.returns
returns c v h =
    let a = c.args in
    let f = c.if-not-values.false in
    rw f
    (wrote-pair (entry_at a.t.now a.i).key (entry_at a.t.now a.i).value _ _ c.put_byte-first.ensures (rw c.key_at.ensures at c.put_limited-next.ensures)
    (rw c.value_at.ensures at c.put_limited.ensures) (rw f at v) (rw f at h))
