-- `listing::put::put_entry` meets its contract: the byte 1, the key, and the value where there is one. Assumes nothing.
use Rattle.listing.proofs.Writing.{wrote-key, wrote-pair}
use Rattle.listing.proofs.put.put_entry.Goals as goal

pub returns-then-not-values : goal.returns-then-not-values
returns-then-not-values c = let k = c.before.before.before in
    let b = k.before.before.before.before in
    let a = b in
    let f = c.if-not-values.true in
    rw f (wrote-key _ _ _ _ b.put_byte-first.ensures k.put_limited-next.ensures (rw f at a.requires.valid) (rw f at a.requires.room))

pub returns : goal.returns
returns c = let v = c.before.before in
    let e = v.before.before in
    let k = e.before.before.before in
    let b = k.before.before.before.before in
    let a = b in
    let f = e.if-not-values.false in
    rw f (wrote-pair _ _ _ _ b.put_byte-first.ensures k.put_limited-next.ensures v.put_limited.ensures (rw f at a.requires.valid) (rw f at a.requires.room))
