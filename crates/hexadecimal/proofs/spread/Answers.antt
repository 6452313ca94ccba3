-- `hexadecimal::spread` meets its contract: from the last byte to the first, the loop knows what `Spread` says. Assumes nothing.
use native.Mathlib.Omega.{arith}
use Rattle.hexadecimal.proofs.InPlace.{spread_short, spread_begin, spread_on, spread_end}
use Rattle.hexadecimal.proofs.spread.Goals as goal

pub returns-then-out-at-2 : goal.returns-then-out-at-2
returns-then-out-at-2 c = spread_short _ _ _ (omega arith)

pub loop-i-init : goal.loop-i-init
loop-i-init c = spread_begin _ _ _ (omega arith)

pub loop-i-preserved : goal.loop-i-preserved
loop-i-preserved c =
    let e = c.before.before in
    let v = e.before.before in
    let l = v in
    rw e.encode_part.ensures (spread_on _ _ _ (omega arith) _ _ _ (omega arith) l.loop-i.invariant)

pub returns : goal.returns
returns c = spread_end _ _ _ (omega arith) _ _ (omega arith) c.loop-i.invariant
