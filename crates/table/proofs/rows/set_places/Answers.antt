-- `table::rows::set_places` meets its contract. The loop's invariant: the first i places are in order. Assumes nothing.
use mathlib.Core.Path.{◌≡◌, refl, ◌∙◌}
use native.Mathlib.Omega.{arith}
use lib.ListN.{length-set}
use Rattle.map.specs.Step.{most_keys}
use Rattle.table.specs.Bytes.{upto}
use Rattle.table.specs.Write.{identity_places}
use Rattle.table.proofs.Places.{order-more}
use Rattle.table.proofs.rows.set_places.Goals as goal

pub loop-i-init : goal.loop-i-init
unfolding upto
loop-i-init c = (omega arith, refl, refl)

pub loop-i-preserved : goal.loop-i-preserved
loop-i-preserved c =
    let b = c in
    (omega arith, simp length-set (omega arith), rw b.loop-i.invariant.2 (order-more b.args.t.now b.loop-i.i (omega arith)))

pub returns : goal.returns
unfolding identity_places
returns c =
    let b = c in
    let e : b.loop-i.i ≡ most_keys = omega arith in
    b.loop-i.invariant.2 ∙ rw e
