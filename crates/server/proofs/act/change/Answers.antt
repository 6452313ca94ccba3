-- `server::act::change` meets its contract: each change of the map. Assumes nothing.
use mathlib.Core.Path.{ap, ◌∙◌}
use Prim.Native.Nat.{ℕ}
use native.Mathlib.Omega.{arith}
use Rattle.message.specs.Request.{request_in}
use Rattle.message.proofs.Sizes.{request-small}
use Rattle.map.specs.Plan.{store}
use Rattle.map.specs.Deadline.{deadline}
use Rattle.map.specs.Step as map
use Rattle.table.specs.Memory.{state_of}
use Rattle.table.proofs.Changes.{cleared-changed}
use Rattle.plan.specs.Plan.{as_change}
use Rattle.server.specs.Act.{Agreed}
use Rattle.server.proofs.StepLaws.{storable, replaced-is, version-left}
use Rattle.server.proofs.act.change.Goals as goal

pub deadline-until-requires : goal.deadline-until-requires
deadline-until-requires c =
    omega (arith, c.latest.ensures, c.requires.sound.table.seconds.latest, (request-small (request_in c.args.input.now c.args.r) c.requires.valid).args.lifespan)

pub store-requires : goal.store-requires
store-requires c =
    let q = request_in c.args.input.now c.args.r in
    -- the store that was agreed on
    let g : Agreed c.args.t.now q c.args.held store = rw (ap as_change c.in-Store.is) at c.requires in
    rw (c.key_in.ensures, c.value_in.ensures) (storable q _ g.sound g.valid g.left g.holds (version-left _ _ g.free))

pub returns-in-Store : goal.returns-in-Store
returns-in-Store c =
    let q = request_in c.args.input.now c.args.r in
    let e = c.deadline-until.ensures q.name q.args.key q.args.value ∙ ap (λ (n : ℕ). deadline n q) c.latest.ensures in
    rw c.in-Store.is (rw (c.key_in.ensures, c.value_in.ensures, replaced-is q (state_of c.args.t.now) e) at c.store.ensures)

pub returns-in-Drop : goal.returns-in-Drop
unfolding map.dropped
returns-in-Drop c =
    rw c.in-Drop.is (c.drop_row.ensures (request_in c.args.input.now c.args.r).args.key c.requires.sound c.requires.holds)

pub returns-in-Empty : goal.returns-in-Empty
unfolding map.emptied
returns-in-Empty c = rw c.in-Empty.is (cleared-changed c.requires.sound c.clear.ensures.1)
