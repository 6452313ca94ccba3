-- `server::act::arrive` meets its contract: below the bound none went. Assumes nothing.
-- where the code is when the call is noted
use mathlib.Core.Path.{sym, ap, ◌∙◌}
use Prim.Native.Nat.{ℕ}
use Rattle.message.specs.Request.{request_of}
use Rattle.table.specs.Sweep.{is_due}
use Rattle.server.specs.CallDone.{as_context}
use Rattle.server.proofs.StepLaws.{held_on, held-left}
use Rattle.server.proofs.act.arrive.Goals as goal

pub returns-then-due : goal.returns-then-due
returns-then-due c name k value f s h =
    let e = c.note_call.ensures name k value s h in
    let m = rw f at c.moved.ensures in
    record { table = e; holds = m (held-left (as_context c.args.context) (request_of c.args.h name k value) _ e c.args.held s h) }

pub returns : goal.returns
returns c name k value f s h =
    let e = c.note_call.ensures name k value s h in
    let d = c.is_due-due.ensures ∙ ap (λ (n : ℕ). is_due n c.args.t.now) c.present.ensures in
    record { table = e; holds = held_on (as_context c.args.context) (request_of c.args.h name k value) _ e c.args.held s (sym d ∙ c.if-due.false) h }
