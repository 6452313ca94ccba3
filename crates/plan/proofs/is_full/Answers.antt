-- `plan::is_full` meets its contract. Assumes nothing.
use mathlib.Core.Path.{sym, ◌∙◌}
use native.Mathlib.Omega.{arith}
use borrow.Author.Tests.{lt-leb, le-leb}
use lib.ListN.{length}
use Rattle.map.specs.Step.{most_keys}
use Rattle.table.specs.Memory.{state_of}
use Rattle.plan.specs.Plan.{is_full, judged_by}
use Rattle.plan.proofs.PlanLaws.{judged-fewer, held-some}
use Rattle.plan.proofs.is_full.Goals as goal

pub returns-then-is_some : goal.returns-then-is_some
unfolding is_full
returns-then-is_some c = rw (held-some c.args.held c.is_some.result c.is_some.ensures, c.if-is_some.true)

pub returns-then-count-lt-KEYS : goal.returns-then-count-lt-KEYS
unfolding is_full
returns-then-count-lt-KEYS c =
    let s = c.args in
    let f = judged-fewer s.second.0 s.t.now in
    rw (held-some s.held c.is_some.result c.is_some.ensures, c.if-is_some.false) (sym (lt-leb most_keys (length (judged_by s.second.0 s.t.now)) (omega (arith, c.count.ensures))))

pub returns-then-not-is_due : goal.returns-then-not-is_due
unfolding is_full judged_by
returns-then-not-is_due c =
    let s = c.args in
    rw (held-some s.held c.is_some.result c.is_some.ensures, c.if-is_some.false, sym c.is_due.ensures ∙ c.if-not-is_due.true)
    (sym (le-leb most_keys (length (state_of s.t.now).entries) (omega (arith, c.count.ensures))))

pub returns : goal.returns
unfolding is_full judged_by
returns c = rw (held-some c.args.held c.is_some.result c.is_some.ensures, c.if-is_some.false, sym c.is_due.ensures ∙ c.if-not-is_due.false, c.standing.ensures)
