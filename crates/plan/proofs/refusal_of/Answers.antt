-- `plan::refusal_of` meets its contract. Assumes nothing.
use mathlib.Core.Path.{sym, ◌∙◌}
use Rattle.std.proofs.Common.{rules}
use borrow.Author.Tests.{lt-ltb, le-ltb}
use Rattle.map.specs.Step.{last_version}
use Rattle.table.specs.Memory.{state_of}
use Rattle.plan.specs.Plan.{refusal_of}
use Rattle.plan.proofs.PlanLaws.{not_refused}
use borrow.Enum.Refused.{opened}
use Rattle.plan.proofs.refusal_of.Goals as goal

pub returns-in_default : goal.returns-in_default
returns-in_default c = not_refused _ _ c.args.change (opened c.in_default.in_default-own.keys2)

pub returns-then-is_full : goal.returns-then-is_full
unfolding refusal_of
returns-then-is_full c = let f = c in rw (f.in-Store.is, sym f.is_full.ensures ∙ c.if-is_full.true)

pub returns-then-le : goal.returns-then-le
unfolding refusal_of
returns-then-le c =
    let l = c in
    let e = l in
    let f = e.before in
    rw (f.in-Store.is, sym f.is_full.ensures ∙ e.if-is_full.false, le-ltb ((state_of c.args.t.now).last) last_version (search (rules, l.last.ensures)))

pub returns : goal.returns
unfolding refusal_of
returns c =
    let l = c in
    let e = l in
    let f = e.before in
    rw (f.in-Store.is, sym f.is_full.ensures ∙ e.if-is_full.false, lt-ltb ((state_of c.args.t.now).last) last_version (search (rules, l.last.ensures)))
