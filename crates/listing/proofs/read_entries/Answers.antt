-- `listing::read_entries` meets its contract. The loop's invariant: n entries are read, up to `here`. Assumes nothing.
use Rattle.std.proofs.Common.{rules}
use mathlib.Core.Path.{sym, ◌∙◌}
use native.Mathlib.Omega.{arith}
use Rattle.listing.proofs.Reading.{passed_none, next-by, passed-end, passed-more, passed-all}
use Rattle.listing.proofs.read_entries.Goals as goal

pub loop-n-init : goal.loop-n-init
loop-n-init c = passed_none _ _ _

pub returns-in_err-entry : goal.returns-in_err-entry
returns-in_err-entry c = search (rules, next-by _ _ _ _ _ c.loop-n.invariant c.loop-n-test.true _ c.in_err-entry.ensures)

pub returns-in_default : goal.returns-in_default
returns-in_default c = sym (next-by _ _ _ _ _ c.loop-n.invariant c.loop-n-test.true _ (rw c.in_default.is at c.in_ok-entry.ensures))

pub returns-then-is_none : goal.returns-then-is_none
returns-then-is_none c =
    passed-end _ _ _ _ _ c.loop-n.invariant c.loop-n-test.true _ _ (rw c.if-is_none.true at c.is_none.ensures) (rw c.in-Some.is at c.in_ok-entry.ensures)

pub loop-n-preserved : goal.loop-n-preserved
loop-n-preserved c =
    passed-more _ _ _ _ _ c.loop-n.invariant c.loop-n-test.true _ _ (rw c.if-is_none.false at c.is_none.ensures) (rw c.in-Some.is at c.in_ok-entry.ensures)

pub returns : goal.returns
returns c = c.read_end.ensures ∙ passed-all _ _ _ _ _ (omega (arith, c.loop-n.invariant.few)) c.loop-n.invariant
