-- `field::read_limited` meets its contract: `limited-by` says what its reading goes by, and each way out has those answers. Assumes nothing.
use Rattle.std.proofs.Common.{rules}
use mathlib.Core.Path.{sym, ◌∙◌}
use native.Mathlib.Nat.{add-zero}
use Prim.Native.Nat.{zero-le}
use borrow.Author.Tests.{le-leb, lt-leb}
use Rattle.wire.specs.Number.{v_int}
use Rattle.wire.proofs.NumberRead.{v_int-within}
use Rattle.field.proofs.Parts.{limited-by, span_none, span-at}
use Rattle.field.proofs.read_limited.Goals as goal

pub returns-in_err-n : goal.returns-in_err-n
returns-in_err-n c = search (rules, limited-by)

pub returns-in_default : goal.returns-in_default
returns-in_default c = search (rules, limited-by)

pub returns-then-lim-n : goal.returns-then-lim-n
returns-then-lim-n c = sym (limited-by _ _ _ _ (rw c.in-Some.is at c.in_ok-n.ensures) ∙ rw (lt-leb _ _ c.if-lim-n.true))

pub returns-then-len-eq0 : goal.returns-then-len-eq0
returns-then-len-eq0 c =
    sym (limited-by _ _ _ _ (rw c.in-Some.is at c.in_ok-n.ensures) ∙ rw (le-leb _ _ c.if-lim-n.false, c.if-len-eq0.true, le-leb 0 _ zero-le, add-zero, ← span_none))

pub overflow_sub-s : goal.overflow_sub-s
unfolding v_int
overflow_sub-s c = v_int-within _ _ _ _ (sym (rw c.in-Some.is at c.in_ok-n.ensures))

pub returns-then-s-at : goal.returns-then-s-at
returns-then-s-at c =
    sym (limited-by _ _ _ _ (rw c.in-Some.is at c.in_ok-n.ensures) ∙ rw (le-leb _ _ c.if-lim-n.false, lt-leb _ _ c.if-s-at.true))

pub returns : goal.returns
returns c =
    sym (limited-by _ _ _ _ (rw c.in-Some.is at c.in_ok-n.ensures) ∙ rw (le-leb _ _ c.if-lim-n.false, le-leb _ _ c.if-s-at.false, ← (span-at _ _ _ c.if-s-at.false c.if-len-eq0.false)))
