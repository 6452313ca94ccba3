-- `statistics::read_statistics` meets its contract. The loop's invariant: the statistics before i are told. Assumes nothing.
use Rattle.std.proofs.Common.{rules}
use mathlib.Core.Path.{refl, sym, ◌∙◌}
use native.Mathlib.Omega.{arith}
use borrow.Author.Tests.{ne_eqb}
use Rattle.statistics.proofs.Reading.{statistics-by, told_none, told-by, told_more, told-all}
use Rattle.statistics.proofs.read_statistics.Goals as goal

pub returns-in_err-n : goal.returns-in_err-n
returns-in_err-n c = search (rules, statistics-by)

pub returns-in_default : goal.returns-in_default
returns-in_default c = search (rules, statistics-by)

pub returns-then-n-ne9 : goal.returns-then-n-ne9
returns-then-n-ne9 c = sym (statistics-by _ _ _ (rw c.in-Some.is at c.in_ok-n.ensures) ∙ rw (ne_eqb _ 9 c.if-n-ne9.true))

pub loop-i-init : goal.loop-i-init
loop-i-init c = told_none _ _ _ refl _ _ c.if-n-ne9.false (rw c.in-Some.is at c.in_ok-n.ensures)

pub returns-in_err-v : goal.returns-in_err-v
returns-in_err-v c = search (rules, told-by _ _ _ _ _ c.loop-i.invariant c.loop-i-test.true _ c.title_at.ensures _ c.in_err-v.ensures)

pub returns-in_default-2 : goal.returns-in_default-2
returns-in_default-2 c =
    sym (told-by _ _ _ _ _ c.loop-i.invariant c.loop-i-test.true _ c.title_at.ensures _ (rw c.in_default-2.is at c.in_ok-v.ensures))

pub loop-i-preserved : goal.loop-i-preserved
loop-i-preserved c =
    told_more _ _ _ _ _ c.loop-i.invariant c.loop-i-test.true _ c.title_at.ensures _ _ (rw c.in-Some-2.is at c.in_ok-v.ensures)

pub returns : goal.returns
returns c = rw c.from.ensures (sym (told-all _ _ c.loop-i.i _ _ (omega arith) c.loop-i.invariant))
