-- `listing::next_entry` meets its contract: the more byte decides. Assumes nothing.
use Rattle.std.proofs.Common.{rules}
use mathlib.Core.Path.{sym}
use native.Mathlib.Omega.{arith}
use Rattle.listing.proofs.Reading.{item-by, item-end, item-bad, entry-by}
use Rattle.listing.proofs.next_entry.Goals as goal

pub returns-in_default : goal.returns-in_default
returns-in_default c = sym (item-by _ _ _ _ c.in_default.ensures)

pub returns-then-b-eq0 : goal.returns-then-b-eq0
returns-then-b-eq0 c = item-end _ _ _ _ (rw c.if-b-eq0.true at c.in-Some.ensures)

pub returns-then-b-ne1 : goal.returns-then-b-ne1
returns-then-b-ne1 c = item-bad _ _ _ _ _ (omega (arith, c.if-b-ne1.true)) c.in-Some.ensures

pub returns-in_err-entry : goal.returns-in_err-entry
returns-in_err-entry c =
    search (rules, entry-by _ _ _ (λ i. omega (arith, c.type_inv.s i)) _ (rw c.if-b-ne1.false at c.in-Some.ensures) _ c.in_err-entry.ensures)

pub returns-in_default-2 : goal.returns-in_default-2
returns-in_default-2 c =
    sym (entry-by _ _ _ (λ i. omega (arith, c.type_inv.s i)) _ (rw c.if-b-ne1.false at c.in-Some.ensures) _ (rw c.in_default-2.is at c.in_ok-entry.ensures))

pub returns : goal.returns
returns c =
    sym (entry-by _ _ _ (λ i. omega (arith, c.type_inv.s i)) _ (rw c.if-b-ne1.false at c.in-Some.ensures) _ (rw c.in-Some-2.is at c.in_ok-entry.ensures))
