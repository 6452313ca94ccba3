-- `listing::read_pair` meets its contract: the key decides, and then the value. Assumes nothing.
use Rattle.std.proofs.Common.{rules}
use mathlib.Core.Path.{sym}
use native.Mathlib.Omega.{arith}
use Rattle.listing.proofs.Reading.{key-by, pair-key, value-by}
use Rattle.listing.proofs.read_pair.Goals as goal

pub returns-in_err-key : goal.returns-in_err-key
returns-in_err-key c = search (rules, key-by c.args.values _ _ _ c.in_err-key.ensures)

pub returns-in_default : goal.returns-in_default
returns-in_default c = sym (key-by _ _ _ _ (rw c.in_default.is at c.in_ok-key.ensures))

pub returns-then-not-values : goal.returns-then-not-values
returns-then-not-values c =
    rw c.if-not-values.true (pair-key _ _ (λ i. omega (arith, c.type_inv.s i)) _ _ (rw c.in-Some.is at c.in_ok-key.ensures))

pub returns-in_err-value : goal.returns-in_err-value
returns-in_err-value c =
    rw c.if-not-values.false
    search (rules, value-by _ _ (λ i. omega (arith, c.type_inv.s i)) _ _ (rw c.in-Some.is at c.in_ok-key.ensures) _ c.in_err-value.ensures)

pub returns-in_default-2 : goal.returns-in_default-2
returns-in_default-2 c =
    rw c.if-not-values.false
    (sym (value-by _ _ (λ i. omega (arith, c.type_inv.s i)) _ _ (rw c.in-Some.is at c.in_ok-key.ensures) _ (rw c.in_default-2.is at c.in_ok-value.ensures)))

pub returns : goal.returns
returns c =
    rw c.if-not-values.false
    (sym (value-by _ _ (λ i. omega (arith, c.type_inv.s i)) _ _ (rw c.in-Some.is at c.in_ok-key.ensures) _ (rw c.in-Some-2.is at c.in_ok-value.ensures)))
