-- `decimal::decimal_len` meets its contract: `Counted` says what is counted, and what is left. Assumes nothing.
use mathlib.Core.Path.{◌≡◌, sym, ◌∙◌}
use native.Mathlib.Omega.{arith}
use Rattle.wire.proofs.Digits.{count-on, count-end, count-full}
use Rattle.decimal.proofs.DecimalWrite.{decimal_digits, counted}
use Rattle.decimal.proofs.decimal_len.Goals as goal

pub returns-then-x-lt10 : goal.returns-then-x-lt10
returns-then-x-lt10 c = counted _ _ (count-end decimal_digits 18 _ _ _ c.loop-n.invariant c.if-x-lt10.true)

pub loop-n-preserved : goal.loop-n-preserved
loop-n-preserved c = count-on decimal_digits 18 _ _ _ c.loop-n.invariant c.if-x-lt10.false (omega arith)

pub returns : goal.returns
returns c =
    let e : c.loop-n.n ≡ 19 = omega arith in
    counted _ 19 (sym e ∙ count-full decimal_digits 18 _ _ _ c.loop-n.invariant e)
