-- `field::put::number_len` meets its contract: `Counted` says what is counted, and what is left. Assumes nothing.
use mathlib.Core.Path.{◌≡◌, sym, ◌∙◌}
use native.Mathlib.Omega.{arith}
use Rattle.wire.specs.Number.{number, v_long}
use Rattle.wire.proofs.Digits.{count-begin, count-on, count-end, count-full}
use Rattle.wire.proofs.NumberWrite.{number_digits}
use Rattle.field.proofs.put.number_len.Goals as goal

pub loop-n-init : goal.loop-n-init
loop-n-init c = count-begin 8 _

pub returns-then-x-lt128 : goal.returns-then-x-lt128
unfolding v_long number
returns-then-x-lt128 c = (count-end number_digits 8 _ _ _ c.loop-n.invariant c.if-x-lt128.true, c.loop-n.invariant.few)

pub loop-n-preserved : goal.loop-n-preserved
loop-n-preserved c = count-on number_digits 8 _ _ _ c.loop-n.invariant c.if-x-lt128.false (omega arith)

pub returns : goal.returns
unfolding v_long number
returns c = let e : c.loop-n.n ≡ 9 = omega arith in (sym e ∙ count-full number_digits 8 _ _ _ c.loop-n.invariant e, omega arith)
