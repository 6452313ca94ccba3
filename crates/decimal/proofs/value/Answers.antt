-- `decimal::value` meets its contract: between two digits the loop knows what `Sum` says. Assumes nothing.
use native.Mathlib.Omega.{arith}
use Rattle.decimal.proofs.DecimalRead.{sum-begin, sum-on, sum_fits, sum-end, digit_at}
use Rattle.decimal.proofs.value.Goals as goal

pub loop-b-init : goal.loop-b-init
loop-b-init c = sum-begin _

pub overflow_mul-v : goal.overflow_mul-v
overflow_mul-v c = omega (arith, sum_fits _ _ _ c.loop-b.invariant c.requires.s_value c.loop-b-test.true c.requires.s_len_bound)

pub overflow_sub-b : goal.overflow_sub-b
overflow_sub-b c = (digit_at _ _ c.requires.s_value c.loop-b-test.true).0

pub overflow_add-v : goal.overflow_add-v
overflow_add-v c = omega (arith, c.from.ensures, sum_fits _ _ _ c.loop-b.invariant c.requires.s_value c.loop-b-test.true c.requires.s_len_bound)

pub loop-b-preserved : goal.loop-b-preserved
loop-b-preserved c = rw c.from.ensures (sum-on _ _ _ c.loop-b.invariant c.requires.s_value c.loop-b-test.true)

pub returns : goal.returns
returns c = sum-end _ _ _ c.loop-b.invariant c.loop-b-test.false
