-- `statistics::put::statistics_len` meets its contract: `Summed` says what is counted. Assumes nothing.
use mathlib.Core.Path.{refl}
use native.Mathlib.Omega.{arith}
use Rattle.statistics.proofs.Writing.{summed-on, summed-all}
use Rattle.statistics.proofs.put.statistics_len.Goals as goal

pub loop-n-preserved : goal.loop-n-preserved
loop-n-preserved c = summed-on _ _ _ _ c.loop-n.invariant c.loop-n-test.true (rw c.from-n-items.ensures at c.decimal_len-size.ensures.0)

pub returns : goal.returns
returns c = (summed-all _ _ _ refl c.loop-n-test.false c.loop-n.invariant, omega (arith, c.loop-n.invariant.small))
