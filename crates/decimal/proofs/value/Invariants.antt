-- `decimal::value` meets its contract: between two digits the loop knows what `Sum` says. Assumes nothing.
use Rattle.decimal.proofs.DecimalRead.{Sum}
use Rattle.decimal.proofs.value.Given as goal

abbrev pub invariant-loop-b : goal.invariant-loop-b
invariant-loop-b l = Sum l.s l.v l.b-index
