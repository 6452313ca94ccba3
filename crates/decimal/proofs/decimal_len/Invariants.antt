-- `decimal::decimal_len` meets its contract: `Counted` says what is counted, and what is left. Assumes nothing.
use Rattle.wire.proofs.Digits.{Counted}
use Rattle.decimal.specs.Decimal.{digits_by}
use Rattle.decimal.proofs.decimal_len.Given as goal

abbrev pub invariant-loop-n : goal.invariant-loop-n
invariant-loop-n l = Counted digits_by 18 l.v l.n l.x
