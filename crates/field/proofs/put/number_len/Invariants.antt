-- `field::put::number_len` meets its contract: `Counted` says what is counted, and what is left. Assumes nothing.
use Rattle.wire.specs.Number.{number_enc}
use Rattle.wire.proofs.Digits.{Counted}
use Rattle.field.proofs.put.number_len.Given as goal

abbrev pub invariant-loop-n : goal.invariant-loop-n
invariant-loop-n l = Counted number_enc 8 l.v l.n l.x
