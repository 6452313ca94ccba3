-- `decimal::put_decimal` meets its contract: from the last digit to the first, the loop knows what `Filled` says. Assumes nothing.
use Prim.Native.Nat.{◌+◌, ◌-◌}
use Rattle.wire.proofs.Digits.{Filled}
use Rattle.decimal.proofs.DecimalWrite.{digit}
use Rattle.decimal.proofs.put_decimal.Given as goal

abbrev pub invariant-loop-i : goal.invariant-loop-i
invariant-loop-i l = Filled 10 digit (l.size - 1) l.v (l.at + 1) l.initial.out l.out l.x l.i
