-- `hexadecimal::are_digits` meets its contract: at each byte, the answer so far and the rest decide. Assumes nothing.
use Rattle.std.proofs.Common.{◌≡◌, ◌&&◌, drop}
use Rattle.hexadecimal.specs.Number.{are_digits}
use Rattle.hexadecimal.proofs.are_digits.Given as goal

abbrev pub invariant-loop-b : goal.invariant-loop-b
invariant-loop-b l = are_digits l.s ≡ (l.good && are_digits (drop l.b-index l.s))
