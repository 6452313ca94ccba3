-- `hexadecimal::number` meets its contract. Assumes nothing.
use native.Mathlib.Omega.{arith}
use Rattle.hexadecimal.proofs.Second.{number-none, number-some}
use Rattle.hexadecimal.proofs.number.Goals as goal

pub returns-in_default : goal.returns-in_default
returns-in_default c = number-none _ _ _ _ (omega arith) c.decode.ensures (λ q. c.in_default.field-0-test.1 (cc))

pub returns-in_default-2 : goal.returns-in_default-2
returns-in_default-2 c = number-none _ _ _ _ (omega arith) c.decode.ensures (λ q. cc c.in_default.is)

pub returns : goal.returns
returns c = rw c.from_be_bytes.ensures (number-some _ _ _ (omega arith) (rw (c.in-Ok-eq4.is, c.in-Ok-eq4.field-0-test) at c.decode.ensures))
