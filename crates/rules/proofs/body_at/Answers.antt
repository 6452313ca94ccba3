-- `rules::body_at` meets its contract: an error reply has statuses of its own, and any other those of the reply table. Assumes nothing.
use native.Mathlib.Omega.{arith}
use Rattle.rules.proofs.BodyLaws.{error-text, error-none}
use Rattle.rules.proofs.body_at.Goals as goal

pub returns-in-129-to-134 : goal.returns-in-129-to-134
returns-in-129-to-134 c = rw c.if-op-ne80.false (error-text _ (omega arith) (omega arith))

pub returns-in_default : goal.returns-in_default
returns-in_default c = rw c.if-op-ne80.false (error-none _ (λ k l h e. omega arith))

pub returns-in_default-2 : goal.returns-in_default-2
returns-in_default-2 c = rw c.if-op-ne80.false (error-none _ (λ k l h e. omega arith))
