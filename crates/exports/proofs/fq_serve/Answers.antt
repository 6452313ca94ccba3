-- `exports::fq_serve` meets its contract. Assumes nothing.
use mathlib.Core.Path.{refl}
use native.Mathlib.Omega.{arith}
use Rattle.exports.proofs.CodeLaws.{if_none, if-room}
use Rattle.exports.proofs.fq_serve.Goals as goal

pub returns-then-answer-lt-CALL : goal.returns-then-answer-lt-CALL
returns-then-answer-lt-CALL c = if_none _ _ _ _ (omega arith) (record { code = refl; told = refl; buffer = refl; table = refl })

pub returns : goal.returns
returns c = if-room _ _ _ _ (omega arith) c.serve.ensures
