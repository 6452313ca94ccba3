-- `exports::fq_serve_stream` meets its contract. Assumes nothing.
use mathlib.Core.Path.{refl}
use native.Mathlib.Omega.{arith}
use Rattle.exports.proofs.CodeLaws.{if_none, if-room}
use Rattle.exports.proofs.fq_serve_stream.Goals as goal

pub returns-then-answer-lt-CALLS : goal.returns-then-answer-lt-CALLS
returns-then-answer-lt-CALLS c = if_none _ _ _ _ (omega arith) (record { code = refl; told = refl; buffer = refl; table = refl })

pub returns : goal.returns
returns c = if-room _ _ _ _ (omega arith) c.serve_stream.ensures
