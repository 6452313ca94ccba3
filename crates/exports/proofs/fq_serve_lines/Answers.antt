-- `exports::fq_serve_lines` meets its contract. Assumes nothing.
use mathlib.Core.Path.{refl}
use native.Mathlib.Omega.{arith}
use Rattle.exports.proofs.CodeLaws.{if_none, if-room}
use Rattle.exports.proofs.fq_serve_lines.Goals as goal

pub returns-then-answer-lt-LINES : goal.returns-then-answer-lt-LINES
returns-then-answer-lt-LINES c = if_none _ _ _ _ (omega arith) (record { code = refl; told = refl; buffer = refl; table = refl })

pub returns : goal.returns
returns c = if-room _ _ _ _ (omega arith) c.serve_lines.ensures
