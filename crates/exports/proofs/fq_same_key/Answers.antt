-- `exports::fq_same_key` meets its contract. Assumes nothing.
use mathlib.Core.Path.{ap}
use mathlib.Core.List.{List}
use Prim.Native.Nat.{ℕ}
use native.Mathlib.Omega.{arith}
use Rattle.exports.proofs.CodeLaws.{no_room, in-room}
use Rattle.exports.proofs.fq_same_key.Goals as goal

pub returns-then-answer-lt-KEYS : goal.returns-then-answer-lt-KEYS
returns-then-answer-lt-KEYS c = no_room _ _ _ (omega arith)

pub returns : goal.returns
returns c = in-room _ _ _ (omega arith) (ap (λ (l : List ℕ). (256, l)) c.same_key.ensures)
