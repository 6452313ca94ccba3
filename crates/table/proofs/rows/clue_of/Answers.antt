-- `table::rows::clue_of` meets its contract. Assumes nothing.
use native.Mathlib.Omega.{arith}
use Rattle.table.proofs.Clues.{empty_clue, last_clue}
use Rattle.table.proofs.rows.clue_of.Goals as goal

pub returns-then-n-eq0 : goal.returns-then-n-eq0
returns-then-n-eq0 c = empty_clue _ c.if-n-eq0.true

pub returns : goal.returns
returns c = last_clue _ (omega (arith, c.if-n-eq0.false)) c.requires
