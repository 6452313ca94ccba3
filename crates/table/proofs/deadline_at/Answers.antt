-- `table::deadline_at` meets its contract. Assumes nothing.
use mathlib.Core.Path.{◌∙◌}
use native.Mathlib.Omega.{arith}
use Rattle.table.proofs.Answers.{deadline-at, deadline-none}
use Rattle.table.proofs.deadline_at.Goals as goal

pub returns-then-i-count : goal.returns-then-i-count
returns-then-i-count c = c.number_at.ensures ∙ deadline-at _ _ (omega arith)

pub returns : goal.returns
returns c = deadline-none _ _ (omega arith)
