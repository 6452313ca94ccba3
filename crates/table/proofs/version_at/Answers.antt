-- `table::version_at` meets its contract. Assumes nothing.
use mathlib.Core.Path.{◌∙◌}
use native.Mathlib.Omega.{arith}
use Rattle.table.proofs.Answers.{version-at, version-none}
use Rattle.table.proofs.version_at.Goals as goal

pub returns-then-i-count : goal.returns-then-i-count
returns-then-i-count c = c.number_at.ensures ∙ version-at _ _ (omega arith)

pub returns : goal.returns
returns c = version-none _ _ (omega arith)
