-- `rules::body_in` meets its contract: the rows behind those passed decide. Assumes nothing.
use mathlib.Core.Path.{◌≡◌}
use lib.ListN.{drop}
use Rattle.message.specs.ReplyTable.{body_at}
use Rattle.rules.specs.Body.{as_rows}
use Rattle.rules.proofs.body_in.Given as goal

abbrev pub invariant-loop-s : goal.invariant-loop-s
invariant-loop-s l = body_at l.status (as_rows l.rows) ≡ body_at l.status (as_rows (drop l.s-index l.rows))
