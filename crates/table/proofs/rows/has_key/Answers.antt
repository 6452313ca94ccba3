-- `table::rows::has_key` meets its contract: a row without the clue's byte has another key. Assumes nothing.
use mathlib.Core.Path.{sym, ◌∙◌}
use Rattle.table.proofs.Compare.{equal_tells}
use Rattle.table.proofs.rows.has_key.Goals as goal

pub returns : goal.returns
returns c = let e = equal_tells _ _ c.same_key.ensures in
    (λ p. sym c.key.ensures ∙ e.0 p, λ q. e.1 (c.key.ensures ∙ q))
