-- `table::key_order::has_rows_held` meets its contract. Assumes nothing.
use Rattle.table.proofs.CheckLaws.{rows-marked, marked-rows}
use Rattle.table.proofs.key_order.has_rows_held.Goals as goal

pub returns : goal.returns
returns c =
    let m = c in
    let n = m.count-n in (
      λ e. rows-marked _ n.result n.ensures.0 m.marks.result m.marks.ensures (c.all_marked.ensures.0 e),
      λ s. c.all_marked.ensures.1 (marked-rows _ n.result n.ensures.0 m.marks.result m.marks.ensures s),
    )
