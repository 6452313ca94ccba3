-- `table::remove` meets its contract. Assumes nothing.
use mathlib.Core.Path.{sym, ap, subst, ◌∙◌}
use mathlib.Core.Bool.{false}
use Rattle.table.specs.Change.{Answers, removed}
use native.Mathlib.Omega.{arith}
use Rattle.table.specs.Memory.{count_of}
use Rattle.table.specs.Write.{less}
use Rattle.table.proofs.RowLaws.{length_entries}
use Rattle.table.proofs.Answers.{other_entries, removed_yes, removed_no}
use Rattle.table.proofs.remove.Goals as goal

pub returns-in_default : goal.returns-in_default
returns-in_default c = let t = c.args.t.now in
    removed_no t c.args.i (omega (arith, other_entries t c.in_default.ensures.cases))

pub returns-then-i-count : goal.returns-then-i-count
returns-then-i-count c = let t = c.args.t.now in
    let h = c.in-Some.ensures.cases in
    removed_yes t c.args.i _ (omega (arith, length_entries t h.1, c.count.ensures.0, ap count_of h.0)) (c.remove.ensures ∙ ap (less c.args.i) h.0)

pub returns : goal.returns
returns c = let t = c.args.t.now in
    let h = c.in-Some.ensures.cases in
    subst (Answers t (removed c.args.i t) false) (sym h.0) (removed_no t c.args.i (omega (arith, length_entries t h.1, c.count.ensures.0, ap count_of h.0)))
