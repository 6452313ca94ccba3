-- `table::count` meets its contract. Assumes nothing.
use mathlib.Core.Path.{sym, ap, ◌∙◌}
use Rattle.table.specs.Memory.{count_of}
use Rattle.table.proofs.RowLaws.{length_entries}
use Rattle.table.proofs.Answers.{other_entries}
use Rattle.table.proofs.count.Goals as goal

pub returns-in_default : goal.returns-in_default
returns-in_default c = sym (other_entries c.args.t.now c.in_default.ensures)

pub returns : goal.returns
returns c = c.count.ensures.0 ∙ ap count_of c.in-Some.ensures.0 ∙ sym (length_entries c.args.t.now c.in-Some.ensures.1)
