-- `table::clear` meets its contract. Assumes nothing.
use mathlib.Core.Path.{ap, ◌∙◌}
use Rattle.table.specs.Write.{with_number}
use Rattle.table.proofs.Answers.{cleared_yes, cleared_no}
use Rattle.table.proofs.clear.Goals as goal

pub returns-in_default : goal.returns-in_default
returns-in_default c = cleared_no c.args.t.now c.in_default.ensures.cases

pub returns : goal.returns
returns c = cleared_yes c.args.t.now _ c.in-Some.ensures.cases.1 (c.clear.ensures ∙ ap (with_number 0 0) c.in-Some.ensures.cases.0)
