-- `table::find` meets its contract. Assumes nothing.
use mathlib.Core.Path.{subst}
use mathlib.Core.List.{List}
use Prim.Native.Nat.{ℕ}
use Rattle.table.specs.Found.{FoundFrom}
use Rattle.table.proofs.Answers.{found-other, found_first}
use Rattle.table.proofs.find.Goals as goal

pub returns-in_err-opened : goal.returns-in_err-opened
returns-in_err-opened c = rw c.from_residual.ensures (found-other c.args.t.now c.args.key.now c.in_err-opened.ensures)

pub returns : goal.returns
returns c = found_first c.args.t.now c.args.key.now c.in_ok-opened.ensures.1 c.find_from.result (subst (λ (u : List ℕ). FoundFrom u c.args.key.now 0 c.find_from.result) c.in_ok-opened.ensures.0 c.find_from.ensures)
