-- `table::last` meets its contract. Assumes nothing.
use mathlib.Core.Path.{sym, ap, ◌∙◌}
use mathlib.Core.List.{List}
use Prim.Native.Nat.{ℕ}
use Rattle.table.specs.Memory.{number_of, last_index}
use Rattle.map.specs.State.{State}
use Rattle.table.proofs.RowLaws.{last-is}
use Rattle.table.proofs.Answers.{other_length}
use Rattle.table.proofs.last.Goals as goal

pub returns-in_default : goal.returns-in_default
returns-in_default c = sym (ap (λ (st : State). st.last) (other_length c.args.t.now c.in_default.ensures))

pub returns : goal.returns
returns c = c.header.ensures ∙ ap (λ (u : List ℕ). number_of u last_index) c.in-Some.ensures.0 ∙ sym (last-is c.args.t.now c.in-Some.ensures.1)
