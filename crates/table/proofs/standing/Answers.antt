-- `table::standing` meets its contract. Assumes nothing.
use mathlib.Core.Path.{sym, ap}
use lib.ListN.{length}
use Rattle.map.specs.State.{State, without}
use Rattle.map.specs.Deadline.{standing}
use Rattle.table.proofs.Answers.{other_length}
use Rattle.table.proofs.standing.Goals as goal

pub returns-in_default : goal.returns-in_default
unfolding without
returns-in_default c = let s = c.args in
    sym (ap (λ (st : State). length (standing s.second.0 st.entries)) (other_length s.t.now c.in_default.ensures))
