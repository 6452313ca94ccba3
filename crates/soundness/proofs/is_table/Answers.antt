-- `soundness::is_table` meets its contract. Assumes nothing.
use mathlib.Core.Path.{subst}
use mathlib.Core.List.{List}
use Prim.Native.Nat.{ℕ}
use Rattle.table.specs.Memory.{Sound}
use Rattle.table.specs.Found.{Tells}
use Rattle.table.proofs.Lists.{says_no}
use Rattle.soundness.proofs.is_table.Goals as goal

pub returns-in_default : goal.returns-in_default
returns-in_default c = says_no (λ s. c.in_default.ensures.cases s.layout.long)

pub returns : goal.returns
returns c = subst (λ (u : List ℕ). Tells c.is_sound.result (Sound u)) c.in-Some.ensures.cases.same c.is_sound.ensures
