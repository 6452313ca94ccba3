-- "It holds entries, in no order": what it is for two states, and for two outcomes, to be the same but for the order of their entries.
use Rattle.std.specs.Prelude.{◌≡◌}
use mathlib.Core.List.{Permᴰ}
use Rattle.map.specs.State.{State}
use Rattle.map.specs.Step.{Outcome, refused, answered}

-- the same entries, each as often, in whatever order: the library's permutation
pub record SameState (st tt : State) : Type 0 where
  pub entries : Permᴰ st.entries tt.entries
  pub last : st.last ≡ tt.last
  pub history : st.history ≡ tt.history

abbrev pub SameOutcome : Outcome → Outcome → Type 0
SameOutcome (refused k) (refused j) = k ≡ j
SameOutcome (refused k) (answered a st) = ⊥
SameOutcome (answered a st) (refused k) = ⊥
SameOutcome (answered a st) (answered b tt) = (a ≡ b) × SameState st tt
