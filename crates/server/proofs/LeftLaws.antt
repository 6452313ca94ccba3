-- What a line leaves of a table, and what two lines leave one after the other. Assumes nothing.
use mathlib.Core.Path.{◌≡◌}
use mathlib.Core.List.{List}
use mathlib.Core.Option.{Option, none, some}
use Prim.Native.Nat.{ℕ}
use Rattle.map.specs.State.{State}
use Rattle.service.specs.Line.{state_left, later}
use Rattle.table.specs.Memory.{state_of, Sound}
use Rattle.service.specs.Stream.{Becomes}

pub left-state : (t left : List ℕ) (o : Option State) → Becomes t o left → state_of left ≡ state_left (state_of t) o
left-state t left none e = rw e
left-state t left (some st) e = e.0

pub left-sound : (t left : List ℕ) (o : Option State) → Sound t → Becomes t o left → Sound left
left-sound t left none s e = rw e s
left-sound t left (some st) s e = e.1

pub left_both : (t u v : List ℕ) (a b : Option State) → Becomes t a u → Becomes u b v → Becomes t (later a b) v
left_both t u v a none e f = rw f e
left_both t u v a (some st) e f = f
