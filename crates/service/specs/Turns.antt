-- Turns one after the other on one chunk of a file, as long as there is room for a line.
use Rattle.std.specs.Prelude.{◌≡◌, List, [], ◌++◌, Bool, ℕ, ◌+◌, ◌*◌, ◌-◌, ◌≤◌, ◌<◌, length, drop}
use Rattle.std.proofs.Math.Option.{none}
use Rattle.map.specs.State.{State}
use Rattle.service.specs.Serve.{bulk_room}
use Rattle.service.specs.Line.{state_left, later}
use Rattle.service.specs.Feed.{Turn, turn, turn_of}

-- the room for any line that a line gives: the bytes that a bulk request asks for, two digits each, and the line end
abbrev pub line_room : ℕ
line_room = 2 * bulk_room + 1

-- what a turn and the turns behind it make together
abbrev pub both : Turn → Turn → Turn
both a b = turn (a.taken + b.taken) (a.text ++ b.text) b.passing (later a.next b.next)

-- Turns on a chunk with so much room for output: they end where there is no room for a line, or where a turn takes nothing.
pub data Turns (last : Bool) : Bool → List ℕ → State → ℕ → Turn → Type 0 where
  full : {passing : Bool} {s : List ℕ} {st : State} {room : ℕ} → room < line_room → Turns last passing s st room (turn 0 [] passing none)
  done : {passing : Bool} {s : List ℕ} {st : State} {room : ℕ} → (turn_of passing last s st).taken ≡ 0 → Turns last passing s st room (turn 0 [] passing none)
  then : {passing : Bool} {s : List ℕ} {st : State} {room : ℕ} {t : Turn} → line_room ≤ room → 0 < (turn_of passing last s st).taken
      → Turns last (turn_of passing last s st).passing (drop (turn_of passing last s st).taken s) (state_left st (turn_of passing last s st).next)
      (room - length (turn_of passing last s st).text) t
      → Turns last passing s st room (both (turn_of passing last s st) t)
