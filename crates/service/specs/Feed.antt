-- A file that comes chunk by chunk. A chunk is what stands in a buffer: what the last call left of it, and what was read behind that.
use Rattle.std.specs.Prelude.{◌≡◌, List, [], ◌∷◌, ◌++◌, Bool, true, false, cond, ◌&&◌, ℕ, ◌+◌, length, take, drop, eqb, ltb}
use Rattle.std.proofs.Math.Option.{Option, none}
use Rattle.hexadecimal.specs.Scan.{index_of}
use Rattle.map.specs.State.{State}
use Rattle.service.specs.Line.{longest, Given, given, state_left, later, line_step}

-- how many bytes stand before the first line end; all of them where there is none
abbrev pub line_end : List ℕ → ℕ
line_end s = index_of 0x0a s

-- What one turn makes of a chunk: the bytes taken, the line given if there is one, whether the rest of the line is still to be passed over, and the
-- state that it leaves, or none where nothing changes. With nothing taken, more of the file is needed.
pub record Turn : Type 0 where
  pub taken : ℕ
  pub text : List ℕ
  pub passing : Bool
  pub next : Option State

abbrev pub turn : ℕ → List ℕ → Bool → Option State → Turn
turn n t p o = record { taken = n; text = t; passing = p; next = o }

-- a line given, with its line end
abbrev pub ended : Given → List ℕ
ended g = g.text ++ (0x0a ∷ [])

-- passing: the line was given already, and its rest is passed over; last: nothing comes behind the chunk.
-- "The last may lack its line end." A line that is longer than a line may be is given as soon as that is seen.
unfoldable pub turn_of : Bool → Bool → List ℕ → State → Turn
turn_of true last s st =
    cond (ltb (line_end s) (length s)) (turn (line_end s + 1) [] false none) (turn (length s) [] true none)
turn_of false last s st =
    cond (ltb (line_end s) (length s))
    (turn (line_end s + 1) (ended (line_step (take (line_end s) s) st)) false (line_step (take (line_end s) s) st).next)
    (cond (ltb longest (length s))
    (turn (length s) (ended (line_step s st)) true (line_step s st).next)
    (cond (last && ltb 0 (length s)) (turn (length s) (ended (line_step s st)) false (line_step s st).next) (turn 0 [] false none)))

-- the lines of a whole file: each ends at its line end, and the last may lack it
abbrev pub longer : ℕ → List (List ℕ) → List (List ℕ)
longer b [] = (b ∷ []) ∷ []
longer b (l ∷ ls) = (b ∷ l) ∷ ls

unfoldable pub lines_of : List ℕ → List (List ℕ)
lines_of [] = []
lines_of (b ∷ s) = cond (eqb b 0x0a) ([] ∷ lines_of s) (longer b (lines_of s))

unfoldable pub joined : List (List ℕ) → List ℕ
joined [] = []
joined (p ∷ ps) = p ++ joined ps

-- A file in chunks: turns on what stands in the buffer, and a chunk more where a turn takes nothing; g is all that is given, and the state that is left.
pub data Feeds : Bool → List ℕ → List (List ℕ) → State → Given → Type 0 where
  took : {passing last : Bool} {s : List ℕ} {ps : List (List ℕ)} {st : State} {g : Given} → (last ≡ true → ps ≡ [])
      → Feeds (turn_of passing last s st).passing (drop (turn_of passing last s st).taken s) ps (state_left st (turn_of passing last s st).next) g
      → Feeds passing s ps st (given ((turn_of passing last s st).text ++ g.text) (later (turn_of passing last s st).next g.next))
  read : {passing : Bool} {s p : List ℕ} {ps : List (List ℕ)} {st : State} {g : Given} → Feeds passing (s ++ p) ps st g → Feeds passing s (p ∷ ps) st g
  end : {passing : Bool} {s : List ℕ} {st : State} → (turn_of passing true s st).taken ≡ 0 → Feeds passing s [] st (given [] none)
