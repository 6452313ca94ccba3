-- Another value for the entry of one version, and nothing else.
use Rattle.std.specs.Prelude.{List, [], ◌∷◌, cond, ℕ, eqb}
use Rattle.std.proofs.Math.Option.{Option, none, some}
use Rattle.map.specs.State.{Entry, State, with_entries}
use Rattle.map.specs.Reply.{Piece, fixed, of_entry}
use Rattle.map.specs.Shown.{Shown, nothing, no_value, value, versioned, counted, listed}
use Rattle.map.specs.Step.{Result, Outcome, refused, answered}

module _ (v : ℕ) (w : List ℕ) where
  abbrev pub entry_with : Entry → Entry
  entry_with e = record { key = e.key; value = cond (eqb e.version v) w e.value; version = e.version; deadline = e.deadline }

  unfoldable pub entries_with : List Entry → List Entry
  entries_with [] = []
  entries_with (e ∷ es) = entry_with e ∷ entries_with es

  unfoldable pub state_with : State → State
  state_with st = with_entries (entries_with st.entries) st

  abbrev pub found_with : Option Entry → Option Entry
  found_with none = none
  found_with (some e) = some (entry_with e)

  unfoldable pub shown_with : Shown → Shown
  shown_with nothing = nothing
  shown_with no_value = no_value
  shown_with (value e) = value (entry_with e)
  shown_with (versioned e) = versioned (entry_with e)
  shown_with (counted ns) = counted ns
  shown_with (listed values es) = listed values (entries_with es)

  unfoldable pub result_with : Result → Result
  result_with a = record { status = a.status; shown = shown_with a.shown }

  unfoldable pub outcome_with : Outcome → Outcome
  outcome_with (refused k) = refused k
  outcome_with (answered a st) = answered (result_with a) (state_with st)

  -- the state alone
  unfoldable pub outcome_state : Outcome → Outcome
  outcome_state (refused k) = refused k
  outcome_state (answered a st) = answered a (state_with st)

  abbrev pub piece_with : Piece → Piece
  piece_with (fixed s) = fixed s
  piece_with (of_entry e) = of_entry (entry_with e)

  -- bytes that are no value of that entry are kept
  unfoldable pub pieces_with : List Piece → List Piece
  pieces_with [] = []
  pieces_with (p ∷ ps) = piece_with p ∷ pieces_with ps
