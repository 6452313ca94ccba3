-- Calls one after the other on one table, each on a row of bytes of its own, at any seconds. Those of one stream are such calls (`run_trace`), and so are those of several
-- connections, in whatever order they come (`all_trace`).
use Rattle.std.specs.Prelude.{List, [], ◌∷◌, ◌++◌, ℕ, drop}
use Rattle.service.specs.Stream.{Call, Done, Serves}

-- a call as it was made: its row of bytes, what it was given, and what it left
pub record Event : Type 0 where
  pub input : List ℕ
  pub call : Call
  pub done : Done

-- each gets the table that the last one left
abbrev pub Trace : List ℕ → List Event → Type 0
Trace table [] = Unit {0}
Trace table (x ∷ xs) = Serves x.input table x.call x.done × Trace x.done.table xs

-- the table behind calls
abbrev pub table_left : List ℕ → List Event → List ℕ
table_left table [] = table
table_left table (x ∷ xs) = table_left x.done.table xs

-- the calls of a stream
abbrev pub events_of : List ℕ → List Call → List Done → List Event
events_of input [] ds = []
events_of input (c ∷ cs) [] = []
events_of input (c ∷ cs) (d ∷ ds) = record { input = input; call = c; done = d } ∷ events_of (drop d.answer.taken input) cs ds

-- the calls of the streams of several connections
abbrev pub all_events : List (List ℕ) → List (List Call) → List (List Done) → List Event
all_events [] css dss = []
all_events (input ∷ inputs) [] dss = []
all_events (input ∷ inputs) (cs ∷ css) [] = []
all_events (input ∷ inputs) (cs ∷ css) (ds ∷ dss) = events_of input cs ds ++ all_events inputs css dss
