-- Calls one after the other on one table, cut in two and put together; and a stream is such calls. Assumes nothing.
use mathlib.Core.Path.{◌≡◌, refl, ap₂}
use mathlib.Core.List.{List, [], ◌∷◌, ◌++◌, map}
use lib.ListN.{drop}
use Prim.Native.Nat.{ℕ}
use Rattle.table.specs.Memory.{state_of}
use Rattle.service.specs.Stream.{Call, Done, Run, run_end, run_call}
use Rattle.service.specs.Trace.{Event, Trace, table_left, events_of}

-- calls, and calls behind them
pub split : (table : List ℕ) (xs ys : List Event) → Trace table (xs ++ ys) → Trace table xs × Trace (table_left table xs) ys
split table [] ys h = (tt, h)
split table (x ∷ xs) ys h = let r = split x.done.table xs ys h.1 in ((h.0, r.0), r.1)

pub joins : (table : List ℕ) (xs ys : List Event) → Trace table xs → Trace (table_left table xs) ys → Trace table (xs ++ ys)
joins table [] ys h i = i
joins table (x ∷ xs) ys h i = (h.0, joins x.done.table xs ys h.1 i)

-- a stream is such calls
pub run_trace : (input table : List ℕ) (cs : List Call) (ds : List Done) → Run input table cs ds → Trace table (events_of input cs ds)
run_trace input table [] [] run_end = tt
run_trace input table (c ∷ cs) (d ∷ ds) (run_call x xs) = (x, run_trace (drop d.answer.taken input) d.table cs ds xs)
run_trace input table [] (d ∷ ds) x'' = elim x'' [ ]
run_trace input table (c ∷ cs) [] x3 = elim x3 [ ]

pub run_states : (input table : List ℕ) (cs : List Call) (ds : List Done) → Run input table cs ds
    → map (λ (x : Event). state_of x.done.table) (events_of input cs ds) ≡ map (λ (d : Done). state_of d.table) ds
run_states input table [] [] run_end = refl
run_states input table (c ∷ cs) (d ∷ ds) (run_call x xs) = ap₂ ◌∷◌ refl (run_states (drop d.answer.taken input) d.table cs ds xs)
run_states input table [] (d ∷ ds) x'' = elim x'' [ ]
run_states input table (c ∷ cs) [] x3 = elim x3 [ ]
