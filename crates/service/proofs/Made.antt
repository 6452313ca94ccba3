-- The calls that a stream makes, and what holds of them. Assumes nothing.
use mathlib.Core.Path.{◌≡◌, refl, sym, ap, subst, ◌∙◌}
use mathlib.Core.List.{List, [], ◌∷◌, map}
use mathlib.Core.Bool.{Bool}
use Prim.Native.Nat.{ℕ}
use native.Mathlib.Nat.{add-zero}
use lib.ListN.{drop, take-append-drop}
use Rattle.map.specs.Step.{Context}
use Rattle.table.specs.Memory.{state_of}
use Rattle.service.specs.Serve.{Verdict}
use Rattle.service.specs.Stream.{Call, Done, Serves, Run, run_end, run_call}
use Rattle.service.specs.Many.{Total, at, behind, nothing, only, Streams, waits, last, then}
use Rattle.service.specs.Expiry.{Rises}
use Rattle.service.specs.Shares.{Shares, no_more, share}
use Rattle.service.specs.Made.{total_by, Made, AllMade, none_made, one-made, Holds}
use Rattle.service.specs.Trace.{Event, Trace, table_left, events_of, all_events}
use Rattle.service.proofs.Served.{served-calls}
use Rattle.service.proofs.Once.{never-twice}
use Rattle.service.proofs.Traces.{joins, run_trace}
use Rattle.service.proofs.Expiry.{call-later, all_in_time, rises}

-- the calls of a stream
pub record Calls (c : Context) (input table lent : List ℕ) (t : Total) : Type 0 where
  pub calls : List Call
  pub dones : List Done
  pub made : Made c input table lent t calls dones

only-total : (lent table : List ℕ) (d : Done) → only d ≡ total_by d.answer.verdict lent table (d ∷ [])
unfolding total_by
only-total lent table d =
    let a = sym (add-zero d.answer.taken) in
    let b = sym (add-zero d.size) in
    let k = sym (take-append-drop d.size d.buffer) in
    λ i. record { taken = a i; size = b i; calls = 1; verdict = d.answer.verdict; buffer = k i; table = d.table }

module _ {c : Context} {input table lent : List ℕ} where
  pub waits-made : Made c input table lent (nothing lent table) [] []
  unfolding total_by
  waits-made = record { run = run_end; placed = tt; total = refl }

  pub last_made : {d : Done} → Serves input table (at c lent) d → Made c input table lent (only d) (at c lent ∷ []) (d ∷ [])
  last_made {d} x = record { run = run_call x run_end; placed = (refl, tt); total = only-total lent table d }

  pub then-made : {d : Done} {t : Total} {cs : List Call} {ds : List Done} → Serves input table (at c lent) d
      → Made c (drop d.answer.taken input) d.table (drop d.size d.buffer) t cs ds
      → Made c input table lent (behind d.answer.taken d.size 1 d.buffer t) (at c lent ∷ cs) (d ∷ ds)
  unfolding total_by
  then-made {d} x m =
      record { run = run_call x m.run; placed = (refl, m.placed); total = ap (behind d.answer.taken d.size 1 d.buffer) m.total }

pub streams-run : {c : Context} {used : Bool} {input table lent : List ℕ} {t : Total} → Streams c used input table lent t → Calls c input table lent t
streams-run (waits x e) = record { calls = []; dones = []; made = waits-made }
streams-run (last x e f) = record { calls = _; dones = _; made = last_made x }
streams-run (then x e f s) = let r = streams-run s in record { calls = _; dones = _; made = then-made x r.made }

-- the calls of the streams of several connections
pub record AllCalls (c : Context) (inputs : List (List ℕ)) (table lent : List ℕ) (ts : List Total) : Type 0 where
  pub calls : List (List Call)
  pub dones : List (List Done)
  pub made : AllMade c inputs table lent ts calls dones

pub shares-run : {c : Context} {used : Bool} {inputs : List (List ℕ)} {table lent : List ℕ} {ts : List Total} → Shares c used inputs table lent ts
    → AllCalls c inputs table lent ts
shares-run no_more = record { calls = []; dones = []; made = none_made }
shares-run (share x z) =
    let p = streams-run x in
    let r = shares-run z in
    record { calls = p.calls ∷ r.calls; dones = p.dones ∷ r.dones; made = one-made p.made r.made }

pub run_holds : {input table : List ℕ} {cs : List Call} {ds : List Done} → Run input table cs ds → Holds input table cs ds
run_holds {input} {table} {cs} {ds} x =
    record {
      served = λ rs tail e v s h. served-calls rs tail table cs ds v s h (subst (λ (i : List ℕ). Run i table cs ds) e x);
      once = never-twice input table cs ds x;
      in-time = all_in_time input table cs ds x;
      rises = rises input table cs ds x;
    }

-- the table behind the calls of a stream
total_left : (v : Verdict) (lent input table : List ℕ) (cs : List Call) (ds : List Done) → Run input table cs ds → (total_by v lent table ds).table ≡ table_left table (events_of input cs ds)
unfolding total_by
total_left v lent input table [] [] run_end = refl
total_left v lent input table (c ∷ cs) (d ∷ ds) (run_call x xs) =
    total_left v (drop d.size d.buffer) (drop d.answer.taken input) d.table cs ds xs
total_left v lent input table [] (d ∷ ds) x'' = elim x'' [ ]
total_left v lent input table (c ∷ cs) [] x3 = elim x3 [ ]

-- the calls of all connections, one behind the other
pub all_trace : {c : Context} {inputs : List (List ℕ)} {table lent : List ℕ} {ts : List Total} {css : List (List Call)} {dss : List (List Done)}
    → AllMade c inputs table lent ts css dss → Trace table (all_events inputs css dss)
all_trace none_made = tt
all_trace {table = table} {lent = lent} (one-made {input = input} {inputs = inputs} {t = t} {cs = cs} {css = css} {ds = ds} {dss = dss} m ms) =
    let e : t.table ≡ table_left table (events_of input cs ds) = ap (λ (x : Total). x.table) m.total ∙ total_left t.verdict lent input table cs ds m.run in
    joins table (events_of input cs ds) (all_events inputs css dss) (run_trace input table cs ds m.run)
    (subst (λ (u : List ℕ). Trace u (all_events inputs css dss)) e (all_trace ms))

pub trace_rises : (table : List ℕ) (xs : List Event) → Trace table xs → Rises (state_of table).history.latest (map (λ (x : Event). x.done) xs)
trace_rises table [] h = tt
trace_rises table (x ∷ xs) h = (call-later h.0, trace_rises x.done.table xs h.1)
