-- No version is issued twice, whatever the calls and on whatever rows of bytes. Assumes nothing.
use mathlib.Core.Path.{◌≡◌, refl, ap, subst}
use mathlib.Core.List.{List, [], ◌∷◌, map}
use mathlib.Core.Bool.{Bool}
use mathlib.Core.Option.{Option, none, some}
use mathlib.Core.Logic.{inl}
use Prim.Native.Nat.{ℕ}
use lib.ListN.{length}
use Rattle.message.specs.Request.{Request}
use Rattle.map.specs.State.{State}
use Rattle.map.specs.Step.{Context, Result, answered, step}
use Rattle.map.specs.Issued.{WritesIssued, IssuedOnce}
use Rattle.map.proofs.Laws.{Next, issues-after, writes-after, once-none, once-next}
use Rattle.table.specs.Memory.{state_of}
use Rattle.service.specs.Serve.{Effect, serve}
use Rattle.service.specs.Stream.{Call, Done, Becomes, Serves, Run}
use Rattle.service.specs.Trace.{Event, Trace, events_of}
use Rattle.service.proofs.Decides.{is_sound}
use Rattle.service.proofs.Sounds.{effect_in, does_in}
use Rattle.service.proofs.Calls.{every_call}
use Rattle.service.proofs.Traces.{run_trace, run_states}

-- what a call leaves: the table's bytes, or the state behind a step that is answered
pub data Leaves (c : Context) (st : State) (e : Effect) : Type 0 where
  same : e.next ≡ none → Leaves c st e
  stepped : (r : Request) (a : Result) (t : State) → step c r st ≡ answered a t → e.next ≡ some t → Leaves c st e

leaves : (c : Context) (st : State) (input : List ℕ) (ok : Bool) (space : ℕ) → Leaves c st (serve input ok st c space)
leaves c st = every_call (Leaves c st) c st (λ n v. same refl) (λ n k id. same refl) (λ r n a t e. stepped r a t e refl)

-- the same of the tables
pub data Left (c : Context) (table next : List ℕ) : Type 0 where
  kept : next ≡ table → Left c table next
  moved : (r : Request) (a : Result) (t : State) → step c r (state_of table) ≡ answered a t → state_of next ≡ t → Left c table next

pub call-left : {input table : List ℕ} {c : Call} {d : Done} → Serves input table c d → Left c.context table d.table
call-left {input} {table} {c} {d} x = go (leaves c.context (state_of table) input (is_sound table) (length c.buffer)) (does_in x).table
  where
    go : Leaves c.context (state_of table) (effect_in input table c) → Becomes table (effect_in input table c).next d.table → Left c.context table d.table
    go (same e) b = kept (subst (λ (n : Option State). Becomes table n d.table) e b)
    go (stepped r a t p e) b = moved r a t p (subst (λ (n : Option State). Becomes table n d.table) e b).0

left-next : {c : Context} {table next : List ℕ} → Left c table next → Next (state_of table).last (state_of next).last
left-next (kept e) = inl (ap (λ (t : List ℕ). (state_of t).last) e)
left-next {c} {table} (moved r a t p e) = rw e (issues-after c r (state_of table) (answered a t) p)

pub call_next : {input table : List ℕ} {c : Call} {d : Done} → Serves input table c d → Next (state_of table).last (state_of d.table).last
call_next x = left-next (call-left x)

left-writes : {c : Context} {table next : List ℕ} → Left c table next → WritesIssued (state_of table) (state_of next)
left-writes (kept e) = rw e (λ f i. inl i)
left-writes {c} {table} (moved r a t p e) = rw e (writes-after c r (state_of table) (answered a t) p)

-- of calls on any rows of bytes
pub trace_once : (table : List ℕ) (xs : List Event) → Trace table xs → IssuedOnce (state_of table) (map (λ (x : Event). state_of x.done.table) xs)
trace_once table [] h = once-none (state_of table)
trace_once table (x ∷ xs) h =
    let l = call-left h.0 in
    once-next (state_of table) (state_of x.done.table) _ (left-next l) (left-writes l) (trace_once x.done.table xs h.1)

-- of a stream
pub never-twice : (input table : List ℕ) (cs : List Call) (ds : List Done) → Run input table cs ds
    → IssuedOnce (state_of table) (map (λ (d : Done). state_of d.table) ds)
never-twice input table cs ds x =
    subst (IssuedOnce (state_of table)) (run_states input table cs ds x) (trace_once table (events_of input cs ds) (run_trace input table cs ds x))
