-- The order is the one made afresh after every call, stream, line and load. Assumes nothing.
use mathlib.Core.Path.{sym, subst}
use mathlib.Core.List.{List}
use mathlib.Core.Bool.{Bool}
use mathlib.Core.Option.{Option, none, some}
use Prim.Native.Nat.{ℕ}
use Rattle.wire.specs.Each.{Each}
use Rattle.map.specs.State.{State}
use Rattle.map.specs.Step.{Context}
use Rattle.table.specs.Memory.{Sound}
use Rattle.std.specs.Prelude.{Result, Ok, Err}
use Rattle.field.specs.declared.refusals.Refusal.{Refusal}
use Rattle.table.proofs.ByKey.{order-entries}
use Rattle.service.specs.Stream.{Call, Done, effect_of, Becomes, Run, run_end, run_call}
use Rattle.service.specs.Many.{Total, Streams, waits, last, then}
use Rattle.stored.specs.File.{form1}
use Rattle.stored.specs.StoreLoad.{Loaded}
use Rattle.order.specs.Afresh.{OrderAfresh, Transition, call, lines, load, Transitions, start, onward}

-- in every sound table
pub sound-afresh : (t : List ℕ) → Sound t → OrderAfresh t
sound-afresh t s = record { rows = s.layout.by_key; entries = order-entries t s.layout.long s.layout.places s.layout.by_key }

becomes_sound : {t u : List ℕ} (o : Option State) → Becomes t o u → Sound t → Sound u
becomes_sound none b s = subst Sound (sym b) s
becomes_sound (some st) b s = b.1

loaded-sound : (file : List ℕ) {t u : List ℕ} (o : Result (Unit {0}) Refusal) → Loaded form1 file t o u → Sound t → Sound u
loaded-sound file (Ok x) l s = l.1
loaded-sound file (Err k) l s = subst Sound (sym l.1) s

transition_sound : {t u : List ℕ} → Transition t u → Sound t → Sound u
transition_sound (call {input = input} {t = t} {c = c} x) s = becomes_sound (effect_of x.ok input t c).next x.does.table s
transition_sound (lines {x = x} y b) s = becomes_sound x.next b s
transition_sound (load file o l) s = loaded-sound file o l s

transitions_sound : {t u : List ℕ} → Transitions t u → Sound t → Sound u
transitions_sound start s = s
transitions_sound (onward x h) s = transitions_sound h (transition_sound x s)

-- after any transitions of a sound table
pub afresh : {t u : List ℕ} → Transitions t u → Sound t → OrderAfresh u
afresh {t} {u} h s = sound-afresh u (transitions_sound h s)

-- after each call of a run, and after a stream
pub run-afresh : {input t : List ℕ} {cs : List Call} {ds : List Done} → Run input t cs ds → Sound t → Each (λ (d : Done). OrderAfresh d.table) ds
run-afresh run_end s = tt
run-afresh (run_call {d = d} x r) s = let z = transition_sound (call x) s in (sound-afresh d.table z, run-afresh r z)

pub stream_transitions : {c : Context} {used : Bool} {input t lent : List ℕ} {r : Total} → Streams c used input t lent r → Transitions t r.table
stream_transitions (waits x e) = start
stream_transitions (last x e f) = onward (call x) start
stream_transitions (then x e f s) = onward (call x) (stream_transitions s)
