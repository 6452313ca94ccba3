-- Expiry on a stream, whatever its calls. Assumes nothing.
use mathlib.Core.Path.{ap, sym}
use mathlib.Core.List.{List, [], ◌∷◌}
use mathlib.Core.Bool.{Bool}
use mathlib.Core.Option.{Option, none, some}
use Prim.Native.Nat.{ℕ, ◌≤◌}
use native.Mathlib.Nat.{le_of_eq}
use lib.ListN.{length, drop}
use Rattle.map.specs.State.{State}
use Rattle.map.specs.Step.{Context, answered}
use Rattle.map.proofs.Expiry.{shows-standing, rises-after}
use Rattle.table.specs.Memory.{state_of}
use Rattle.service.specs.Serve.{Effect, serve}
use Rattle.service.specs.Stream.{Call, Done, Becomes, Serves, Run, run_end, run_call}
use Rattle.service.specs.Expiry.{Sends, silence, error, reply, AllInTime, Rises}
use Rattle.service.proofs.Decides.{is_sound}
use Rattle.service.proofs.Sounds.{tells-sound, effect_in, does_in}
use Rattle.service.proofs.Calls.{every_call}

module _ (c : Context) (st : State) where
  -- no call sends anything of an entry at or behind its deadline
  sends-standing : (input : List ℕ) (ok : Bool) (space : ℕ) → Sends c st (serve input ok st c space).sent
  sends-standing =
      every_call (λ (f : Effect). Sends c st f.sent) c st (λ n v. silence) (λ n k id. error k id)
      (λ r n a t e. reply r a t e (shows-standing c r st a t e))

  -- nor leaves a lower latest second
  abbrev NoLower : Option State → Type 0
  NoLower none = Unit {0}
  NoLower (some t) = st.history.latest ≤ t.history.latest

  no_lower : (input : List ℕ) (ok : Bool) (space : ℕ) → NoLower (serve input ok st c space).next
  no_lower =
      every_call (λ (f : Effect). NoLower f.next) c st (λ n v. tt) (λ n k id. tt) (λ r n a t e. rises-after c r st (answered a t) e)

left-later : (c : Context) (t u : List ℕ) (n : Option State) → NoLower c (state_of t) n → Becomes t n u → (state_of t).history.latest ≤ (state_of u).history.latest
left-later c t u none h l = le_of_eq (ap (λ (x : List ℕ). (state_of x).history.latest) (sym l))
left-later c t u (some st) h l = rw l.0 h

pub all_in_time : (input t : List ℕ) (cs : List Call) (ds : List Done) → Run input t cs ds → AllInTime input t cs ds
all_in_time input t [] [] run_end = tt
all_in_time input t (c ∷ cs) (d ∷ ds) (run_call x xs) = (
  record {
    ok = is_sound t;
    tells = tells-sound t;
    buffer = (does_in x).buffer;
    sends = sends-standing c.context (state_of t) input (is_sound t) (length c.buffer);
  },
  all_in_time (drop d.answer.taken input) d.table cs ds xs,
)
all_in_time input t [] (d ∷ ds) x'' = elim x'' [ ]
all_in_time input t (c ∷ cs) [] x3 = elim x3 [ ]

pub call-later : {input t : List ℕ} {c : Call} {d : Done} → Serves input t c d → (state_of t).history.latest ≤ (state_of d.table).history.latest
call-later {input} {t} {c} {d} x =
    left-later c.context t d.table (effect_in input t c).next (no_lower c.context (state_of t) input (is_sound t) (length c.buffer)) (does_in x).table

pub rises : (input t : List ℕ) (cs : List Call) (ds : List Done) → Run input t cs ds → Rises (state_of t).history.latest ds
rises input t [] [] run_end = tt
rises input t (c ∷ cs) (d ∷ ds) (run_call x xs) = (call-later x, rises (drop d.answer.taken input) d.table cs ds xs)
rises input t [] (d ∷ ds) x'' = elim x'' [ ]
rises input t (c ∷ cs) [] x3 = elim x3 [ ]
