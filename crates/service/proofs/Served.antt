-- The first calls over written requests are the simple map's steps. Assumes nothing.
use mathlib.Core.Path.{◌≡◌, refl, ap, ap₂, subst, ◌∙◌}
use mathlib.Core.List.{List, [], ◌∷◌, ◌++◌, map, append_assoc}
use Prim.Native.Nat.{ℕ, ◌≤◌}
use native.Mathlib.Omega.{arith}
use lib.ListN.{length, take, drop}
use lib.Seq.{sets, drop-append_seam}
use borrow.Author.Tests.{le-ltb}
use Rattle.wire.specs.Codec.{Valid}
use Rattle.message.specs.Request.{Request, request}
use Rattle.message.specs.Written.{written, WellFormed}
use Rattle.message.specs.Reply.{error_reply}
use Rattle.message.specs.Refusal.{refusal}
use Rattle.map.specs.State.{State}
use Rattle.map.specs.Step as map-step
use Rattle.map.specs.Step.{Outcome, answered, step, state_after}
use Rattle.map.specs.Reply.{fixed, flat}
use Rattle.table.specs.Memory.{state_of, Sound}
use Rattle.service.specs.Serve.{Answer, Effect, on_step, room, room_of}
use Rattle.service.specs.Stream.{Call, Done, Does, Serves, Run, run_end, run_call}
use Rattle.service.specs.Demand3.{seen, seen_of, play, Roomy}
use Rattle.service.proofs.Decides.{is_sound}
use Rattle.service.proofs.Sounds.{sound-is, does_in}
use Rattle.service.proofs.Calls.{room-least, serve-at}

nil-behind : (s : List ℕ) → s ++ [] ≡ s
nil-behind [] = refl
nil-behind (b ∷ s) = ap (◌∷◌ b) (nil-behind s)

flat-one : (s : List ℕ) → flat (fixed s ∷ []) ≡ s
unfolding flat
flat-one s = nil-behind s

pub record Kept (r : Request) (lent : List ℕ) (st : State) (o : Outcome) (d : Done) : Type 0 where
  pub taken : d.answer.taken ≡ length (request.enc r)
  pub shows : seen d ≡ seen_of r lent st o
  pub state : state_of d.table ≡ state_after st o
  pub sounds : Sound d.table

one : (r : Request) (table lent : List ℕ) (o : Outcome) (d : Done) → Sound table → Does (on_step r (length (request.enc r)) o) table lent d
    → Kept r lent (state_of table) o d
unfolding on_step seen_of
one r table lent (map-step.refused k) d s x =
    let f = flat-one (error_reply.enc (refusal k r.id)) in
    let p = x.size ∙ ap length f in
    let q = x.buffer ∙ ap (sets lent 0) f in
    record {
      taken = ap (λ (a : Answer). a.taken) x.answer;
      shows = λ i. record { answer = x.answer i; size = p i; buffer = q i; state = state_of (x.table i) };
      state = ap state_of x.table;
      sounds = rw x.table s;
    }
one r table lent (answered a t) d s x =
    record {
      taken = ap (λ (a : Answer). a.taken) x.answer;
      shows = λ i. record { answer = x.answer i; size = x.size i; buffer = x.buffer i; state = x.table.0 i };
      state = x.table.0;
      sounds = x.table.1;
    }

first : (r : Request) → Valid request r → (t table : List ℕ) (c : Call) (d : Done) → Sound table → room_of r.op ≤ length c.buffer
    → Serves (request.enc r ++ t) table c d → Kept r c.buffer (state_of table) (step c.context r (state_of table)) d
first r v t table c d s h x =
    one r table c.buffer (step c.context r (state_of table)) d s
    (subst (λ (e : Effect). Does e table c.buffer d)
    (serve-at r v t (is_sound table) (state_of table) c.context (length c.buffer) ∙ rw (sound-is table s, le-ltb (length c.buffer) room (omega (arith, room-least r.op)), le-ltb (length c.buffer) (room_of r.op) h)) (does_in x))

pub served-calls : (rs : List Request) (tail table : List ℕ) (calls : List Call) (dones : List Done) → WellFormed rs → Sound table
    → Roomy rs calls → Run (written rs ++ tail) table calls dones
    → take (length rs) (map (seen) dones) ≡ play rs calls (state_of table)
unfolding written play
served-calls [] tail table calls dones v s h x = refl
served-calls (r ∷ rs) tail table [] [] v s h run_end = refl
served-calls (r ∷ rs) tail table (c ∷ cs) (d ∷ ds) v s h (run_call x xs) =
    let e : (request.enc r ++ written rs) ++ tail ≡ request.enc r ++ (written rs ++ tail) = append_assoc (request.enc r) (written rs) tail in
    let k = first r v.0 (written rs ++ tail) table c d s h.0 (subst (λ (input : List ℕ). Serves input table c d) e x) in
    let q : drop d.answer.taken ((request.enc r ++ written rs) ++ tail) ≡ written rs ++ tail =
    rw (k.taken, e) (drop-append_seam (request.enc r) (written rs ++ tail)) in
    let ih = served-calls rs tail d.table cs ds v.1 k.sounds h.1 (subst (λ (input : List ℕ). Run input d.table cs ds) q xs) in
    ap₂ ◌∷◌ k.shows (ih ∙ ap (play rs cs) k.state)
served-calls (r ∷ rs) tail table [] (d ∷ ds) v s h x = elim x [ ]
served-calls (r ∷ rs) tail table (c ∷ cs) [] v s h x = elim x [ ]
