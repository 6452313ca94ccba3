-- A stream whose reply buffer has room for any reply. Assumes nothing.
use mathlib.Core.Path.{◌≡◌, refl, ap, ◌∙◌}
use mathlib.Core.List.{List}
use mathlib.Core.Bool.{Bool, true, false, cond, and-true, or-true, ◌&&◌, ◌||◌}
use mathlib.Core.Logic.{◌⊎◌, inl, inr}
use Prim.Native.Nat.{ℕ, ◌≤◌, ◌<◌}
use native.Mathlib.Omega.{arith}
use lib.ListN.{length, drop, length-drop}
use lib.Seq.{length-sets}
use lib.Dec.{ltb}
use borrow.Author.Tests.{le-ltb, ltb-true, ltb-false}
use Rattle.wire.specs.Codec as wire
use Rattle.wire.specs.Codec.{Read}
use Rattle.wire.proofs.Laws.{never, both}
use Rattle.message.specs.Request.{Request, request}
use Rattle.map.specs.State.{State}
use Rattle.map.specs.Step as map-step
use Rattle.map.specs.Step.{Context, Outcome, answered, step}
use Rattle.map.specs.Reply.{flat}
use Rattle.table.specs.Memory.{state_of}
use Rattle.service.specs.Serve.{Verdict, served, more, refused, full, Effect, unchanged, on_step, on_read, serve, room, bulk_room, within}
use Rattle.service.specs.Stream.{Done, Serves, effect_of}
use Rattle.service.specs.Many.{is_short, Total, at, Streams, waits, last, then, NeverShort}
use Rattle.service.proofs.Calls.{within_has}
use Rattle.service.proofs.Bounds.{roomy-serve, never-short}

module _ {c : Context} {input table lent : List ℕ} {d : Done} (x : Serves input table (at c lent) d) where
  -- with room for any reply a call is not refused 12
  roomy-call : bulk_room ≤ length lent → is_short d.answer.verdict ≡ false
  unfolding serve unchanged
  roomy-call h = rw x.does.answer (go x.ok)
    where
      go : (ok : Bool) → is_short (serve input ok (state_of table) c (length lent)).answer.verdict ≡ false
      go true = rw (roomy-serve input c (state_of table) (length lent) h) (never-short input c (state_of table))
      go false = rw (le-ltb (length lent) room (omega arith))

  -- what is left of the buffer behind a call
  left-long : d.size ≡ 0 → length (drop d.size d.buffer) ≡ length lent
  left-long e =
      omega (arith, length-drop d.size d.buffer, ap length x.does.buffer ∙ length-sets lent 0 (flat (effect_of x.ok input table (at c lent)).sent))

-- A stream has room for any reply, or it does not make the calls that would be refused 12.
abbrev Ample : Bool → List ℕ → Type 0
Ample used lent = (used ≡ true) ⊎ (bulk_room ≤ length lent)

module _ {c : Context} {used : Bool} {input table lent : List ℕ} {d : Done} (x : Serves input table (at c lent) d) where
  made : Ample used lent → (is_short d.answer.verdict && used) ≡ false → is_short d.answer.verdict ≡ false
  made (inl u) e = rw (u, and-true) at e
  made (inr h) e = roomy-call x h

  ample_behind : Ample used lent → Ample (used || ltb 0 d.size) (drop d.size d.buffer)
  ample_behind (inl u) = inl (rw u)
  ample_behind (inr h) = go (ltb 0 d.size) refl
    where
      go : (b : Bool) → ltb 0 d.size ≡ b → Ample (used || b) (drop d.size d.buffer)
      go true e = inl (or-true used)
      go false e = inr (rw (left-long x (omega (arith, ltb-false 0 d.size e))) h)

ample_stream : {c : Context} {used : Bool} {input table lent : List ℕ} {t : Total} → Ample used lent → (s : Streams c used input table lent t) → NeverShort s
ample_stream h (waits x e) = tt
ample_stream h (last x e f) = made x h e
ample_stream h (then x e f s) = (made x h e, ample_stream (ample_behind x h) s)

-- With room for any reply a stream makes no call that is refused 12, however full the buffer is by then.
pub never-filled : {c : Context} {input table lent : List ℕ} {t : Total} → bulk_room ≤ length lent → (s : Streams c false input table lent t) → NeverShort s
never-filled h s = ample_stream (inr h) s

-- a call does not end as a full stream
abbrev is_full : Verdict → Bool
is_full served = false
is_full more = false
is_full (refused k) = false
is_full full = true

abbrev NotFull : Effect → Type 0
NotFull e = is_full e.answer.verdict ≡ false

module _ (input : List ℕ) (c : Context) (st : State) where
  step-ends : (r : Request) (n : ℕ) (o : Outcome) → NotFull (on_step r n o)
  unfolding on_step
  step-ends r n (map-step.refused k) = refl
  step-ends r n (answered a t) = refl

  read-ends : (x : Read Request) → NotFull (on_read input c st x)
  unfolding on_read unchanged
  read-ends (wire.whole r n) = step-ends r n (step c r st)
  read-ends wire.more = refl
  read-ends (wire.refused k) = refl

  call_ends : (ok : Bool) (space : ℕ) → NotFull (serve input ok st c space)
  unfolding serve unchanged
  call_ends ok space = go (ltb space room) ok
    where
      x : Read Request
      x = request.dec input

      go : (a b : Bool) → NotFull (cond a (unchanged (refused 12)) (cond b (within space x (on_read input c st x)) (unchanged (refused 13))))
      go true b = refl
      go false true = within_has NotFull space x (on_read input c st x) (λ n. refl) (read-ends x)
      go false false = refl

-- A stream is full only behind something taken: a caller who empties the buffer and calls again comes on.
pub full-took : {c : Context} {input table lent : List ℕ} {t : Total} → Streams c false input table lent t → t.verdict ≡ full → 0 < t.taken
full-took (waits {d = d} x e) q = let z = (both (is_short d.answer.verdict) false e).1 in never (cc)
full-took {c} {input} {table} {lent} (last {d = d} x e f) q =
    let z = rw x.does.answer at (ap is_full q) in
    let y = call_ends input c (state_of table) x.ok (length lent) in
    never (cc)
full-took (then {d = d} x e f s) q = omega (arith, ltb-true 0 d.answer.taken f)
