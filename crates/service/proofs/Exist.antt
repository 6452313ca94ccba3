-- Runs exist: every input, table and list of calls at seconds within their range has a run. Assumes nothing.
use mathlib.Core.Path.{◌≡◌, refl}
use mathlib.Core.List.{List, [], ◌∷◌}
use mathlib.Core.Bool.{Bool, true, false, cond}
use mathlib.Core.Option.{Option, none, some}
use Prim.Native.Nat.{ℕ, ◌<◌}
use lib.ListN.{length, drop}
use lib.Seq.{sets}
use lib.Dec.{ltb}
use Rattle.wire.specs.Codec as wire
use Rattle.wire.specs.Codec.{Read, Valid, Bytes}
use Rattle.message.specs.Request.{Request, request}
use Rattle.message.proofs.RequestLaws.{request_laws}
use Rattle.map.specs.State.{State}
use Rattle.map.specs.Table.{IsTable, Ascending}
use Rattle.map.specs.Step as map-step
use Rattle.map.specs.Step.{Context, Outcome, answered, step}
use Rattle.map.specs.Reply.{flat}
use Rattle.map.proofs.Keeps.{keeps}
use Rattle.table.specs.Memory.{state_of, Sound}
use Rattle.service.specs.Serve.{Effect, refused, unchanged, on_step, on_read, serve, room, within}
use Rattle.service.specs.Stream.{Call, Done, Becomes, Serves, Run, run_end, run_call}
use Rattle.wire.proofs.Laws.{bytes_drop}
use Rattle.table.specs.Image.{image}
use Rattle.table.proofs.HasImage.{has_image}
use Rattle.service.proofs.Decides.{is_sound}
use Rattle.service.proofs.Sounds.{is-sound, tells-sound, effect_in}
use Rattle.service.proofs.Calls.{within_has}

-- "Each call is given a second, 0 to 4,294,967,295."
abbrev InRange : List Call → Type 0
InRange [] = Unit {0}
InRange (c ∷ cs) = (c.context.second < 0x1_0000_0000) × InRange cs

-- a state that a table can hold, in its order
abbrev Fits : Option State → Type 0
Fits none = Unit {0}
Fits (some st) = IsTable st × Ascending st.entries

module _ (input : List ℕ) (b : Bytes input) (c : Context) (h : c.second < 0x1_0000_0000) (t : List ℕ) (s : Sound t) where
  fits-step : (r : Request) (n : ℕ) → Valid request r → (o : Outcome) → step c r (state_of t) ≡ o → Fits (on_step r n o).next
  unfolding on_step
  fits-step r n v (map-step.refused k) e = tt
  fits-step r n v (answered a st) e =
      keeps c r (state_of t) s.table a st e v h s.layout.order

  fits_read : (x : Read Request) → request.dec input ≡ x → Fits (on_read input c (state_of t) x).next
  unfolding on_read unchanged
  fits_read (wire.whole r n) e = fits-step r n (request_laws.exact input r n b e).good (step c r (state_of t)) refl
  fits_read wire.more e = tt
  fits_read (wire.refused k) e = tt

fits : (input : List ℕ) → Bytes input → (t : List ℕ) (c : Call) → c.context.second < 0x1_0000_0000 → Fits (effect_in input t c).next
unfolding serve unchanged
fits input b t c h = go (ltb (length c.buffer) room) (is_sound t) refl
  where
    go : (x y : Bool) → is_sound t ≡ y
        → Fits (cond x (unchanged (refused 12)) (cond y (within (length c.buffer) (request.dec input) (on_read input c.context (state_of t) (request.dec input))) (unchanged (refused 13)))).next
    go true y e = tt
    go false true e = within_has (λ (f : Effect). Fits f.next) (length c.buffer) (request.dec input) (on_read input c.context (state_of t) (request.dec input)) (λ n. tt)
        (fits_read input b c.context h t (is-sound t e) (request.dec input) refl)
    go false false e = tt

-- the table after a call: the sound image of the state that is left
unfoldable left : List ℕ → Option State → List ℕ
left old none = old
left old (some st) = image st

left_is : (old : List ℕ) (n : Option State) → Fits n → Becomes old n (left old n)
unfolding left
left_is old none f = refl
left_is old (some st) f = let x = has_image st f.0 f.1 in (x.state, x.sound)

unfoldable doing : List ℕ → List ℕ → Call → Done
doing input t c =
    record {
      answer = (effect_in input t c).answer;
      size = length (flat (effect_in input t c).sent);
      buffer = sets c.buffer 0 (flat (effect_in input t c).sent);
      table = left t (effect_in input t c).next;
    }

serves : (input : List ℕ) → Bytes input → (t : List ℕ) (c : Call) → c.context.second < 0x1_0000_0000 → Serves input t c (doing input t c)
unfolding doing
serves input b t c h =
    record {
      ok = is_sound t;
      tells = tells-sound t;
      does = record { answer = refl; size = refl; buffer = refl; table = left_is t (effect_in input t c).next (fits input b t c h) };
    }

pub exists : (input : List ℕ) → Bytes input → (t : List ℕ) (cs : List Call) → InRange cs → (ds : List Done) × Run input t cs ds
exists input b t [] h = ([], run_end)
exists input b t (c ∷ cs) h =
    let d = doing input t c in
    let z = exists (drop d.answer.taken input) (bytes_drop d.answer.taken input b) d.table cs h.1 in
    (d ∷ z.0, run_call (serves input b t c h.0) z.1)
