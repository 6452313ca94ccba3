-- One call on a row that begins with a written request. Assumes nothing.
use mathlib.Core.Path.{◌≡◌, refl, ◌∙◌}
use mathlib.Core.List.{List, [], ◌∷◌, ◌++◌}
use mathlib.Core.Bool.{Bool, true, false, cond, ◌||◌}
use mathlib.Core.Option.{none, some}
use Prim.Native.Nat.{ℕ, ◌≤◌, ◌<◌}
use native.Mathlib.Omega.{arith}
use lib.ListN.{length}
use lib.Dec.{eqb, ltb}
use borrow.Author.Tests.{ne_eqb, eqb-false, le-ltb, lt-ltb}
use Rattle.wire.specs.Codec as wire
use Rattle.wire.specs.Codec.{Read, Valid}
use Rattle.wire.proofs.Basics.{pick}
use Rattle.message.specs.declared.Operation.{Operation}
use Rattle.message.specs.declared.Operation.TheVariants.{BulkGet, BulkGetKeys}
use Rattle.message.specs.Request.{Request, request}
use Rattle.message.specs.Start.{id_in}
use Rattle.message.proofs.RequestLaws.{request_laws}
use Rattle.message.proofs.Lists.{some_byte}
use Rattle.map.specs.History.{is}
use Rattle.map.specs.State.{State}
use Rattle.map.specs.Step as map-step
use Rattle.map.specs.Step.{Context, Outcome, answered, step}
use Rattle.map.specs.Reply.{pieces}
use Rattle.service.specs.Serve.{Verdict, served, more, refused, Effect, effect, error_pieces, unchanged, on_step, on_read, serve, room, bulk_room, room_of, within}
use Rattle.service.specs.Many.{goes_on}

-- a whole request, by the room that it asks for
abbrev pub on_whole : ℕ → Request → ℕ → Outcome → Effect
on_whole space r n o = cond (ltb space (room_of r.op)) (effect n (refused 12) [] none) (on_step r n o)

pub room-least : (o : Operation) → room ≤ room_of o
unfolding room_of
room-least o = pick (λ (n : ℕ). room ≤ n) (is BulkGet o || is BulkGetKeys o) (λ e. omega arith) (omega arith)

pub room_most : (o : Operation) → room_of o ≤ bulk_room
unfolding room_of
room_most o = pick (λ (n : ℕ). n ≤ bulk_room) (is BulkGet o || is BulkGetKeys o) (λ e. omega arith) (omega arith)

-- a request, by whether there is the room that it asks for
module _ (space : ℕ) (r : Request) (n : ℕ) (e : Effect) where
  pub within-fits : room_of r.op ≤ space → within space (wire.whole r n) e ≡ e
  unfolding within
  within-fits h = rw (le-ltb space (room_of r.op) h)

  pub within-short : space < room_of r.op → within space (wire.whole r n) e ≡ effect n (refused 12) [] none
  unfolding within
  within-short h = rw (lt-ltb space (room_of r.op) h)

-- where there is room for any reply
pub roomy-within : (space : ℕ) (x : Read Request) (e : Effect) → bulk_room ≤ space → within space x e ≡ e
unfolding within
roomy-within space (wire.whole r n) e h = within-fits space r n e (omega (arith, room_most r.op))
roomy-within space wire.more e h = refl
roomy-within space (wire.refused k) e h = refl

-- what holds of an effect, and of a request that is taken and refused 12, holds within any room
pub within_has : (Q : Effect → Type 0) (space : ℕ) (x : Read Request) (e : Effect) → ((n : ℕ) → Q (effect n (refused 12) [] none)) → Q e
    → Q (within space x e)
unfolding within
within_has Q space (wire.whole r n) e s q = go (ltb space (room_of r.op))
  where
    go : (k : Bool) → Q (cond k (effect n (refused 12) [] none) e)
    go true = s n
    go false = q
within_has Q space wire.more e s q = q
within_has Q space (wire.refused k) e s q = q

-- What holds of every call: it is quiet, sends an error reply, or sends the answer of a step.
module _ (E : Effect → Type 0) (c : Context) (st : State) (quiet : (n : ℕ) (v : Verdict) → E (effect n v [] none))
    (error : (n k id : ℕ) → E (effect n (refused k) (error_pieces k id) none))
    (answer : (r : Request) (n : ℕ) (a : map-step.Result) (t : State) → step c r st ≡ answered a t → E (effect n served (pieces r a) (some t))) where
  every-step : (r : Request) (n : ℕ) (o : Outcome) → step c r st ≡ o → E (on_step r n o)
  unfolding on_step
  every-step r n (map-step.refused k) e = error n k r.id
  every-step r n (answered a t) e = answer r n a t e

  every-read : (input : List ℕ) (x : Read Request) → E (on_read input c st x)
  unfolding on_read unchanged
  every-read input (wire.whole r n) = every-step r n (step c r st) refl
  every-read input wire.more = quiet 0 more
  every-read input (wire.refused k) = error 0 k (id_in input)

  pub every_call : (input : List ℕ) (ok : Bool) (space : ℕ) → E (serve input ok st c space)
  unfolding serve unchanged
  every_call input ok space = go (ltb space room) ok
    where
      x : Read Request
      x = request.dec input

      go : (a b : Bool) → E (cond a (unchanged (refused 12)) (cond b (within space x (on_read input c st x)) (unchanged (refused 13))))
      go true b = quiet 0 (refused 12)
      go false true = within_has E space x (on_read input c st x) (λ n. quiet n (refused 12)) (every-read input x)
      go false false = quiet 0 (refused 13)

pub serve-at : (r : Request) → Valid request r → (t : List ℕ) (ok : Bool) (st : State) (second : Context) (space : ℕ)
    → serve (request.enc r ++ t) ok st second space
    ≡ cond (ltb space room) (unchanged (refused 12)) (cond ok (on_whole space r (length (request.enc r)) (step second r st)) (unchanged (refused 13)))
unfolding serve on_read within
serve-at r v t ok st second space = rw (request_laws.round r t v)

no_length : (l : List ℕ) → length l ≡ 0 → l ++ [] ≡ []
no_length [] e = refl
no_length (x ∷ l) e = absurd (omega arith)

pub some-taken : (r : Request) → Valid request r → eqb (length (request.enc r)) 0 ≡ false
some-taken r v = ne_eqb (length (request.enc r)) 0 (λ q. some_byte r v [] (no_length (request.enc r) q))

-- a request that asks for more room than there is, where there are 512 bytes: it is taken, nothing is sent or changed, and the stream goes on
module _ (r : Request) (v : Valid request r) (t : List ℕ) (st : State) (c : Context) (space : ℕ) (h : room ≤ space) (l : space < room_of r.op) where
  pub short-serve : serve (request.enc r ++ t) true st c space ≡ effect (length (request.enc r)) (refused 12) [] none
  short-serve = serve-at r v t true st c space ∙ rw (le-ltb space room h, lt-ltb space (room_of r.op) l)

  pub short-goes : goes_on (serve (request.enc r ++ t) true st c space).answer ≡ true
  short-goes = rw short-serve (lt-ltb 0 (length (request.enc r)) (omega (arith, eqb-false (length (request.enc r)) 0 (some-taken r v))))
