-- What expiry means on a stream (document 02, C-15).
use Rattle.std.specs.Prelude.{◌≡◌, List, [], ◌∷◌, Bool, ℕ, ◌≤◌, drop}
use Rattle.std.proofs.lemmas.List.Edits.{sets}
use Rattle.message.specs.Request.{Request}
use Rattle.map.specs.State.{State}
use Rattle.map.specs.Step.{Context, Result, answered, present, step}
use Rattle.map.specs.Reply.{Piece, flat, pieces}
use Rattle.map.specs.Expiry.{Stands, ShowsEach}
use Rattle.table.specs.Memory.{state_of, Sound}
use Rattle.table.specs.Found.{Tells}
use Rattle.service.specs.Serve.{error_pieces}
use Rattle.service.specs.Stream.{Call, Done, effect_of}

-- What a call sends: nothing, an error reply, or the reply to a request whose step shows, by value or by key alone, no entry but those that stand at the
-- present second.
pub data Sends (c : Context) (st : State) : List Piece → Type 0 where
  silence : Sends c st []
  error : (k id : ℕ) → Sends c st (error_pieces k id)
  reply : (r : Request) (a : Result) (t : State) → step c r st ≡ answered a t → ShowsEach (Stands (present c st)) a.shown → Sends c st (pieces r a)

pub record InTime (input table : List ℕ) (c : Call) (d : Done) : Type 0 where
  pub ok : Bool
  pub tells : Tells ok (Sound table)
  pub buffer : d.buffer ≡ sets c.buffer 0 (flat (effect_of ok input table c).sent)
  pub sends : Sends c.context (state_of table) (effect_of ok input table c).sent

-- call for call
abbrev pub AllInTime : List ℕ → List ℕ → List Call → List Done → Type 0
AllInTime input table [] ds = Unit {0}
AllInTime input table (c ∷ cs) [] = Unit {0}
AllInTime input table (c ∷ cs) (d ∷ ds) = InTime input table c d × AllInTime (drop d.answer.taken input) d.table cs ds

-- the latest second served never falls, from n on
abbrev pub Rises : ℕ → List Done → Type 0
Rises n [] = Unit {0}
Rises n (d ∷ ds) = (n ≤ (state_of d.table).history.latest) × Rises (state_of d.table).history.latest ds
