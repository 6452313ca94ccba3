-- The claim about lists of requests and streams, as one record.
use Rattle.std.specs.Prelude.{◌≡◌, List, [], ◌∷◌, ◌++◌, map, Bool, cond, ℕ, zero, suc, ◌≤◌, length, take, drop, eqb, ltb}
use Rattle.std.proofs.lemmas.List.Edits.{sets}
use Rattle.wire.specs.Codec.{Bytes}
use Rattle.message.specs.Request.{Request, request}
use Rattle.message.specs.Value.{with_value}
use Rattle.message.specs.Written.{written, WellFormed, Begins}
use Rattle.message.specs.Reply.{error_reply}
use Rattle.message.specs.Refusal.{refusal}
use Rattle.map.specs.State.{State}
use Rattle.map.specs.Step as map-step
use Rattle.map.specs.Step.{Outcome, answered, step, state_after}
use Rattle.map.specs.Revalue.{state_with, pieces_with}
use Rattle.map.specs.Reply.{Piece, flat, pieces}
use Rattle.table.specs.Memory.{state_of, Sound}
use Rattle.table.specs.Found.{Tells}
use Rattle.service.specs.Serve.{Answer, Effect, Verdict, served, refused, room_of}
use Rattle.service.specs.Stream.{Call, Done, effect_of, Run}

-- what is seen of a call: its answer, the number of bytes sent and the buffer with them, and the state after it ("Of tables, the map's state is
-- compared")
pub record Seen : Type 0 where
  pub answer : Answer
  pub size : ℕ
  pub buffer : List ℕ
  pub state : State

abbrev pub seen : Done → Seen
seen d = record { answer = d.answer; size = d.size; buffer = d.buffer; state = state_of d.table }

abbrev pub verdict_of : Outcome → Verdict
verdict_of (map-step.refused k) = refused k
verdict_of (answered a st) = served

-- the bytes of the reply to a request, by the outcome of its step
abbrev pub reply_bytes : Request → Outcome → List ℕ
reply_bytes r (map-step.refused k) = error_reply.enc (refusal k r.id)
reply_bytes r (answered a st) = flat (pieces r a)

unfoldable pub seen_of : Request → List ℕ → State → Outcome → Seen
seen_of r lent st o =
    record {
      answer = record { taken = length (request.enc r); verdict = verdict_of o };
      size = length (reply_bytes r o);
      buffer = sets lent 0 (reply_bytes r o);
      state = state_after st o;
    }

-- the simple map alone: the requests in these calls, as far as both go
unfoldable pub play : List Request → List Call → State → List Seen
play [] cs st = []
play (r ∷ rs) [] st = []
play (r ∷ rs) (c ∷ cs) st =
    seen_of r c.buffer st (step c.context r st) ∷ play rs cs (state_after st (step c.context r st))

-- the first calls, one for each request, have "room enough, not refused 12"
abbrev pub Roomy : List Request → List Call → Type 0
Roomy [] cs = Unit {0}
Roomy (r ∷ rs) [] = Unit {0}
Roomy (r ∷ rs) (c ∷ cs) = (room_of r.op ≤ length c.buffer) × Roomy rs cs

-- "at the same seconds and with the same reply room"
pub data SameCalls : List Call → List Call → Type 0 where
  same_end : SameCalls [] []
  same-call : {c c' : Call} {cs cs' : List Call} → c'.context ≡ c.context → length c'.buffer ≡ length c.buffer → SameCalls cs cs'
      → SameCalls (c ∷ cs) (c' ∷ cs')

-- how far a stream has come with one request of its input
pub data Progress : Type 0 where
  -- so many requests stand before it
  ahead : ℕ → Progress
  -- it was served, and its step issued the version: "A request wrote the entry whose version its step issued"
  wrote : ℕ → Progress
  -- it was served, and its step issued none
  gone : Progress

abbrev pub passes : ℕ → ℕ → ℕ → Progress
passes zero l l' = cond (ltb l l') (wrote l') gone
passes (suc n) l l' = ahead n

-- after a call that took so many bytes, with the last version issued before and after it
abbrev pub after : Progress → ℕ → ℕ → ℕ → Progress
after (ahead n) taken l l' = cond (eqb taken 0) (ahead n) (passes n l l')
after (wrote v) taken l l' = wrote v
after gone taken l l' = gone

abbrev pub progress : Progress → List ℕ → Done → Progress
progress p table d = after p d.answer.taken (state_of table).last (state_of d.table).last

-- a state with the value w for the entry that the request wrote, and all else as it is
abbrev pub state_but : Progress → List ℕ → State → State
state_but (ahead n) w st = st
state_but (wrote v) w st = state_with v w st
state_but gone w st = st

-- a reply with the value w where it shows the entry that the request wrote ("'that value' in a reply is this entry's"), and all its other bytes
abbrev pub sent_but : Progress → List ℕ → List Piece → List Piece
sent_but (ahead n) w ps = ps
sent_but (wrote v) w ps = pieces_with v w ps
sent_but gone w ps = ps

-- two calls, at progress p before and q after them: the value is u in the one and w in the other; e is the effect of the one
pub record Alike (u w : List ℕ) (p q : Progress) (e : Effect) (c c' : Call) (d d' : Done) : Type 0 where
  pub answer : d'.answer ≡ d.answer
  pub size : d'.size ≡ d.size
  pub reply : d.buffer ≡ sets c.buffer 0 (flat e.sent)
  pub reply' : d'.buffer ≡ sets c'.buffer 0 (flat (sent_but p w e.sent))
  pub shows : sent_but p u e.sent ≡ e.sent
  pub state : state_of d'.table ≡ state_but q w (state_of d.table)
  pub holds : state_but q u (state_of d.table) ≡ state_of d.table

-- call for call; input and table are those of the one
pub data Independent (u w : List ℕ) : Progress → List ℕ → List ℕ → List Call → List Call → List Done → List Done → Type 0 where
  end : {p : Progress} {input table : List ℕ} → Independent u w p input table [] [] [] []
  call : {p : Progress} {input table : List ℕ} {c c' : Call} {cs cs' : List Call} {d d' : Done} {ds ds' : List Done} {ok : Bool}
      → Tells ok (Sound table) → Alike u w p (progress p table d) (effect_of ok input table c) c c' d d'
      → Independent u w (progress p table d) (drop d.answer.taken input) d.table cs cs' ds ds'
      → Independent u w p input table (c ∷ cs) (c' ∷ cs') (d ∷ ds) (d' ∷ ds')

-- two inputs that have u and w in one place, and else the same bytes
pub record SameBut (u w input input' : List ℕ) : Type 0 where
  pub front : List ℕ
  pub back : List ℕ
  pub this : input ≡ front ++ (u ++ back)
  pub other : input' ≡ front ++ (w ++ back)

-- demand 3
pub record Demand3 : Type 0 where
  -- "If one row of bytes begins the other, its list begins the other's list."
  pub lists : (rs ss : List Request) → WellFormed rs → WellFormed ss → Begins (written rs) (written ss) → Begins rs ss
  -- "The first calls, one for each request, read exactly that list in its order: each takes just its request's bytes, and its reply and the table
  -- after it are those of the simple map from that table."
  pub served : (rs : List Request) (tail table : List ℕ) (calls : List Call) (dones : List Done) → WellFormed rs → Sound table
      → Roomy rs calls → Run (written rs ++ tail) table calls dones
      → take (length rs) (map seen dones) ≡ play rs calls (state_of table)
  -- "let bytes of one request's value in the row change, but not its length": the request with another value changes these bytes alone
  pub changed : (before behind : List Request) (r : Request) (w tail : List ℕ) → WellFormed (before ++ (r ∷ behind)) → length w ≡ length r.args.value
      → SameBut r.args.value w (written (before ++ (r ∷ behind)) ++ tail) (written (before ++ (with_value w r ∷ behind)) ++ tail)
  -- "Then for every list of calls, refused ones included, at the same seconds and with the same reply room, both give the same answers, every reply
  -- keeps all its bytes but those of that value, and after each call the tables differ at most in the entry that request wrote, and there in the
  -- value alone."
  pub values : (before behind : List Request) (r : Request) (w tail table : List ℕ) (calls calls' : List Call) (dones dones' : List Done)
      → WellFormed (before ++ (r ∷ behind)) → length w ≡ length r.args.value → Bytes w → SameCalls calls calls'
      → Run (written (before ++ (r ∷ behind)) ++ tail) table calls dones
      → Run (written (before ++ (with_value w r ∷ behind)) ++ tail) table calls' dones'
      → Independent r.args.value w (ahead (length before)) (written (before ++ (r ∷ behind)) ++ tail) table calls calls' dones dones'
