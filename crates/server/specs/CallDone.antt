-- What the answers of a call and of a stream of calls say: what was taken and sent, and what the call left.
use Rattle.std.specs.Prelude.{◌≡◌, List, ℕ, ◌-◌, ◌≤◌, length, take, drop}
use Rattle.std.proofs.lemmas.List.Edits.{sets}
use Rattle.field.specs.declared.refusals.Refusal.{Refusal}
use Rattle.field.specs.Refusal.{number_of}
use Rattle.map.specs.Reply.{Piece, flat}
use Rattle.service.specs.Serve as stream
use Rattle.map.specs.Step as map
use Rattle.table.specs.Memory.{Sound}
use Rattle.service.specs.Stream.{Done, Serves}
use Rattle.service.specs.Many.{Total, at}
use Rattle.server.specs.declared.context.Context.{Context}
use Rattle.server.specs.declared.Verdict.{Verdict}
use Rattle.server.specs.declared.Verdict.TheVariants as v
use Rattle.server.specs.declared.Answer.{Answer}
use Rattle.server.specs.declared.Streamed.{Streamed}

-- how a call of the code ended, by the number that a refusal has
abbrev pub as_verdict_by : {R : Type 0} → (R → ℕ) → Verdict R → stream.Verdict
as_verdict_by number v.Served = stream.served
as_verdict_by number v.More = stream.more
as_verdict_by number (v.Refused k) = stream.refused (number k)
as_verdict_by number v.Full = stream.full

abbrev pub as_verdict : Verdict Refusal → stream.Verdict
as_verdict v = as_verdict_by number_of v

abbrev pub as_answer : Answer → stream.Answer
as_answer a = record { taken = a.taken; verdict = as_verdict a.verdict }

-- what a call is given beside its request, as the map says it
abbrev pub as_context : Context → map.Context
as_context c = map.context_of c.second.0

-- what a call left
abbrev pub done_of : Answer → List ℕ → List ℕ → Done
done_of a buffer table = record { answer = as_answer a; size = a.size; buffer = buffer; table = table }

-- what a stream of calls left
abbrev pub total_of : Streamed → List ℕ → List ℕ → Total
total_of a buffer table =
    record { taken = a.taken; size = a.size; calls = a.calls; verdict = as_verdict a.verdict; buffer = buffer; table = table }

-- the answer has these parts
pub record Says (n m : ℕ) (v : stream.Verdict) (a : Answer) : Type 0 where
  pub taken : a.taken ≡ n
  pub size : a.size ≡ m
  pub verdict : as_verdict a.verdict ≡ v

-- an answer with the pieces sent at the front of the reply buffer, which else keeps its bytes
pub record Sends (ps : List Piece) (n : ℕ) (v : stream.Verdict) (old new : List ℕ) (a : Answer) : Type 0 where
  pub says : Says n (length (flat ps)) v a
  pub buffer : new ≡ sets old 0 (flat ps)

-- a stream may go on: the table is sound, and there is room behind what is sent
pub record Ready (input : List ℕ) (taken : ℕ) (table reply : List ℕ) (size : ℕ) : Type 0 where
  pub sound : Sound table
  pub within : taken ≤ length input
  pub sized : size ≤ length reply
  pub room : stream.room ≤ length reply - size

-- a call of a stream, which keeps what is sent already
pub record CallsAt (c : map.Context) (input : List ℕ) (taken : ℕ) (table old : List ℕ) (size : ℕ) (a : Answer) (new after : List ℕ) : Type 0 where
  pub serves : Serves (drop taken input) table (at c (drop size old)) (done_of a (drop size new) after)
  pub front : take size new ≡ take size old
  pub long : length new ≡ length old
